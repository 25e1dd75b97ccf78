-- What a table is like that some lines read as: its points and its rows. The table is a text and a content, as it is lent.
-- Short names: u the undefined byte, c the content, ps the pairs that are left, k the points before, t a table's number. Assumes nothing.
use Prim.Native.Nat.{ℕ, zero, suc, ◌+◌, ◌*◌, ◌≤◌}
use mathlib.Core.Path.{◌≡◌}
use mathlib.Core.Bool.{Bool, true, false, ◌&&◌}
use mathlib.Core.List.{List, [], ◌∷◌, ◌++◌}
use lib.Dec.{eqb, ltb}
use lib.IntN.{ℤ, pos, nat_abs}
use lib.ListN.{length, drop, get_or, set, replicate}
use Rattle.meaning.specs.Bytes.{text_byte, every}
use Rattle.meaning.specs.Model.{Component, AttributeType, Reference, Text, found, missing, target_of, Table, Model, table_at}
use Rattle.meaning.specs.Field.{STPT, LIPT, ARCP}
use Rattle.meaning.specs.Value.{pair, is_identification, value_of}
use Rattle.meaning.specs.Row.{Pair, OfAttribute, OfComponent, OfLine, pairs_of}
use Rattle.meaning.specs.Reading.{LineState, unstarted, reached, LineCode, stpt, lipt, arcp, point, move, is_forbidden, Content, find_topic, find_table, mandatory_between, is_used}
use Rattle.meaning.specs.Table.{find_object}
use Rattle.meaning.specs.Writing.{stretch_bytes, identification_bytes, type_bytes, rows_of_table, rows_behind_table, rows_behind_topic, is_delivered}
use Rattle.meaning.specs.Readback.{is_text}
unfoldable pub use Rattle.meaning.specs.Judge.{lent_objects}
use Rattle.meaning.proofs.Reading.Fields.{Solid}
use Rattle.meaning.proofs.Values.Numerals.{Defined, NumberOk}

-- ## Points

pub data Kind : Type 0 where
  starts straight arc : Kind

unfoldable pub kind_cell : Kind → ℕ
kind_cell starts = 0
kind_cell straight = 1
kind_cell arc = 2

unfoldable pub kind_bytes : Kind → List ℕ
kind_bytes starts = STPT
kind_bytes straight = LIPT
kind_bytes arc = ARCP

unfoldable pub kind_code : Kind → LineCode
kind_code starts = stpt
kind_code straight = lipt
kind_code arc = arcp

-- a point's east, north, and height or 0
pub data PointValues (u : ℕ) : List Component → ℤ → ℤ → ℤ → Type 0 where
  flat : {k₁ k₂ : Component} {x y : ℤ} → NumberOk u k₁ x → NumberOk u k₂ y → PointValues u (k₁ ∷ k₂ ∷ []) x y (pos 0)
  spatial : {k₁ k₂ k₃ : Component} {x y z : ℤ} → NumberOk u k₁ x → NumberOk u k₂ y → NumberOk u k₃ z → PointValues u (k₁ ∷ k₂ ∷ k₃ ∷ []) x y z

-- so many points that end a line, from a line state on; more may stand behind them
pub data PointsOk (u forms : ℕ) (ks : List Component) : LineState → ℕ → List ℤ → Type 0 where
  end : {points : List ℤ} → PointsOk u forms ks reached zero points
  add : {state next : LineState} {n : ℕ} {x y z : ℤ} {points : List ℤ} (kind : Kind) → move state (kind_code kind) ≡ point (kind_cell kind) next
      → is_forbidden forms state (kind_code kind) ≡ false → PointValues u ks x y z → PointsOk u forms ks next n points
      → PointsOk u forms ks state (suc n) (pos (kind_cell kind) ∷ x ∷ y ∷ z ∷ points)

-- ## Rows

-- the pairs of a row whose cells are these, and its line attributes from point k on, up to another point
pub data RowOk (u : ℕ) (text : List ℕ) (c : Content) : (before : Bool) (k : ℕ) → List Pair → List ℤ → ℕ → Type 0 where
  done : {before : Bool} {k : ℕ} {cs : List ℤ} → RowOk u text c before k [] cs k
  absent : {before : Bool} {k k' : ℕ} {type : AttributeType} {ps : List Pair} {cs : List ℤ} → RowOk u text c false k ps cs k'
      → RowOk u text c before k (OfAttribute true type ∷ ps) (pos 0 ∷ pos 0 ∷ cs) k'
  plain : {before o : Bool} {k k' : ℕ} {type : AttributeType} {ps : List Pair} {a b : ℤ} {cs : List ℤ} → is_text type ≡ false → target_of type ≡ missing → eqb (nat_abs a) 0 ≡ false
      → Defined u (type_bytes text c type a b) → ((start : ℕ) → value_of type (record { start = start; bytes = type_bytes text c type a b }) ≡ pair a b)
      → RowOk u text c true k ps cs k' → RowOk u text c before k (OfAttribute o type ∷ ps) (a ∷ b ∷ cs) k'
  word : {before o : Bool} {k k' longest : ℕ} {ps : List Pair} {b : ℤ} {cs : List ℤ} (f : List ℕ) → Defined u f → every text_byte f ≡ true → ltb longest (length f) ≡ false
      → stretch_bytes text b (length f) ≡ f
      → RowOk u text c true k ps cs k' → RowOk u text c before k (OfAttribute o (Text longest) ∷ ps) (pos (1 + length f) ∷ b ∷ cs) k'
  name : {before o : Bool} {k k' target n : ℕ} {ps : List Pair} {cs : List ℤ} (f : List ℕ) → Defined u f → is_identification f ≡ true
      → identification_bytes text c.cells (get_or c.rows n 0) ≡ f → find_object target 0 f (lent_objects text c.cells c.rows) ≡ found n
      → RowOk u text c true k ps cs k' → RowOk u text c before k (OfAttribute o (Reference target) ∷ ps) (pos 1 ∷ pos n ∷ cs) k'
  without : {k k' : ℕ} {x : Component} {ps : List Pair} {cs : List ℤ} → RowOk u text c false k ps cs k'
      → RowOk u text c false k (OfComponent x ∷ ps) (pos 0 ∷ pos 0 ∷ cs) k'
  along : {k k' : ℕ} {x : Component} {ps : List Pair} {b : ℤ} {cs : List ℤ} → NumberOk u x b → RowOk u text c true k ps cs k'
      → RowOk u text c true k (OfComponent x ∷ ps) (pos 1 ∷ b ∷ cs) k'
  no_line : {before : Bool} {k k' forms : ℕ} {ks : List Component} {ps : List Pair} {cs : List ℤ} → RowOk u text c before k ps cs k'
      → RowOk u text c before k (OfLine true forms ks ∷ ps) (pos 0 ∷ pos 0 ∷ cs) k'
  line : {before o : Bool} {k k' forms : ℕ} {ks : List Component} {ps : List Pair} {cs : List ℤ} (n : ℕ) → 4 * (k + suc n) ≤ length c.points
      → PointsOk u forms ks unstarted (suc n) (drop (4 * k) c.points) → RowOk u text c before (k + suc n) ps cs k'
      → RowOk u text c before k (OfLine o forms ks ∷ ps) (pos (1 + suc n) ∷ pos k ∷ cs) k'

-- an identification
pub record IdentificationOk (u : ℕ) (i : List ℕ) : Type 0 where
  pub field : Defined u i
  pub shape : is_identification i ≡ true

-- the object of table t whose row starts at this cell, behind these rows
pub record ObjectOk (m : Model) (text : List ℕ) (c : Content) (t : ℕ) (before : List ℕ) (at k k' : ℕ) : Type 0 where
  pub table : get_or c.cells at (pos 0) ≡ pos t
  pub size : get_or c.cells (at + 2) (pos 0) ≡ pos (length (identification_bytes text c.cells at))
  pub identification : IdentificationOk m.undefined (identification_bytes text c.cells at)
  pub fresh : is_used (identification_bytes text c.cells at) (lent_objects text c.cells before) ≡ false
  pub row : RowOk m.undefined text c true k (pairs_of (table_at m.tables t).attributes) (drop (at + 3) c.cells) k'
  pub room : at + (3 + 2 * length (pairs_of (table_at m.tables t).attributes)) ≤ length c.cells

-- ## Topics and tables

-- where the lines of a table have come to:
--   topics_from from p names         topic `from` or a later one is due, and p is the first of the topics left, which have these names
--   tables_from p from n ts names    in topic p table `from` or a later one is due, and n is the first of the tables left
--   objects p t ts names            objects of table t are due
pub data Place : Type 0 where
  topics_from : (from p : ℕ) (names : List (List ℕ)) → Place
  tables_from : (p from n : ℕ) (ts : List Table) (names : List (List ℕ)) → Place
  objects : (p t : ℕ) (ts : List Table) (names : List (List ℕ)) → Place

-- from a place on the rest of a table is fine: behind these marks and rows, from this cell and point on, where these rows are left
pub data Rest (m : Model) (text : List ℕ) (c : Content) : Place → (marks before : List ℕ) (at k : ℕ) (rows : List ℕ) → Type 0 where
  finished : {from p at k : ℕ} {marks before : List ℕ} → marks ≡ c.marks → before ≡ c.rows → at ≡ length c.cells → 4 * k ≡ length c.points
      → Rest m text c (topics_from from p []) marks before at k []
  topic_out : {from p at k : ℕ} {name : List ℕ} {names : List (List ℕ)} {marks before rows : List ℕ} → is_delivered c p ≡ false
      → Rest m text c (topics_from from (p + 1) names) marks before at k rows → Rest m text c (topics_from from p (name ∷ names)) marks before at k rows
  topic_in : {from p at k : ℕ} {name : List ℕ} {names : List (List ℕ)} {marks before rows : List ℕ} → is_delivered c p ≡ true → Solid name → find_topic from 0 name m.topics ≡ found p
      → Rest m text c (tables_from p 0 0 m.tables names) (set marks p 1) before at k rows → Rest m text c (topics_from from p (name ∷ names)) marks before at k rows
  topic_end : {p from n at k : ℕ} {names : List (List ℕ)} {marks before rows : List ℕ} → mandatory_between p from (length m.tables) 0 m.tables ≡ false
      → rows_behind_topic m.tables p c.cells rows ≡ rows
      → Rest m text c (topics_from (p + 1) (p + 1) names) marks before at k rows → Rest m text c (tables_from p from n [] names) marks before at k rows
  table_out : {p from n at k : ℕ} {table : Table} {ts : List Table} {names : List (List ℕ)} {marks before rows : List ℕ}
      → (eqb table.topic p && is_delivered c (length m.topics + n)) ≡ false
      → Rest m text c (tables_from p from (n + 1) ts names) marks before at k rows → Rest m text c (tables_from p from n (table ∷ ts) names) marks before at k rows
  table_in : {p from n at k : ℕ} {table : Table} {ts : List Table} {names : List (List ℕ)} {marks before rows : List ℕ}
      → (eqb table.topic p && is_delivered c (length m.topics + n)) ≡ true → table_at m.tables n ≡ table → Solid table.name
      → find_table p from 0 table.name m.tables ≡ found n → mandatory_between p from n 0 m.tables ≡ false
      → Rest m text c (objects p n ts names) (set marks (length m.topics + n) 1) before at k rows → Rest m text c (tables_from p from n (table ∷ ts) names) marks before at k rows
  object : {p t at k k' : ℕ} {ts : List Table} {names : List (List ℕ)} {marks before rows : List ℕ} → ObjectOk m text c t before at k k' → (table_at m.tables t).topic ≡ p
      → Rest m text c (objects p t ts names) marks (before ++ (at ∷ [])) (at + (3 + 2 * length (pairs_of (table_at m.tables t).attributes))) k' rows
      → Rest m text c (objects p t ts names) marks before at k (at ∷ rows)
  table_end : {p t at k : ℕ} {ts : List Table} {names : List (List ℕ)} {marks before rows : List ℕ} → (table_at m.tables t).topic ≡ p
      → rows_of_table t c.cells rows ≡ [] → rows_behind_table t c.cells rows ≡ rows
      → Rest m text c (tables_from p (t + 1) (t + 1) ts names) marks before at k rows → Rest m text c (objects p t ts names) marks before at k rows

-- a whole table is fine
abbrev pub Valid : Model → (text : List ℕ) → Content → Type 0
Valid m text c = Rest m text c (topics_from 0 0 m.topics) (replicate (length m.topics + length m.tables) 0) [] 0 0 c.rows
