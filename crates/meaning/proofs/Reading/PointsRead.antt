-- What the lines of an object's line attributes say, where they were not refused. Assumes nothing.
use Prim.Native.Nat.{ℕ, zero, suc, ◌+◌, ◌*◌, ◌-◌, ◌≤◌}
use native.Mathlib.Omega.{arith}
use mathlib.Core.Path.{◌≡◌, refl, sym, ap, ap₂, subst, ◌∙◌}
use mathlib.Core.Bool.{Bool, true, false, ◌||◌, false≢true}
use mathlib.Core.List.{List, [], ◌∷◌, ◌++◌, append_assoc, append-nil}
use lib.Dec.{eqb}
use lib.IntN.{ℤ, pos}
use lib.ListN.{length, drop, set, length-append}
use borrow.Author.Tests.{eqb-true, not-false}
use Rattle.meaning.specs.Unfold.{unfolded_text}
use Rattle.meaning.specs.Model.{Component, AttributeType, Model}
use Rattle.meaning.specs.Check.{special, good_component, good_components, is_dimension}
use Rattle.meaning.specs.Field.{Field, fields_of}
use Rattle.meaning.specs.Value.{within}
use Rattle.meaning.specs.Row.{Pair, OfAttribute, OfComponent, OfLine, Cells, cells, refused, point_cells}
use Rattle.meaning.specs.Reading.{LineState, unstarted, started, in_arc, reached, LineCode, stpt, lipt, arcp, elin, other, line_code_of, Move, unexpected, undefined_line, ended, point, move, is_forbidden, line_attributes, Underway, Due, object_of, line_of, nothing, due_lines, with_state, Content, State, behind, with_point, point_count, with_line, Rooms}
use Rattle.meaning.specs.Lines.{Step, go, no, bare, store_point, attribute_line, line_due, step_of, ran, after_step, run}
use Rattle.meaning.proofs.Tests.Unequal.{no_go, no_ran}
use Rattle.meaning.proofs.Tests.Refuse.{passed, both}
use Rattle.meaning.proofs.Reading.Stretches.{text_behind}
use Rattle.meaning.proofs.Values.Numerals.{number_writes}
use Rattle.meaning.proofs.Judge.Valid.{Kind, starts, straight, arc, kind_cell, kind_code, PointValues, flat, spatial, PointsOk, end, add}
use Rattle.meaning.proofs.Writing.Attributes.{set_pair, moved, moved_length, with_cells}
use Rattle.meaning.proofs.Reading.FieldsRead.{WithinAll, none, one, values_within}

-- ## Points

record KindOf (code : LineCode) (kind : ℕ) : Type 0 where
  is : Kind
  of_code : kind_code is ≡ code
  of_cell : kind_cell is ≡ kind

no_point : (kind : ℕ) (next : LineState) → unexpected ≡ point kind next → ⊥
no_point kind next h = let z : ◌≡◌ {A = ℕ} 0 1 = cc in omega arith

no_point_undefined : (kind : ℕ) (next : LineState) → undefined_line ≡ point kind next → ⊥
no_point_undefined kind next h = let z : ◌≡◌ {A = ℕ} 0 1 = cc in omega arith

no_point_ended : (kind : ℕ) (next : LineState) → ended ≡ point kind next → ⊥
no_point_ended kind next h = let z : ◌≡◌ {A = ℕ} 0 1 = cc in omega arith

kind_of : (state next : LineState) (code : LineCode) (kind : ℕ) → move state code ≡ point kind next → KindOf code kind
unfolding move kind_code kind_cell
kind_of unstarted next stpt kind h = record { is = starts; of_code = refl; of_cell = cc }
kind_of unstarted next lipt kind h = absurd (no_point kind next h)
kind_of unstarted next arcp kind h = absurd (no_point kind next h)
kind_of unstarted next elin kind h = absurd (no_point_undefined kind next h)
kind_of unstarted next other kind h = absurd (no_point kind next h)
kind_of started next stpt kind h = absurd (no_point kind next h)
kind_of started next lipt kind h = record { is = straight; of_code = refl; of_cell = cc }
kind_of started next arcp kind h = record { is = arc; of_code = refl; of_cell = cc }
kind_of started next elin kind h = absurd (no_point kind next h)
kind_of started next other kind h = absurd (no_point kind next h)
kind_of in_arc next stpt kind h = absurd (no_point kind next h)
kind_of in_arc next lipt kind h = record { is = straight; of_code = refl; of_cell = cc }
kind_of in_arc next arcp kind h = absurd (no_point kind next h)
kind_of in_arc next elin kind h = absurd (no_point kind next h)
kind_of in_arc next other kind h = absurd (no_point kind next h)
kind_of reached next stpt kind h = absurd (no_point kind next h)
kind_of reached next lipt kind h = record { is = straight; of_code = refl; of_cell = cc }
kind_of reached next arcp kind h = record { is = arc; of_code = refl; of_cell = cc }
kind_of reached next elin kind h = absurd (no_point_ended kind next h)
kind_of reached next other kind h = absurd (no_point kind next h)

-- which line states end, skip, or go on to which
data Told : LineState → Move → Type 0 where
  skips : Told unstarted undefined_line
  ends : Told reached ended
  to_started : {state : LineState} {kind : ℕ} → Told state (point kind started)
  to_arc : {state : LineState} {kind : ℕ} → Told state (point kind in_arc)
  to_reached : {state : LineState} {kind : ℕ} → Told state (point kind reached)
  nothing_told : {state : LineState} → Told state unexpected

told : (state : LineState) (code : LineCode) → Told state (move state code)
unfolding move
told unstarted stpt = to_started
told unstarted lipt = nothing_told
told unstarted arcp = nothing_told
told unstarted elin = skips
told unstarted other = nothing_told
told started stpt = nothing_told
told started lipt = to_reached
told started arcp = to_arc
told started elin = nothing_told
told started other = nothing_told
told in_arc stpt = nothing_told
told in_arc lipt = to_reached
told in_arc arcp = nothing_told
told in_arc elin = nothing_told
told in_arc other = nothing_told
told reached stpt = nothing_told
told reached lipt = to_reached
told reached arcp = to_arc
told reached elin = ends
told reached other = nothing_told

-- the four cells of a point
record PointGiven (u : ℕ) (ks : List Component) (vs : List ℤ) : Type 0 where
  x : ℤ
  y : ℤ
  z : ℤ
  values : PointValues u ks x y z
  four : (kind : ℕ) → point_cells kind vs ≡ pos kind ∷ x ∷ y ∷ z ∷ []

pub no_dimension : (n : ℕ) → is_dimension (suc (suc (suc (suc n)))) ≡ true → ⊥
unfolding is_dimension
no_dimension n h = by (eqb (suc (suc (suc (suc n)))) 2) (eqb (suc (suc (suc (suc n)))) 3) refl refl h
  where
    by : (a b : Bool) → eqb (suc (suc (suc (suc n)))) 2 ≡ a → eqb (suc (suc (suc (suc n)))) 3 ≡ b → (a || b) ≡ true → ⊥
    by true b p q h = let e = eqb-true (suc (suc (suc (suc n)))) 2 p in omega arith
    by false true p q h = let e = eqb-true (suc (suc (suc (suc n)))) 3 q in omega arith
    by false false p q h = false≢true h

point_given : (u : ℕ) {ks : List Component} {vs : List ℤ} → special u ≡ true → is_dimension (length ks) ≡ true → good_components ks ≡ true → WithinAll ks vs → PointGiven u ks vs
unfolding is_dimension good_components point_cells
point_given u su d g none = absurd (false≢true d)
point_given u su d g (one a none) = absurd (false≢true d)
point_given u su d g (one {c = c₁} {v = v₁} a (one {c = c₂} {v = v₂} b none)) =
    let g₁ = both (good_component c₁) _ g in
    let g₂ = both (good_component c₂) _ g₁.1 in
    record { x = v₁; y = v₂; z = pos 0; values = flat (number_writes u c₁ v₁ su g₁.0 a) (number_writes u c₂ v₂ su g₂.0 b); four = λ kind. refl }
point_given u su d g (one {c = c₁} {v = v₁} a (one {c = c₂} {v = v₂} b (one {c = c₃} {v = v₃} e none))) =
    let g₁ = both (good_component c₁) _ g in
    let g₂ = both (good_component c₂) _ g₁.1 in
    let g₃ = both (good_component c₃) _ g₂.1 in
    record { x = v₁; y = v₂; z = v₃; values = spatial (number_writes u c₁ v₁ su g₁.0 a) (number_writes u c₂ v₂ su g₂.0 b) (number_writes u c₃ v₃ su g₃.0 e); four = λ kind. refl }
point_given u su d g (one a (one b (one e (one {cs = cs} f w)))) = absurd (no_dimension (length cs) d)

-- ## Lines of line attributes

-- the pairs x y of a row as its OBJE line gives them, and with its line attributes read: from point k on, these points, up to point k'
pub data Drawing (u : ℕ) : (k : ℕ) → List Pair → (xs ys points : List ℤ) (k' : ℕ) → Type 0 where
  stop : {k : ℕ} → Drawing u k [] [] [] [] k
  attribute : {k k' : ℕ} {o : Bool} {type : AttributeType} {ps : List Pair} {a b : ℤ} {xs ys points : List ℤ} → Drawing u k ps xs ys points k'
      → Drawing u k (OfAttribute o type ∷ ps) (a ∷ b ∷ xs) (a ∷ b ∷ ys) points k'
  component : {k k' : ℕ} {x : Component} {ps : List Pair} {a b : ℤ} {xs ys points : List ℤ} → Drawing u k ps xs ys points k'
      → Drawing u k (OfComponent x ∷ ps) (a ∷ b ∷ xs) (a ∷ b ∷ ys) points k'
  undrawn : {k k' forms : ℕ} {ks : List Component} {ps : List Pair} {a b : ℤ} {xs ys points : List ℤ} → Drawing u k ps xs ys points k'
      → Drawing u k (OfLine true forms ks ∷ ps) (a ∷ b ∷ xs) (a ∷ b ∷ ys) points k'
  drawn : {k k' forms : ℕ} {o : Bool} {ks : List Component} {ps : List Pair} {a b : ℤ} {xs ys points : List ℤ} (n : ℕ) (these : List ℤ)
      → PointsOk u forms ks unstarted (suc n) these → length these ≡ 4 * suc n → Drawing u (k + suc n) ps xs ys points k'
      → Drawing u k (OfLine o forms ks ∷ ps) (a ∷ b ∷ xs) (pos (1 + suc n) ∷ pos k ∷ ys) (these ++ points) k'

-- the components of line attributes are good
abbrev pub LinesGood : List Pair → Type 0
LinesGood [] = Unit {0}
LinesGood (OfAttribute o type ∷ ps) = LinesGood ps
LinesGood (OfComponent x ∷ ps) = LinesGood ps
LinesGood (OfLine o forms ks ∷ ps) = ((is_dimension (length ks) ≡ true) × (good_components ks ≡ true)) × LinesGood ps

-- what a line of a line attribute did, where it was not refused
pub data LineStep (w : Underway) (c : Content) (code : LineCode) : Move → Due → Content → Type 0 where
  skip : w.attribute.optional ≡ true → LineStep w c code undefined_line (due_lines w.table w.first w.others) c
  finish : LineStep w c code ended (due_lines w.table (point_count c) w.others) (with_line w c)
  adds : {kind : ℕ} {state : LineState} (vs : List ℤ) → is_forbidden w.attribute.forms w.state code ≡ false → WithinAll w.attribute.components vs
      → LineStep w c code (point kind state) (line_of (with_state state w)) (with_point (point_cells kind vs) c)

same_go : (due due' : Due) (c c' : Content) → go due c ≡ go due' c' → (due ≡ due') × (c ≡ c')
same_go due due' c c' h = (cc, cc)

-- what holds of a step holds of what it is
pub told_of : (P : Due → Content → Type 0) (due due' : Due) (c c' : Content) → go due c ≡ go due' c' → P due c → P due' c'
told_of P due due' c c' e h = let q = same_go due due' c c' e in subst (λ (x : Due). P x c') q.0 (subst (λ (y : Content). P due y) q.1 h)

module _ (m : Model) (rooms : Rooms) (text : List ℕ) where
  stored : (kind : ℕ) (w : Underway) (c : Content) (k : Cells) (due : Due) (c' : Content) → store_point m rooms text kind w c k ≡ go due c'
      → (vs : List ℤ) × (k ≡ cells vs) × (go (line_of w) (with_point (point_cells kind vs) c) ≡ go due c')
  unfolding store_point
  stored kind w c (refused n f) due c' e = absurd (no_go n f due c' e)
  stored kind w c (cells vs) due c' e =
      (vs, refl, (passed _ _ _ _ (no_go 16 0 due c') e).1)

  pub line_step : (w : Underway) (fs : List Field) (c : Content) (v : Move) (due : Due) (c' : Content) → attribute_line m rooms text w fs c v ≡ go due c' → LineStep w c (line_code_of fs) v due c'
  unfolding attribute_line bare
  line_step w fs c unexpected due c' e = absurd (no_go 7 1 due c' e)
  line_step w fs c undefined_line due c' e =
      let p = passed _ _ _ _ (no_go 12 1 due c') e in
      let q = passed _ _ _ _ (no_go 11 2 due c') p.1 in
      told_of (LineStep w c (line_code_of fs) undefined_line) _ due _ c' q.1 (skip (not-false _ p.0))
  line_step w fs c ended due c' e =
      let q = passed _ _ _ _ (no_go 11 2 due c') e in
      told_of (LineStep w c (line_code_of fs) ended) _ due _ c' q.1 finish
  line_step w fs c (point kind state) due c' e =
      let p = passed _ _ _ _ (no_go 18 1 due c') e in
      let q = stored kind (with_state state w) c _ due c' p.1 in
      told_of (LineStep w c (line_code_of fs) (point kind state)) _ due _ c' q.2 (adds q.0 p.0 (values_within _ _ _ _ q.0 q.1))

  -- the first of some lines that were not refused
  pub record FirstStep (l : List ℕ) (ls : List (List ℕ)) (s final : State) : Type 0 where
    pub due : Due
    pub content : Content
    pub goes : line_due m rooms text s.due l (fields_of s.start l) s.content ≡ go due content
    pub runs : run m rooms text (behind l due content s) ls ≡ ran final

  pub first_step : (l : List ℕ) (ls : List (List ℕ)) (s final : State) → run m rooms text s (l ∷ ls) ≡ ran final → FirstStep l ls s final
  unfolding run step_of
  first_step l ls s final e = by (line_due m rooms text s.due l (fields_of s.start l) s.content) refl e
    where
      by : (o : Step) → line_due m rooms text s.due l (fields_of s.start l) s.content ≡ o → after_step o l s (λ s'. run m rooms text s' ls) ≡ ran final → FirstStep l ls s final
      by (go due c) p e = record { due = due; content = c; goes = p; runs = e }
      by (no number field) p e = absurd (no_ran number s.line field final e)

points_reached : {u forms : ℕ} {ks : List Component} {state : LineState} {n : ℕ} {points : List ℤ} → PointsOk u forms ks state n points → n ≡ 0 → state ≡ reached
points_reached end e = refl
points_reached (add {n = n} kind a b v p) e = absurd (omega arith)

not_reached : unstarted ≡ reached → ⊥
not_reached h = let z : ◌≡◌ {A = ℕ} 0 1 = cc in omega arith

-- a line attribute under way, behind j of its points: its pair becomes x' y', these points follow, up to point k'
data LineEnd (u : ℕ) (forms : ℕ) (ks : List Component) : (o : Bool) → LineState → (j k : ℕ) (x y x' y' : ℤ) (points : List ℤ) (k' : ℕ) → Type 0 where
  skipped : {j k : ℕ} {x y : ℤ} → LineEnd u forms ks true unstarted j k x y x y [] k
  through : {o : Bool} {state : LineState} {j k : ℕ} {x y : ℤ} {points : List ℤ} (n : ℕ) → PointsOk u forms ks state n points → length points ≡ 4 * n
      → LineEnd u forms ks o state j k x y (pos (1 + (j + n))) (pos k) points (k + (j + n))

line_drawn : {u forms k k₁ k' : ℕ} {o : Bool} {ks : List Component} {ps : List Pair} {a b x' y' : ℤ} {xs ys these points : List ℤ} → LineEnd u forms ks o unstarted 0 k a b x' y' these k₁
    → Drawing u k₁ ps xs ys points k' → Drawing u k (OfLine o forms ks ∷ ps) (a ∷ b ∷ xs) (x' ∷ y' ∷ ys) (these ++ points) k'
line_drawn skipped d = undrawn d
line_drawn (through zero p l) d = absurd (not_reached (points_reached p refl))
line_drawn {u = u} {forms = forms} {k = k} {k' = k'} {o = o} {ks = ks} {ps = ps} {a = a} {b = b} {xs = xs} {ys = ys} {these = these} {points = points} (through (suc n) p l) d =
    let z : 0 + suc n ≡ suc n = omega arith in
    subst (λ (i : ℕ). Drawing u (k + i) ps xs ys points k' → Drawing u k (OfLine o forms ks ∷ ps) (a ∷ b ∷ xs) (pos (1 + i) ∷ pos k ∷ ys) (these ++ points) k') (sym z) (λ d. drawn n these p l d) d

abbrev four_cells : Kind → (x y z : ℤ) → List ℤ
four_cells kind x y z = pos (kind_cell kind) ∷ x ∷ y ∷ z ∷ []

-- one point more
point_more : {u forms j k : ℕ} {ks : List Component} {o : Bool} {next : LineState} {x y : ℤ} (state : LineState) (kind : Kind) (px py pz : ℤ) (i : ℕ) {k₁ : ℕ} {x' y' : ℤ} {these : List ℤ} → i ≡ j + 1
    → LineEnd u forms ks o next i k x y x' y' these k₁ → (next ≡ unstarted → ⊥) → move state (kind_code kind) ≡ point (kind_cell kind) next
    → is_forbidden forms state (kind_code kind) ≡ false → PointValues u ks px py pz → LineEnd u forms ks o state j k x y x' y' (four_cells kind px py pz ++ these) k₁
point_more state kind px py pz i e skipped begun moves form values = absurd (begun refl)
point_more {u = u} {forms = forms} {j = j} {k = k} {ks = ks} {o = o} {x = x} {y = y} state kind px py pz i {these = these} e (through n p l) begun moves form values =
    let z : i + n ≡ j + suc n = omega arith in
    let long : length (four_cells kind px py pz ++ these) ≡ 4 * suc n = omega arith in
    subst (λ (h : ℕ). LineEnd u forms ks o state j k x y (pos (1 + h)) (pos k) (four_cells kind px py pz ++ these) (k + h)) (sym z) (through (suc n) (add kind moves form values p) long)

module _ (m : Model) (rooms : Rooms) (text : List ℕ) (su : special m.undefined ≡ true) (final : State) (complete : final.due ≡ nothing) where
  -- the lines behind an object of table t
  pub record ObjectEnd (t : ℕ) (c : Content) (size : ℕ) : Type 0 where
    pub line : ℕ
    pub start : ℕ
    pub others : List (List ℕ)
    pub runs : run m rooms text (record { line = line; start = start; due = object_of t; content = c }) others ≡ ran final
    pub stands : drop start text ≡ unfolded_text others
    pub shorter : length others ≤ size

  pub record AttributesEnd (t k : ℕ) (ps : List Pair) (c : Content) (front xs : List ℤ) (size : ℕ) : Type 0 where
    pub ys : List ℤ
    pub points : List ℤ
    pub k' : ℕ
    pub drawing : Drawing m.undefined k ps xs ys points k'
    pub at : ObjectEnd t (with_cells c (front ++ ys) (c.points ++ points)) size

  record InLine (t k j : ℕ) (o : Bool) (forms : ℕ) (ks : List Component) (state : LineState) (ps : List Pair) (c : Content) (front xs : List ℤ) (x y : ℤ) (size : ℕ) : Type 0 where
    x' : ℤ
    y' : ℤ
    these : List ℤ
    k₁ : ℕ
    this : LineEnd m.undefined forms ks o state j k x y x' y' these k₁
    ys : List ℤ
    points : List ℤ
    k' : ℕ
    drawing : Drawing m.undefined k₁ ps xs ys points k'
    at : ObjectEnd t (with_cells c (front ++ (x' ∷ y' ∷ ys)) (c.points ++ (these ++ points))) size

  abbrev underway : (t k : ℕ) (state : LineState) (cell : ℕ) (o : Bool) (forms : ℕ) (ks : List Component) (ps : List Pair) → Underway
  underway t k state cell o forms ks ps =
      record { table = t; state = state; first = k; attribute = record { cell = cell; optional = o; forms = forms; components = ks }; others = line_attributes (cell + 2) ps }

  InLineAt : List (List ℕ) → Type 0
  InLineAt ls = (t k j line start : ℕ) (o : Bool) (forms : ℕ) (ks : List Component) (state : LineState) (ps : List Pair) (c : Content) (front xs : List ℤ) (x y : ℤ)
      → is_dimension (length ks) ≡ true → good_components ks ≡ true → LinesGood ps → length xs ≡ 2 * length ps → c.cells ≡ front ++ (x ∷ y ∷ xs) → 4 * (k + j) ≡ length c.points
      → (state ≡ unstarted → j ≡ 0) → drop start text ≡ unfolded_text ls
      → run m rooms text (record { line = line; start = start; due = line_of (underway t k state (length front) o forms ks ps); content = c }) ls ≡ ran final
      → InLine t k j o forms ks state ps c front xs x y (length ls)

  pair_kept : {t k : ℕ} {ps : List Pair} {c : Content} {size : ℕ} {p : Pair} (front xs : List ℤ) (a b : ℤ)
      → ((k' : ℕ) (ys points : List ℤ) → Drawing m.undefined k ps xs ys points k' → Drawing m.undefined k (p ∷ ps) (a ∷ b ∷ xs) (a ∷ b ∷ ys) points k')
      → AttributesEnd t k ps c (front ++ (a ∷ b ∷ [])) xs size → AttributesEnd t k (p ∷ ps) c front (a ∷ b ∷ xs) size
  pair_kept front xs a b keep r = record { ys = a ∷ b ∷ r.ys; points = r.points; k' = r.k'; drawing = keep r.k' r.ys r.points r.drawing; at = rw (moved front a b r.ys) at r.at }

  -- up to the next line attribute, or behind the object
  attributes_end : (ls : List (List ℕ)) → InLineAt ls → (ps : List Pair) (t k line start : ℕ) (c : Content) (front xs : List ℤ) → LinesGood ps → length xs ≡ 2 * length ps → c.cells ≡ front ++ xs
      → 4 * k ≡ length c.points → drop start text ≡ unfolded_text ls
      → run m rooms text (record { line = line; start = start; due = due_lines t k (line_attributes (length front) ps); content = c }) ls ≡ ran final
      → AttributesEnd t k ps c front xs (length ls)
  unfolding due_lines line_attributes InLineAt
  attributes_end ls ih [] t k line start c front [] good long e count stands r =
      let same : c ≡ with_cells c (front ++ []) (c.points ++ []) = ap₂ (λ (l : List ℤ) (p : List ℤ). with_cells c l p) e (sym (append-nil c.points)) in
      record {
        ys = [];
        points = [];
        k' = k;
        drawing = stop;
        at = subst (λ (d : Content). ObjectEnd t d (length ls)) same (record { line = line; start = start; others = ls; runs = r; stands = stands; shorter = omega arith });
      }
  attributes_end ls ih [] t k line start c front (x ∷ xs) good long e count stands r = absurd (omega arith)
  attributes_end ls ih (p ∷ ps) t k line start c front [] good long e count stands r = absurd (omega arith)
  attributes_end ls ih (p ∷ ps) t k line start c front (a ∷ []) good long e count stands r = absurd (omega arith)
  attributes_end ls ih (OfAttribute o type ∷ ps) t k line start c front (a ∷ b ∷ xs) good long e count stands r =
      pair_kept front xs a b (λ k' ys points d. attribute d)
      (attributes_end ls ih ps t k line start c (front ++ (a ∷ b ∷ [])) xs good (omega arith) (e ∙ sym (moved front a b xs)) count stands (rw (moved_length front a b xs) r))
  attributes_end ls ih (OfComponent x ∷ ps) t k line start c front (a ∷ b ∷ xs) good long e count stands r =
      pair_kept front xs a b (λ k' ys points d. component d)
      (attributes_end ls ih ps t k line start c (front ++ (a ∷ b ∷ [])) xs good (omega arith) (e ∙ sym (moved front a b xs)) count stands (rw (moved_length front a b xs) r))
  attributes_end ls ih (OfLine o forms ks ∷ ps) t k line start c front (a ∷ b ∷ xs) good long e count stands r =
      let q = ih t k 0 line start o forms ks unstarted ps c front xs a b good.0.0 good.0.1 good.1 (omega arith) e (omega arith) (λ _. refl) stands r in
      record { ys = q.x' ∷ q.y' ∷ q.ys; points = q.these ++ q.points; k' = q.k'; drawing = line_drawn q.this q.drawing; at = q.at }

  not_underway : (s : State) (w : Underway) → s.due ≡ line_of w → ran s ≡ ran final → ⊥
  not_underway s w e h = let q : s ≡ final = cc in let z : ◌≡◌ {A = ℕ} 0 1 = cc (rw q at e, complete) in omega arith

  -- one point more
  module _ (t k j : ℕ) (o : Bool) (forms : ℕ) (ks : List Component) (state next : LineState) (ps : List Pair) (c : Content) (front xs : List ℤ) (x y : ℤ) (size : ℕ) (kind : Kind)
      (px py pz : ℤ) where
    point_on : (next ≡ unstarted → ⊥) → move state (kind_code kind) ≡ point (kind_cell kind) next → is_forbidden forms state (kind_code kind) ≡ false → PointValues m.undefined ks px py pz
        → InLine t k (j + 1) o forms ks next ps (with_point (four_cells kind px py pz) c) front xs x y size → InLine t k j o forms ks state ps c front xs x y (suc size)
    point_on begun moves form values q =
        let four : List ℤ = four_cells kind px py pz in
        let all : (c.points ++ four) ++ (q.these ++ q.points) ≡ c.points ++ ((four ++ q.these) ++ q.points) =
        append_assoc c.points four (q.these ++ q.points) ∙ ap (λ (l : List ℤ). c.points ++ l) (sym (append_assoc four q.these q.points)) in
        let e = q.at in
        record {
          x' = q.x';
          y' = q.y';
          these = four ++ q.these;
          k₁ = q.k₁;
          this = point_more state kind px py pz (j + 1) refl q.this begun moves form values;
          ys = q.ys;
          points = q.points;
          k' = q.k';
          drawing = q.drawing;
          at = record {
            line = e.line;
            start = e.start;
            others = e.others;
            runs = subst (λ (l : List ℤ). run m rooms text (record { line = e.line; start = e.start; due = object_of t; content = with_cells c (front ++ (q.x' ∷ q.y' ∷ q.ys)) l }) e.others ≡ ran final) all e.runs;
            stands = e.stands;
            shorter = let s = e.shorter in omega arith;
          };
        }

  -- the line ends, and the attributes that follow are read
  line_on : (t k j k₁ : ℕ) (o : Bool) (forms : ℕ) (ks : List Component) (state : LineState) (ps : List Pair) (c : Content) (front xs : List ℤ) (x y x' y' : ℤ) (size : ℕ)
      → LineEnd m.undefined forms ks o state j k x y x' y' [] k₁ → AttributesEnd t k₁ ps (with_cells c (front ++ (x' ∷ y' ∷ xs)) c.points) (front ++ (x' ∷ y' ∷ [])) xs size
      → InLine t k j o forms ks state ps c front xs x y (suc size)
  line_on t k j k₁ o forms ks state ps c front xs x y x' y' size this r =
      let e = r.at in
      record {
        x' = x';
        y' = y';
        these = [];
        k₁ = k₁;
        this = this;
        ys = r.ys;
        points = r.points;
        k' = r.k';
        drawing = r.drawing;
        at = record { line = e.line; start = e.start; others = e.others; runs = rw (moved front x' y' r.ys) at e.runs; stands = e.stands; shorter = let s = e.shorter in omega arith };
      }

  begun_started : started ≡ unstarted → ⊥
  begun_started h = let z : ◌≡◌ {A = ℕ} 0 1 = cc in omega arith

  begun_arc : in_arc ≡ unstarted → ⊥
  begun_arc h = let z : ◌≡◌ {A = ℕ} 0 1 = cc in omega arith

  begun_reached : reached ≡ unstarted → ⊥
  begun_reached h = let z : ◌≡◌ {A = ℕ} 0 1 = cc in omega arith

  told_begun : (state next : LineState) (kind : ℕ) → Told state (point kind next) → next ≡ unstarted → ⊥
  told_begun state next kind to_started = begun_started
  told_begun state next kind to_arc = begun_arc
  told_begun state next kind to_reached = begun_reached

  told_skips : (state : LineState) → Told state undefined_line → state ≡ unstarted
  told_skips state skips = refl

  told_ends : (state : LineState) → Told state ended → state ≡ reached
  told_ends state ends = refl

  skipped_by : (forms : ℕ) (ks : List Component) (o : Bool) (state : LineState) (j k : ℕ) (x y : ℤ) → o ≡ true → state ≡ unstarted → LineEnd m.undefined forms ks o state j k x y x y [] k
  skipped_by forms ks o state j k x y p q = rw (p, q) skipped

  ended_by : (forms : ℕ) (ks : List Component) (o : Bool) (state : LineState) (j k : ℕ) (x y : ℤ) → state ≡ reached
      → LineEnd m.undefined forms ks o state j k x y (pos (1 + (j + 0))) (pos k) [] (k + (j + 0))
  ended_by forms ks o state j k x y q = rw q (through 0 end refl)

  -- one line of a line attribute, and what follows
  line_by : (ls : List (List ℕ)) → InLineAt ls → (t k j line start : ℕ) (o : Bool) (forms : ℕ) (ks : List Component) (state : LineState) (ps : List Pair) (c : Content) (front xs : List ℤ) (x y : ℤ)
      → is_dimension (length ks) ≡ true → good_components ks ≡ true → LinesGood ps → length xs ≡ 2 * length ps → c.cells ≡ front ++ (x ∷ y ∷ xs) → 4 * (k + j) ≡ length c.points
      → (state ≡ unstarted → j ≡ 0) → drop start text ≡ unfolded_text ls
      → (code : LineCode) (v : Move) → move state code ≡ v → Told state v → (due : Due) (c' : Content) → LineStep (underway t k state (length front) o forms ks ps) c code v due c'
      → run m rooms text (record { line = line; start = start; due = due; content = c' }) ls ≡ ran final
      → InLine t k j o forms ks state ps c front xs x y (suc (length ls))
  unfolding InLineAt with_line
  line_by ls ih t k j line start o forms ks state ps c front xs x y dim good lines long e count begun stands code _ moves told _ _ (skip p) r =
      let none : j ≡ 0 = begun (told_skips state told) in
      let same : c ≡ with_cells c (front ++ (x ∷ y ∷ xs)) c.points = ap (λ (l : List ℤ). with_cells c l c.points) e in
      line_on t k j k o forms ks state ps c front xs x y x y (length ls) (skipped_by forms ks o state j k x y p (told_skips state told))
      (attributes_end ls ih ps t k line start (with_cells c (front ++ (x ∷ y ∷ xs)) c.points) (front ++ (x ∷ y ∷ [])) xs lines long (sym (moved front x y xs)) (omega arith) stands
      (rw (moved_length front x y xs)
      (subst (λ (d : Content). run m rooms text (record { line = line; start = start; due = due_lines t k (line_attributes (length front + 2) ps); content = d }) ls ≡ ran final) same r)))
  line_by ls ih t k j line start o forms ks state ps c front xs x y dim good lines long e count begun stands code _ moves told _ _ finish r =
      let points : point_count c ≡ k + (j + 0) = omega arith in
      let more : k + (j + 0) - k ≡ j + 0 = omega arith in
      let cells : set (set c.cells (length front) (pos (1 + (point_count c - k)))) (length front + 1) (pos k) ≡ front ++ (pos (1 + (j + 0)) ∷ pos k ∷ xs) =
      rw (e, points, more) (set_pair front x y xs (pos (1 + (j + 0))) (pos k)) in
      let d : Content = with_cells c (front ++ (pos (1 + (j + 0)) ∷ pos k ∷ xs)) c.points in
      line_on t k j (k + (j + 0)) o forms ks state ps c front xs x y (pos (1 + (j + 0))) (pos k) (length ls) (ended_by forms ks o state j k x y (told_ends state told))
      (attributes_end ls ih ps t (k + (j + 0)) line start d (front ++ (pos (1 + (j + 0)) ∷ pos k ∷ [])) xs lines long (sym (moved front (pos (1 + (j + 0))) (pos k) xs)) (omega arith) stands
      (rw (moved_length front (pos (1 + (j + 0))) (pos k) xs) (rw (cells, points) at r)))
  line_by ls ih t k j line start o forms ks state ps c front xs x y dim good lines long e count begun stands code _ moves told _ _ (adds {kind = kind} {state = next} vs form within) r =
      let g = point_given m.undefined su dim good within in
      let K = kind_of state next code kind moves in
      let cell : pos kind ≡ pos (kind_cell K.is) = ap pos (sym K.of_cell) in
      let four : point_cells kind vs ≡ four_cells K.is g.x g.y g.z = g.four kind ∙ rw cell in
      let c₁ : Content = with_point (four_cells K.is g.x g.y g.z) c in
      let q = ih t k (j + 1) line start o forms ks next ps c₁ front xs x y dim good lines long e
      (rw (length-append c.points (four_cells K.is g.x g.y g.z)) (omega arith)) (λ h. absurd (told_begun state next kind told h)) stands (rw four at r) in
      point_on t k j o forms ks state next ps c front xs x y (length ls) K.is g.x g.y g.z (told_begun state next kind told) (rw (K.of_code, K.of_cell) moves) (rw K.of_code form) g.values q

  in_line : (ls : List (List ℕ)) → InLineAt ls
  unfolding InLineAt run line_due
  in_line [] t k j line start o forms ks state ps c front xs x y dim good lines long e count begun stands r =
      absurd (not_underway (record { line = line; start = start; due = line_of (underway t k state (length front) o forms ks ps); content = c }) _ refl r)
  in_line (l ∷ ls) t k j line start o forms ks state ps c front xs x y dim good lines long e count begun stands r =
      let w : Underway = underway t k state (length front) o forms ks ps in
      let s : State = record { line = line; start = start; due = line_of w; content = c } in
      let f = first_step m rooms text l ls s final r in
      let fs : List Field = fields_of start l in
      line_by ls (in_line ls) t k j (line + 1) (start + length l + 1) o forms ks state ps c front xs x y dim good lines long e count begun (text_behind text start l ls stands)
      (line_code_of fs) (move state (line_code_of fs)) refl (told state (line_code_of fs)) f.due f.content (line_step m rooms text w fs c _ f.due f.content f.goes) f.runs

  -- the line attributes of an object are read, and the object ends
  pub object_ends : (ls : List (List ℕ)) (ps : List Pair) (t k line start : ℕ) (c : Content) (front xs : List ℤ) → LinesGood ps → length xs ≡ 2 * length ps → c.cells ≡ front ++ xs
      → 4 * k ≡ length c.points → drop start text ≡ unfolded_text ls
      → run m rooms text (record { line = line; start = start; due = due_lines t k (line_attributes (length front) ps); content = c }) ls ≡ ran final
      → AttributesEnd t k ps c front xs (length ls)
  object_ends ls = attributes_end ls (in_line ls)
