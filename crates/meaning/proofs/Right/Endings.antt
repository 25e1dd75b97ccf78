-- Lines that lead from a place to the end, without an object more. Assumes nothing.
use Prim.Native.Nat.{ℕ, zero, suc, ◌+◌, ◌-◌, ◌≤◌, ◌<◌}
use native.Mathlib.Omega.{arith}
use mathlib.Core.Path.{◌≡◌, refl, sym, ap, ◌∙◌}
use mathlib.Core.Bool.{Bool, true, false}
use mathlib.Core.List.{List, [], ◌∷◌, ◌++◌, append_assoc, append-nil}
use lib.Dec.{eqb, leb}
use lib.IntN.{ℤ}
use lib.ListN.{length}
use borrow.Author.Tests.{eqb-true, eqb-false, leb-true, leb-false}
use Rattle.meaning.specs.Bytes.{separator, permitted, every, prefix, all_permitted}
use Rattle.meaning.specs.Cut.{Permitted}
use Rattle.meaning.specs.Model.{Component, Model, table_at}
use Rattle.meaning.specs.Check.{good_component, good_components, special, GoodModel}
use Rattle.meaning.specs.Field.{SCNT, slashes, MTID, MODL, TABL, STPT, LIPT, ARCP, ELIN, ETAB, ETOP, EMOD, ENDE}
use Rattle.meaning.specs.Value.{within, is_undefined, is_undefined_twice}
use Rattle.meaning.specs.Digits.{number_bytes}
use Rattle.meaning.specs.Row.{Pair, OfAttribute, OfComponent, OfLine}
use Rattle.meaning.specs.Reading.{LineState, unstarted, started, in_arc, reached}
use Rattle.meaning.specs.Writing.{spaced, line_bytes}
use Rattle.meaning.specs.Right.{Line, with_starts, Coded, Values}
use Rattle.meaning.specs.Right as right
use Rattle.meaning.specs.Reasons.{Place, start, in_description, before_transfer, before_model, topics_from, tables_from, objects_in, line_in, before_end, end, behind_pair, Bare, Titled, Pointed, Gain, Follows, Reached}
use Rattle.meaning.specs.Reasons as reasons
use Rattle.meaning.proofs.Tests.Refuse.{both, holds}
use Rattle.meaning.proofs.Reading.Fields.{solid, Solid, AllSolid, placed, fields_spaced}
use Rattle.meaning.proofs.Reading.StepsRead.{name_same}
use Rattle.meaning.proofs.Reading.RowsRead.{PairsGood}
use Rattle.meaning.proofs.Values.Numerals.{NumberOk, number_writes}
use Rattle.meaning.proofs.Model.GoodPairs.{table_name, table_solid}
use Rattle.meaning.proofs.Right.GoodPlaces.{GoodPlace}
use Rattle.meaning.proofs.Writing.Writable.{name_solid}
use Rattle.meaning.proofs.Judge.SameTables.{not_less}
use Rattle.meaning.proofs.Writing.Permits.{name_permits, number_permits, FieldsPermit, line_permits}

-- ## A line of these fields

coded : (code : List ℕ) (fs : List (List ℕ)) (at : ℕ) → Solid code → AllSolid fs → Coded code (record { start = at; bytes = line_bytes (code ∷ fs) }) (placed (at + length code + 1) fs)
unfolding line_bytes placed
coded code fs at h hs = record { first = record { start = at; bytes = code }; fields = fields_spaced at code fs h hs; reads = refl }

-- ## The least point

-- the fields of the least value of each component
unfoldable least_fields : List Component → List (List ℕ)
least_fields [] = []
least_fields (c ∷ cs) = number_bytes c.decimals c.least ∷ least_fields cs

unfoldable least_values : List Component → List ℤ
least_values [] = []
least_values (c ∷ cs) = c.least ∷ least_values cs

least_within : (c : Component) → good_component c ≡ true → within c c.least ≡ true
unfolding within good_component
least_within c g = rw (not_less c.least) (holds _ 3 g)

least_number : (u : ℕ) (c : Component) → special u ≡ true → good_component c ≡ true → NumberOk u c c.least
least_number u c su g = number_writes u c c.least su g (least_within c g)

least_solid : (u : ℕ) (cs : List Component) → special u ≡ true → good_components cs ≡ true → AllSolid (least_fields cs)
unfolding least_fields good_components
least_solid u [] su g = tt
least_solid u (c ∷ cs) su g = let r = both (good_component c) _ g in ((least_number u c su r.0).field.solid, least_solid u cs su r.1)

least_permits : (cs : List Component) → FieldsPermit (least_fields cs)
unfolding least_fields
least_permits [] = tt
least_permits (c ∷ cs) = (number_permits c.decimals c.least, least_permits cs)

least_values_lem : (u at : ℕ) (cs : List Component) → special u ≡ true → good_components cs ≡ true → Values u cs (placed at (least_fields cs)) (least_values cs)
unfolding least_fields least_values good_components placed is_undefined is_undefined_twice
least_values_lem u at [] su g = right.Values.none
least_values_lem u at (c ∷ cs) su g =
    let r = both (good_component c) _ g in
    let n = least_number u c su r.0 in
    right.Values.one (record { one = n.field.one; two = n.field.two }) n.reads (least_values_lem u (at + length (number_bytes c.decimals c.least) + 1) cs su r.1)

-- ## To the end

module _ (m : Model) where
  -- these lines lead to the end
  pub record ReachesEnd (ls : List Line) : Type 0 where
    pub used : List (List ℕ)
    pub cells : ℕ
    pub points : ℕ
    pub reached : Reached m ls end used cells points

  -- lines that lead from a place to the end, wherever they start and whatever identifications are used
  pub record Ending (x : Place) : Type 0 where
    pub lines : List (List ℕ)
    pub permits : Permitted lines
    pub leads : (at : ℕ) {done : List Line} {used : List (List ℕ)} {cells points : ℕ} → Reached m done x used cells points → ReachesEnd (done ++ with_starts at lines)

  no_line : Ending end
  unfolding with_starts
  no_line = record { lines = []; permits = tt; leads = λ at {done} r. rw (append-nil done) (record { used = _; cells = _; points = _; reached = r }) }

  -- a line before them
  module _ {x y : Place} (l : List ℕ) (g : Gain) (h : all_permitted l ≡ true) (f : (used : List (List ℕ)) (at : ℕ) → Follows m used x (record { start = at; bytes = l }) y g) (e : Ending y) where
    leads_on : (at : ℕ) {done : List Line} {used : List (List ℕ)} {cells points : ℕ} → Reached m done x used cells points → ReachesEnd (done ++ with_starts at (l ∷ e.lines))
    unfolding with_starts
    leads_on at {done} {used} r =
        let this : Line = record { start = at; bytes = l } in
        rw (append_assoc done (this ∷ []) (with_starts (at + length l + 1) e.lines)) at (e.leads (at + length l + 1) (reasons.Reached.more r (f used at)))

    line_then : Ending x
    line_then = record { lines = l ∷ e.lines; permits = (h, e.permits); leads = leads_on }

  -- a line of a code alone, of a code and a name, of a code and the least point
  bare_then : {x y : Place} (code : List ℕ) → Solid code → all_permitted code ≡ true → Bare m x code y → Ending y → Ending x
  unfolding placed
  bare_then code s p b e = line_then (line_bytes (code ∷ [])) Gain.nothing (line_permits (code ∷ []) (p, tt)) (λ used at. reasons.Follows.bare b (coded code [] at s tt)) e

  titled_then : {x y : Place} (code name : List ℕ) → Solid code → all_permitted code ≡ true → Solid name → all_permitted name ≡ true → Titled m x code name y → Ending y → Ending x
  unfolding placed
  titled_then code name s p s' p' t e =
      line_then (line_bytes (code ∷ name ∷ [])) Gain.nothing (line_permits (code ∷ name ∷ []) (p, (p', tt)))
      (λ used at. reasons.Follows.titled {f = record { start = at + length code + 1; bytes = name }} t (coded code (name ∷ []) at s (s', tt))) e

  module _ (good : GoodModel m) where
    point_then_lem : {x y : Place} (code : List ℕ) (cs : List Component) → Solid code → all_permitted code ≡ true → good_components cs ≡ true → Pointed x code cs y → Ending y → Ending x
    point_then_lem code cs s p g q e =
        let su = good.undefined in
        line_then (line_bytes (code ∷ least_fields cs)) Gain.point (line_permits (code ∷ least_fields cs) (p, least_permits cs))
        (λ used at. reasons.Follows.pointed q (record { others = _; coded = coded code (least_fields cs) at s (least_solid m.undefined cs su g); values = least_values_lem m.undefined _ cs su g })) e

    -- ## Behind the topics, behind a topic

    topics_ending : (p : ℕ) → Ending (topics_from p)
    unfolding every solid separator permitted
    topics_ending p = bare_then EMOD refl refl reasons.Bare.emod (bare_then ENDE refl refl reasons.Bare.ende no_line)

    -- ## In a topic: all its tables that are left, without objects

    module _ (p : ℕ) where
      abbrev NoneBetween : (from to : ℕ) → Type 0
      NoneBetween from to = (n : ℕ) → from ≤ n → n < to → (table_at m.tables n).topic ≡ p → ⊥

      last_ending : (from : ℕ) → NoneBetween from (length m.tables) → Ending (tables_from p from)
      unfolding every solid separator permitted
      last_ending from none = bare_then ETOP refl refl (reasons.Bare.etop (λ n a b e. absurd (none n a b e))) (topics_ending (p + 1))

      -- table n, and the tables behind it
      table_ending : (from n : ℕ) → from ≤ n → n < length m.tables → NoneBetween from n → (table_at m.tables n).topic ≡ p → Ending (tables_from p (n + 1)) → Ending (tables_from p from)
      unfolding every solid separator permitted
      table_ending from n later l none topic e =
          let name : List ℕ = (table_at m.tables n).name in
          titled_then TABL name refl refl (table_solid m good n l) (name_permits 24 name (table_name m.tables n l (good.names_in_topic (table_at m.tables n).topic)))
          (reasons.Titled.tabl (record { later = later; within = l; topic = topic; named = name_same name }) (λ j a b t. absurd (none j a b t)))
          (bare_then ETAB refl refl reasons.Bare.etab (rw topic e))

      -- so many tables are left behind the first n, of which none from `from` on is the topic's
      left_ending : (left from n : ℕ) → from ≤ n → n + left ≡ length m.tables → NoneBetween from n → Ending (tables_from p from)
      left_ending zero from n later e none = last_ending from (λ j a b t. none j a (omega arith) t)
      left_ending (suc left) from n later e none = by (eqb (table_at m.tables n).topic p) refl (λ from' later' none'. left_ending left from' (n + 1) later' (omega arith) none')
        where
          none_more : eqb (table_at m.tables n).topic p ≡ false → (j : ℕ) (x : Bool) → eqb j n ≡ x → from ≤ j → j < n + 1 → (table_at m.tables j).topic ≡ p → ⊥
          none_more q j true h a b t = eqb-false _ p q (ap (λ (i : ℕ). (table_at m.tables i).topic) (sym (eqb-true j n h)) ∙ t)
          none_more q j false h a b t = let other = eqb-false j n h in none j a (omega arith) t

          by : (x : Bool) → eqb (table_at m.tables n).topic p ≡ x → ((from' : ℕ) → from' ≤ n + 1 → NoneBetween from' (n + 1) → Ending (tables_from p from')) → Ending (tables_from p from)
          by true q behind = table_ending from n later (omega arith) none (eqb-true _ p q) (behind (n + 1) (omega arith) (λ j a b t. omega arith))
          by false q behind = behind from (omega arith) (λ j a b t. none_more q j (eqb j n) refl a b t)

      tables_ending : (from : ℕ) → Ending (tables_from p from)
      tables_ending from = by (leb from (length m.tables)) refl
        where
          by : (x : Bool) → leb from (length m.tables) ≡ x → Ending (tables_from p from)
          by true q = let low = leb-true from (length m.tables) q in left_ending (length m.tables - from) from from (omega arith) (omega arith) (λ j a b t. omega arith)
          by false q = let high = leb-false from (length m.tables) q in last_ending from (λ j a b t. omega arith)

    objects_ending : (t : ℕ) → Ending (objects_in t)
    unfolding every solid separator permitted
    objects_ending t = bare_then ETAB refl refl reasons.Bare.etab (tables_ending (table_at m.tables t).topic (t + 1))

    -- ## In a line attribute: one point more where it is begun, the start and a point where it is mandatory

    module _ (t forms : ℕ) (o : Bool) (cs : List Component) (ps : List Pair) (g : good_components cs ≡ true) (e : Ending (behind_pair t ps)) where
      reached_ending : Ending (line_in t reached o forms cs ps)
      unfolding every solid separator permitted
      reached_ending = bare_then ELIN refl refl reasons.Bare.elin e

      arc_ending : Ending (line_in t in_arc o forms cs ps)
      unfolding every solid separator permitted
      arc_ending = point_then_lem LIPT cs refl refl g reasons.Pointed.arc_end reached_ending

      started_ending : Ending (line_in t started o forms cs ps)
      unfolding every solid separator permitted
      started_ending = by (eqb forms 2) refl
        where
          by : (x : Bool) → eqb forms 2 ≡ x → Ending (line_in t started o forms cs ps)
          by true q = let two = eqb-true forms 2 q in point_then_lem ARCP cs refl refl g (reasons.Pointed.arc reasons.Drawing.behind_start (λ one. omega arith)) arc_ending
          by false q = point_then_lem LIPT cs refl refl g (reasons.Pointed.straight reasons.Drawing.behind_start (eqb-false forms 2 q)) reached_ending

    line_ending : (t forms : ℕ) (s : LineState) (o : Bool) (cs : List Component) (ps : List Pair) → good_components cs ≡ true → Ending (behind_pair t ps) → Ending (line_in t s o forms cs ps)
    unfolding every solid separator permitted
    line_ending t forms reached o cs ps g e = reached_ending t forms o cs ps g e
    line_ending t forms in_arc o cs ps g e = arc_ending t forms o cs ps g e
    line_ending t forms started o cs ps g e = started_ending t forms o cs ps g e
    line_ending t forms unstarted true cs ps g e = bare_then ELIN refl refl reasons.Bare.undrawn e
    line_ending t forms unstarted false cs ps g e = point_then_lem STPT cs refl refl g reasons.Pointed.stpt (started_ending t forms false cs ps g e)

    pairs_ending : (t : ℕ) (ps : List Pair) → PairsGood ps → Ending (behind_pair t ps)
    unfolding behind_pair
    pairs_ending t [] h = objects_ending t
    pairs_ending t (OfAttribute o type ∷ ps) h = pairs_ending t ps h.1
    pairs_ending t (OfComponent c ∷ ps) h = pairs_ending t ps h.1
    pairs_ending t (OfLine o forms cs ∷ ps) h = line_ending t forms unstarted o cs ps h.0.1 (pairs_ending t ps h.1)

    -- ## Before the topics

    model_ending : Ending before_model
    unfolding every solid separator permitted
    model_ending = titled_then MODL m.name refl refl (name_solid 63 m.name good.name) (name_permits 63 m.name good.name) reasons.Titled.modl (topics_ending 0)

    transfer_ending : Ending before_transfer
    unfolding every solid separator permitted
    transfer_ending = titled_then MTID m.transfer refl refl (name_solid 63 m.transfer good.transfer) (name_permits 63 m.transfer good.transfer) reasons.Titled.mtid model_ending

    description_ending : Ending in_description
    unfolding every solid separator permitted prefix line_bytes spaced placed
    description_ending =
        line_then (line_bytes (slashes ∷ [])) Gain.nothing (line_permits (slashes ∷ []) (refl, tt)) (λ used at. reasons.Follows.divided refl (coded slashes [] at refl tt)) transfer_ending

    -- ## From every place

    pub place_ending : (x : Place) → GoodPlace x → Ending x
    unfolding every solid separator permitted
    place_ending start h = bare_then SCNT refl refl reasons.Bare.scnt description_ending
    place_ending in_description h = description_ending
    place_ending before_transfer h = transfer_ending
    place_ending before_model h = model_ending
    place_ending (topics_from p) h = topics_ending p
    place_ending (tables_from p from) h = tables_ending p from
    place_ending (objects_in t) h = objects_ending t
    place_ending (line_in t s o forms cs ps) h = line_ending t forms s o cs ps h.0 (pairs_ending t ps h.1)
    place_ending before_end h = bare_then ENDE refl refl reasons.Bare.ende no_line
    place_ending end h = no_line
