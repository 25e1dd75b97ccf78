-- The judging of references, record by record. Assumes nothing.
use Prim.Native.Nat.{ℕ, zero, suc, ◌+◌, ◌*◌, ◌-◌, ◌≤◌, ◌<◌}
use native.Mathlib.Omega.{arith}
use mathlib.Core.Path.{◌≡◌, refl, sym, ap, ◌∙◌}
use mathlib.Core.Bool.{Bool, true, false, not, ◌&&◌}
use mathlib.Core.List.{List, [], ◌∷◌}
use lib.Dec.{eqb, ltb}
use lib.ListN.{length, drop, get_or}
use lib.Seq.{get_or-drop}
use borrow.Author.Tests.{lt-ltb, le-ltb, ne_eqb, eqb-true, ltb-true, ltb-false}
use Rattle.meaning.proofs.Model.Records.{entry_at, overrun_at, finish_at}
use Rattle.meaning.specs.Bytes.{choose, refuse, byte_at, u16_at}
use Rattle.meaning.specs.Model.{Records, finish, overrun, entry, AttributeType, Table, table_at, found, missing, target_of, type_of, attribute_of, attributes_of, tables_of}
use Rattle.meaning.specs.Check.{Checked, bad, is_outside, judge_attributes, judge_references}
use Rattle.model_check.specs.References.{topic_numbers, judged_from, judges, judged_on, judged}
use Rattle.model_records.specs.Records.{records_at, payload_at, next_at}
use Rattle.model_check.specs.declared.references.Judge.{Judge}

-- ## A table's topic

numbers_length : (ts : List Table) → length (topic_numbers ts) ≡ length ts
unfolding topic_numbers
numbers_length [] = refl
numbers_length (t ∷ ts) = ap suc (numbers_length ts)

number_at : (ts : List Table) (t : ℕ) → get_or (topic_numbers ts) t 0 ≡ (table_at ts t).topic
unfolding topic_numbers
number_at [] t = refl
number_at (x ∷ ts) zero = refl
number_at (x ∷ ts) (suc t) = number_at ts t

module _ (ts : List Table) (t topic : ℕ) (places : List ℕ) (e : topic_numbers ts ≡ places) where
  count : length ts ≡ length places
  count = sym (numbers_length ts) ∙ ap length e

  pub foreign_high : length places ≤ t → is_outside ts topic (found t) ≡ true
  unfolding is_outside
  foreign_high l = rw (le-ltb t (length ts) (rw count l))

  pub foreign_other : t < length places → not (eqb (get_or places t 0) topic) ≡ is_outside ts topic (found t)
  unfolding is_outside
  foreign_other l =
      let g : get_or places t 0 ≡ (table_at ts t).topic = ap (λ (xs : List ℕ). get_or xs t 0) (sym e) ∙ number_at ts t in
      rw (lt-ltb t (length ts) (rw count l), g)

-- ## A payload's target

-- one of two types that refer to no table
neither : (x : Bool) (a c : AttributeType) → target_of a ≡ missing → target_of c ≡ missing → target_of (choose x a c) ≡ missing
unfolding choose
neither true a c h g = h
neither false a c h g = g

other_target : (t : ℕ) (q : List ℕ) → (t ≡ 1 → ⊥) → target_of (type_of t q) ≡ missing
unfolding type_of target_of choose
other_target t q n =
    rw (ne_eqb t 1 n) (neither (eqb t 2) _ _ refl (neither (eqb t 3) _ _ refl (neither (eqb t 4) _ _ refl (neither (eqb t 5) _ _ refl (neither (eqb t 6) _ _ refl (neither (eqb t 7) _ _ refl refl))))))

pub no_target : (ts : List Table) (topic : ℕ) (p : List ℕ) → (byte_at p 1 ≡ 1 → ⊥) → is_outside ts topic (target_of (type_of (byte_at p 1) (drop 2 p))) ≡ false
unfolding is_outside
no_target ts topic p n = rw (other_target (byte_at p 1) (drop 2 p) n)

pub target : (p : List ℕ) (low high : ℕ) → byte_at p 1 ≡ 1 → low ≡ byte_at p 2 → high ≡ byte_at p 3 → found (low + 256 * high) ≡ target_of (type_of (byte_at p 1) (drop 2 p))
unfolding type_of target_of choose
target p low high e l h = rw (e, l, h, get_or-drop 2 p 0 0, get_or-drop 2 p (0 + 1) 0)

-- ## A record

module _ (ts : List Table) (rest : Checked) where
  topic_entry : (inside : Bool) (k at : ℕ) (p : List ℕ) (others : Records) → judged_from ts inside k (entry at 3 p others) rest ≡ judged_from ts false (k + 1) others rest
  unfolding judged_from attributes_of tables_of judge_attributes judge_references choose
  topic_entry true k at p others = refl
  topic_entry false k at p others = refl

  table_entry : (inside : Bool) (k at : ℕ) (p : List ℕ) (others : Records) → judged_from ts inside k (entry at 4 p others) rest ≡ judged_from ts true k others rest
  unfolding judged_from attributes_of tables_of judge_attributes judge_references choose
  table_entry true k at p others = refl
  table_entry false k at p others = refl

  attribute_entry : (inside : Bool) (k at : ℕ) (p : List ℕ) (others : Records)
      → judged_from ts inside k (entry at 5 p others) rest
      ≡ refuse (inside && is_outside ts (k - 1) (target_of (type_of (byte_at p 1) (drop 2 p)))) (bad at) (judged_from ts inside k others rest)
  unfolding judged_from attributes_of attribute_of tables_of judge_attributes judge_references choose refuse
  attribute_entry true k at p others = refl
  attribute_entry false k at p others = refl

  other_entry : (inside : Bool) (k at kind : ℕ) (p : List ℕ) (others : Records) → eqb kind 3 ≡ false → eqb kind 4 ≡ false → eqb kind 5 ≡ false
      → judged_from ts inside k (entry at kind p others) rest ≡ judged_from ts false k others rest
  unfolding judged_from attributes_of tables_of judge_attributes judge_references choose
  other_entry true k at kind p others e f g = rw (e, f, g)
  other_entry false k at kind p others e f g = rw (e, f)

  -- whether it refers outside decides; then the rest does
  judged_entry : (j : Judge) (kind next : ℕ) (p : List ℕ) (others : Records)
      → judged_from ts j.inside j.topics (entry j.at kind p others) rest
      ≡ refuse (eqb kind 5 && (j.inside && is_outside ts (j.topics - 1) (target_of (type_of (byte_at p 1) (drop 2 p))))) (bad j.at)
      (judged_from ts (judged_on kind next j).inside (judged_on kind next j).topics others rest)
  unfolding judged_on choose refuse
  judged_entry j kind next p others = go (eqb kind 3) (eqb kind 4) (eqb kind 5) refl refl refl
    where
      go : (x y z : Bool) → eqb kind 3 ≡ x → eqb kind 4 ≡ y → eqb kind 5 ≡ z
          → judged_from ts j.inside j.topics (entry j.at kind p others) rest
          ≡ refuse (eqb kind 5 && (j.inside && is_outside ts (j.topics - 1) (target_of (type_of (byte_at p 1) (drop 2 p))))) (bad j.at)
          (judged_from ts (judged_on kind next j).inside (judged_on kind next j).topics others rest)
      go true y z e f g = rw (eqb-true kind 3 e) (topic_entry j.inside j.topics j.at p others)
      go false true z e f g = rw (eqb-true kind 4 f) (table_entry j.inside j.topics j.at p others)
      go false false true e f g = rw (eqb-true kind 5 g) (attribute_entry j.inside j.topics j.at p others)
      go false false false e f g = other_entry j.inside j.topics j.at kind p others e f g ∙ rw (e, f, g)

  -- the judging goes on at the next record
  judged_at_lem : (kind next : ℕ) (j : Judge) → (judged_on kind next j).at ≡ next
  unfolding judged_on choose
  judged_at_lem kind next j = go (eqb kind 3) (eqb kind 4) (eqb kind 5) refl refl refl
    where
      go : (x y z : Bool) → eqb kind 3 ≡ x → eqb kind 4 ≡ y → eqb kind 5 ≡ z → (judged_on kind next j).at ≡ next
      go true y z e f g = rw e
      go false true z e f g = rw (e, f)
      go false false true e f g = rw (e, f, g)
      go false false false e f g = rw (e, f, g)

  ends_overrun : (inside : Bool) (k at : ℕ) → judged_from ts inside k (overrun at) rest ≡ rest
  unfolding judged_from attributes_of tables_of judge_attributes judge_references
  ends_overrun true k at = refl
  ends_overrun false k at = refl

  ends_finish : (inside : Bool) (k at : ℕ) → judged_from ts inside k (finish at) rest ≡ rest
  unfolding judged_from attributes_of tables_of judge_attributes judge_references
  ends_finish true k at = refl
  ends_finish false k at = refl

  -- where the judging stands, by its byte
  abbrev pub judged_at : List ℕ → Judge → Checked
  judged_at b j = judged_from ts j.inside j.topics (records_at b j.at) rest

  module _ (b : List ℕ) (j : Judge) where
    turn : next_at b j.at ≤ length b → judged_at b j ≡ refuse (judges ts b j) (bad j.at) (judged_at b (judged b j))
    turn h = rw (entry_at b j.at h, judged_at_lem (u16_at b (j.at + 2)) (next_at b j.at) j) (judged_entry j (u16_at b (j.at + 2)) (next_at b j.at) (payload_at b j.at) (records_at b (next_at b j.at)))

    pub judged_bad : next_at b j.at ≤ length b → judges ts b j ≡ true → judged_at b j ≡ bad j.at
    unfolding refuse
    judged_bad h e = turn h ∙ ap (λ (x : Bool). refuse x (bad j.at) (judged_at b (judged b j))) e

    pub judged_on_lem : next_at b j.at ≤ length b → judges ts b j ≡ false → judged_at b (judged b j) ≡ judged_at b j
    unfolding refuse
    judged_on_lem h e = sym (turn h ∙ ap (λ (x : Bool). refuse x (bad j.at) (judged_at b (judged b j))) e)

    -- no record is left, or the next one overruns the model
    pub judged_end : length b < next_at b j.at → judged_at b j ≡ rest
    judged_end h = go (ltb j.at (length b)) refl
      where
        go : (x : Bool) → ltb j.at (length b) ≡ x → judged_at b j ≡ rest
        go true e = rw (overrun_at b j.at (ltb-true j.at (length b) e) h) (ends_overrun j.inside j.topics j.at)
        go false e = rw (finish_at b j.at (ltb-false j.at (length b) e)) (ends_finish j.inside j.topics j.at)

-- the count of topics lies below the byte
pub judged_topics : (kind next : ℕ) (j : Judge) → j.topics ≤ j.at → j.at < next → (judged_on kind next j).topics ≤ (judged_on kind next j).at
unfolding judged_on choose
judged_topics kind next j h l = go (eqb kind 3) (eqb kind 4) (eqb kind 5) refl refl refl
  where
    go : (x y z : Bool) → eqb kind 3 ≡ x → eqb kind 4 ≡ y → eqb kind 5 ≡ z → (judged_on kind next j).topics ≤ (judged_on kind next j).at
    go true y z e f g = rw e (omega arith)
    go false true z e f g = rw (e, f) (omega arith)
    go false false true e f g = rw (e, f, g) (omega arith)
    go false false false e f g = rw (e, f, g) (omega arith)

pub judged_falls : (kind next n : ℕ) (j : Judge) → j.at < next → next ≤ n → n - (judged_on kind next j).at < n - j.at
judged_falls kind next n j l h = rw (at_next kind next j) (omega arith)
  where
    at_next : (kind next : ℕ) (j : Judge) → (judged_on kind next j).at ≡ next
    at_next = judged_at_lem [] (bad 0)
