-- A model is called bad exactly at its first bad record. Assumes nothing.
use Prim.Native.Nat.{ℕ, zero, suc, ◌+◌, ◌≤◌, ◌<◌}
use native.Mathlib.Omega.{arith}
use mathlib.Core.Path.{◌≡◌, refl, sym, ap, ◌∙◌, subst}
use mathlib.Core.Bool.{Bool, true, false, true≢false}
use mathlib.Core.List.{List, [], ◌∷◌, ◌++◌, append_assoc, append-nil}
use lib.Dec.{ltb, eqb}
use lib.ListN.{length, length-append}
use borrow.Author.Tests.{ltb-true, ltb-false, lt-ltb, le-ltb, eqb-true, eqb-false, ne_eqb}
use Rattle.meaning.specs.Bytes.{refuse}
use Rattle.meaning.specs.Model.{Records, finish, overrun, entry, records_from, Attribute, Table, Model, target_of, model_of}
use Rattle.meaning.specs.Check.{Checked, good, bad, Seen, nothing_seen, follows, keeps, see, is_outside, judge_attributes, judge_references, check_records, check_model}
use Rattle.meaning.specs.ModelBytes.{record_bytes}
use Rattle.meaning.specs.ModelClaims.{AreBytes, GoodRecords, Whole, FirstOutside, AllInside, FirstOutsideOf, FirstBad, BadExactly}
use Rattle.meaning.proofs.Model.Models.{entry_kept}
use Rattle.meaning.proofs.Model.Marks.{bad_good}
use Rattle.meaning.proofs.Model.RecordBytes.{record_length, record_first}
use Rattle.meaning.proofs.Model.WholeRecords.{behind_bytes, First, first, whole_rest, whole_read}

-- ## References

same_bad : (n k : ℕ) → bad n ≡ bad k → n ≡ k
same_bad n k h = cc

-- attributes of which one is the first outside, or after which the rest is bad
attributes_bad : {R : Type 0} (ts : List Table) (topic : ℕ) (as' : List Attribute) (u : Checked) (at : ℕ) → judge_attributes ts topic as' u ≡ bad at → (FirstOutside ts topic as' at → R) → (AllInside ts topic as' → u ≡ bad at → R) → R
unfolding judge_attributes refuse
attributes_bad ts topic [] u at h f g = g tt h
attributes_bad {R} ts topic (a ∷ others) u at h f g = go (is_outside ts topic (target_of a.type)) refl h (λ q. attributes_bad ts topic others u at q)
  where
    go : (x : Bool) → is_outside ts topic (target_of a.type) ≡ x → refuse x (bad a.at) (judge_attributes ts topic others u) ≡ bad at
        → (judge_attributes ts topic others u ≡ bad at → (FirstOutside ts topic others at → R) → (AllInside ts topic others → u ≡ bad at → R) → R) → R
    go true e q i = f (subst (FirstOutside ts topic (a ∷ others)) (same_bad a.at at q) (FirstOutside.here e))
    go false e q i = i q (λ o. f (FirstOutside.later e o)) (λ o r. g (e, o) r)

references_bad : (ts others : List Table) (m : Model) (at : ℕ) → judge_references ts others (good m) ≡ bad at → FirstOutsideOf ts others at
unfolding judge_references
references_bad ts [] m at h = absurd (bad_good at m (sym h))
references_bad ts (t ∷ others) m at h =
    attributes_bad ts t.topic t.attributes (judge_references ts others (good m)) at h (λ o. FirstOutsideOf.here o) (λ i q. FirstOutsideOf.later i (references_bad ts others m at q))

attributes_outside : {ts : List Table} {topic : ℕ} {as' : List Attribute} {at : ℕ} → FirstOutside ts topic as' at → (u : Checked) → judge_attributes ts topic as' u ≡ bad at
unfolding judge_attributes refuse
attributes_outside (FirstOutside.here e) u = rw e
attributes_outside (FirstOutside.later e o) u = rw e (attributes_outside o u)

attributes_inside : (ts : List Table) (topic : ℕ) (as' : List Attribute) (u : Checked) → AllInside ts topic as' → judge_attributes ts topic as' u ≡ u
unfolding judge_attributes refuse
attributes_inside ts topic [] u h = refl
attributes_inside ts topic (a ∷ others) u h = let e : is_outside ts topic (target_of a.type) ≡ false = h.0 in rw e (attributes_inside ts topic others u h.1)

references_outside : {ts others : List Table} {at : ℕ} → FirstOutsideOf ts others at → (u : Checked) → judge_references ts others u ≡ bad at
unfolding judge_references
references_outside (FirstOutsideOf.here o) u = attributes_outside o _
references_outside {ts} (FirstOutsideOf.later {t = t} i o) u = attributes_inside ts t.topic t.attributes _ i ∙ references_outside o u

-- ## Records that keep the rules

-- the byte behind a record
behind : (f : List ℕ) (kind : ℕ) (p : List ℕ) → length (f ++ record_bytes kind p) ≡ length f + 4 + length p
behind f kind p = omega (arith, length-append f (record_bytes kind p), record_length kind p)

-- behind them the check goes on
pub kept_read : {f : List ℕ} {last : ℕ} {seen : Seen} → GoodRecords f last seen → (r : List ℕ) (u : Checked) → check_records 0 nothing_seen (records_from 0 0 (f ++ r)) u ≡ check_records last seen (records_from 0 (length f) r) u
kept_read GoodRecords.none r u = refl
kept_read (GoodRecords.more {f = f} {last = last} {seen = seen} kind p k l n fits rules) r u =
    rw (append_assoc f (record_bytes kind p) r, behind f kind p) (kept_read k (record_bytes kind p ++ r) u
    ∙ ap (λ (rs : Records). check_records last seen rs u) (record_first (length f) kind p r)
    ∙ entry_kept last (length f) kind seen p (records_from 0 (length f + 4 + length p) r) u fits rules)

-- ## The first bad record is where the check says

module _ (b : List ℕ) (bytes : AreBytes b) where
  abbrev last_judged : Checked
  last_judged = judge_references (model_of (records_from 0 0 b)).tables (model_of (records_from 0 0 b)).tables (good (model_of (records_from 0 0 b)))

  -- a model that is not too long
  short_checked : length b ≤ 65536 → check_model b ≡ check_records 0 nothing_seen (records_from 0 0 b) last_judged
  unfolding check_model refuse
  short_checked s = rw (le-ltb 65536 (length b) s)

  module _ (short : length b ≤ 65536) {last : ℕ} {seen : Seen} (f r : List ℕ) (k : GoodRecords f last seen) (e : b ≡ f ++ r) where
    goes_on : check_model b ≡ check_records last seen (records_from 0 (length f) r) last_judged
    goes_on = short_checked short ∙ ap (λ (l : List ℕ). check_records 0 nothing_seen (records_from 0 0 l) last_judged) e ∙ kept_read k r last_judged

    missing_bad : r ≡ [] → (last ≡ 6 → ⊥) → check_model b ≡ bad (length f)
    unfolding check_records refuse records_from
    missing_bad q n = goes_on ∙ rw (q, ne_eqb last 6 n)

    overruns_bad : records_from 0 (length f) r ≡ overrun (length f) → check_model b ≡ bad (length f)
    unfolding check_records
    overruns_bad q = goes_on ∙ rw q

    whole_bad : (w : Whole r) → (follows last w.kind ≡ true → keeps w.kind w.payload seen ≡ true → ⊥) → check_model b ≡ bad (length f)
    unfolding check_records refuse
    whole_bad w n = goes_on ∙ rw (whole_read (length f) r w) (go (follows last w.kind) (keeps w.kind w.payload seen) refl refl)
      where
        go : (x y : Bool) → follows last w.kind ≡ x → keeps w.kind w.payload seen ≡ y → check_records last seen (entry (length f) w.kind w.payload (records_from 0 (length f + 4 + length w.payload) w.others)) last_judged ≡ bad (length f)
        go true true p q = absurd (n p q)
        go true false p q = rw (p, q)
        go false y p q = rw p

  -- nothing left: the references are judged
  end_judged : {seen : Seen} → length b ≤ 65536 → GoodRecords b 6 seen → check_model b ≡ last_judged
  unfolding check_records refuse records_from
  end_judged short k = goes_on short b [] k (sym (append-nil b))

  bad_there : {at : ℕ} → FirstBad b at → check_model b ≡ bad at
  unfolding check_model refuse
  bad_there (FirstBad.too_long l) = rw (lt-ltb 65536 (length b) l)
  bad_there (FirstBad.missing short k n) = missing_bad short b [] k (sym (append-nil b)) refl n
  bad_there (FirstBad.overruns f r short k e l n) = go (first (length f) r (behind_bytes b f r bytes e) l)
    where
      go : First (length f) r → check_model b ≡ bad (length f)
      go (First.over q z) = overruns_bad short f r k e q
      go (First.whole w) = absurd (n w)
  bad_there (FirstBad.misplaced f r short k e w n) = whole_bad short f r k e w (λ p q. true≢false (sym p ∙ n))
  bad_there (FirstBad.breaks f r short k e w p n) = whole_bad short f r k e w (λ p q. true≢false (sym q ∙ n))
  bad_there (FirstBad.outside short k e o) = end_judged short k ∙ rw e (references_outside o _)

  -- ## Where the check says there is a first bad record

  module _ (short : length b ≤ 65536) where
    -- at the end of the bytes
    end_found : {last : ℕ} {seen : Seen} (f : List ℕ) (at : ℕ) → GoodRecords f last seen → b ≡ f ++ [] → check_records last seen (finish (length f)) last_judged ≡ bad at → FirstBad b at
    unfolding check_records refuse
    end_found {last} {seen} f at k e h = go (eqb last 6) refl (subst (λ (l : List ℕ). GoodRecords l last seen) same k)
      where
        same : f ≡ b
        same = sym (e ∙ append-nil f)

        go : (x : Bool) → eqb last 6 ≡ x → GoodRecords b last seen → FirstBad b at
        go true q kept =
            let six : last ≡ 6 = eqb-true last 6 q in
            let j : last_judged ≡ bad at = rw six at h in
            FirstBad.outside short (subst (λ (n : ℕ). GoodRecords b n seen) six kept) refl (references_bad _ _ _ at j)
        go false q kept =
            let j : bad (length f) ≡ bad at = rw q at h in
            subst (FirstBad b) (ap length (sym same) ∙ same_bad (length f) at j) (FirstBad.missing short kept (eqb-false last 6 q))

    module _ {last : ℕ} {seen : Seen} (f r : List ℕ) (at : ℕ) (k : GoodRecords f last seen) (e : b ≡ f ++ r) (h : check_records last seen (records_from 0 (length f) r) last_judged ≡ bad at) where
      -- a record that overruns
      over_found : 0 < length r → records_from 0 (length f) r ≡ overrun (length f) → (Whole r → ⊥) → FirstBad b at
      unfolding check_records
      over_found l q n = let j : bad (length f) ≡ bad at = rw q at h in subst (FirstBad b) (same_bad (length f) at j) (FirstBad.overruns f r short k e l n)

      -- a whole one: it is bad, or keeps the rules and the check goes on behind it
      whole_found : (w : Whole r) → (GoodRecords (f ++ record_bytes w.kind w.payload) w.kind (see w.kind w.payload seen) → b ≡ f ++ record_bytes w.kind w.payload ++ w.others
          → check_records w.kind (see w.kind w.payload seen) (records_from 0 (length (f ++ record_bytes w.kind w.payload)) w.others) last_judged ≡ bad at → FirstBad b at) → FirstBad b at
      unfolding check_records refuse
      whole_found w on = go (follows last w.kind) (keeps w.kind w.payload seen) refl refl
        where
          j : check_records last seen (entry (length f) w.kind w.payload (records_from 0 (length f + 4 + length w.payload) w.others)) last_judged ≡ bad at
          j = rw (whole_read (length f) r w) at h

          go : (x y : Bool) → follows last w.kind ≡ x → keeps w.kind w.payload seen ≡ y → FirstBad b at
          go true true p q =
              on (GoodRecords.more w.kind w.payload k w.size w.kinds p q) (e ∙ ap (λ (l : List ℕ). f ++ l) w.is ∙ sym (append_assoc f _ _)) (rw (behind f w.kind w.payload) (rw (p, q) at j))
          go true false p q = let z : bad (length f) ≡ bad at = rw (p, q) at j in subst (FirstBad b) (same_bad (length f) at z) (FirstBad.breaks f r short k e w p q)
          go false y p q = let z : bad (length f) ≡ bad at = rw p at j in subst (FirstBad b) (same_bad (length f) at z) (FirstBad.misplaced f r short k e w p)

    -- behind records that keep the rules, with so many bytes left at most
    abbrev Found : (n at : ℕ) → Type 0
    Found n at = (last : ℕ) (seen : Seen) (f r : List ℕ) → length r ≤ n → GoodRecords f last seen → b ≡ f ++ r → check_records last seen (records_from 0 (length f) r) last_judged ≡ bad at → FirstBad b at

    found : (n at : ℕ) → Found n at
    unfolding records_from
    found zero at last seen f [] l k e h = end_found f at k e h
    found zero at last seen f (x ∷ s) l k e h = absurd (omega arith)
    found (suc n) at last seen f [] l k e h = end_found f at k e h
    found (suc n) at last seen f (x ∷ s) l k e h = go (first (length f) (x ∷ s) (behind_bytes b f (x ∷ s) bytes e) (omega arith)) (found n at)
      where
        go : First (length f) (x ∷ s) → Found n at → FirstBad b at
        go (First.over q z) i = over_found f (x ∷ s) at k e h (omega arith) q z
        go (First.whole w) i = whole_found f (x ∷ s) at k e h w (i _ _ _ w.others (omega (arith, whole_rest (x ∷ s) w)))

  found_there : (at : ℕ) → check_model b ≡ bad at → FirstBad b at
  unfolding check_model refuse
  found_there at h = go (ltb 65536 (length b)) refl
    where
      go : (x : Bool) → ltb 65536 (length b) ≡ x → FirstBad b at
      go true e = let z : bad 0 ≡ bad at = rw e at h in subst (FirstBad b) (same_bad 0 at z) (FirstBad.too_long (ltb-true 65536 (length b) e))
      go false e = let short = ltb-false 65536 (length b) e in found short (length b) at 0 nothing_seen [] b (omega arith) GoodRecords.none refl (sym (short_checked short) ∙ h)

pub bad_exactly : BadExactly
bad_exactly b at bytes = (found_there b bytes at, bad_there b bytes)
