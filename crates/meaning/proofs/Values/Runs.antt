-- The fields of a line are its longest runs without separators, and no others. Assumes nothing.
use Prim.Native.Nat.{ℕ, suc, ◌+◌}
use native.Mathlib.Omega.{arith}
use mathlib.Core.Path.{◌≡◌, refl}
use mathlib.Core.Bool.{Bool, true, false, false≢true}
use mathlib.Core.List.{List, [], ◌∷◌}
use lib.ListN.{length}
use borrow.Author.Tests.{not-false}
use Rattle.meaning.specs.Bytes.{separator, every}
use Rattle.meaning.specs.Field.{Field, goes_on, add_to_fields, fields_of}
use Rattle.meaning.specs.Shapes.{RunEnds, at_end, at_separator, Runs, none, apart, run}
use Rattle.meaning.proofs.Reading.Fields.{solid, one_field}

-- a run ends exactly where the rest of a line does not go on
stops : {l : List ℕ} → RunEnds l → goes_on l ≡ false
unfolding goes_on
stops at_end = refl
stops (at_separator h) = rw h

run_ends : (l : List ℕ) → goes_on l ≡ false → RunEnds l
unfolding goes_on
run_ends [] h = at_end
run_ends (b ∷ l) h = at_separator (not-false (separator b) h)

pub runs_fields : {start : ℕ} {l : List ℕ} {fs : List Field} → Runs start l fs → fields_of start l ≡ fs
unfolding fields_of add_to_fields solid
runs_fields none = refl
runs_fields (apart h r) = rw h (runs_fields r)
runs_fields (run [] h e n r) = absurd (omega arith)
runs_fields {start} (run (b ∷ s) {l = l} {fs = fs} h e n r) = one_field start b s l fs e (stops n) (runs_fields r)

-- a byte before a run makes it longer
longer : (start b : ℕ) {at : ℕ} {l : List ℕ} {fs : List Field} → separator b ≡ false → at ≡ start + 1 → goes_on l ≡ true → Runs at l fs
    → Runs start (b ∷ l) (add_to_fields false true start b fs)
unfolding add_to_fields goes_on every
longer start b s e g none = absurd (false≢true g)
longer start b s e g (apart h r) = absurd (false≢true (rw h at g))
longer start b {at} s e g (run x {l = l} {fs = fs} h k n r) =
    let z : at + length x ≡ start + suc (length x) = omega arith in
    run (b ∷ x) (omega arith) (rw (s, k)) n (rw z at r)

pub fields_runs : (start : ℕ) (l : List ℕ) → Runs start l (fields_of start l)
unfolding fields_of add_to_fields every
fields_runs start [] = none
fields_runs start (b ∷ l) = by (separator b) (goes_on l) refl refl (fields_runs (start + 1) l)
  where
    by : (s g : Bool) → separator b ≡ s → goes_on l ≡ g → Runs (start + 1) l (fields_of (start + 1) l) → Runs start (b ∷ l) (add_to_fields s g start b (fields_of (start + 1) l))
    by true g h k r = apart h r
    by false false h k r = run (b ∷ []) (omega arith) (rw h) (run_ends l k) r
    by false true h k r = longer start b h refl k r
