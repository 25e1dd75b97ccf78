-- A stretch that is cut at the end of its text names the same bytes. Assumes nothing.
use Prim.Native.Nat.{ℕ, ◌-◌, min}
use native.Mathlib.Omega.{arith}
use mathlib.Core.Path.{◌≡◌, refl, sym, ap, ◌∙◌}
use mathlib.Core.Bool.{Bool, true, false}
use mathlib.Core.List.{List}
use lib.ListN.{length, take, drop, drop_of_length-le}
use lib.Seq.{take-nil}
use lib.Dec.{leb}
use borrow.Author.Tests.{leb-true, leb-false}
use Rattle.meaning.specs.Reading.{stretch}
use Rattle.table.specs.Stretches.{Cut}
use Rattle.meaning.proofs.Lists.{part}

pub cut_at : (size start len start' len' : ℕ) → start' ≡ min start size → len' ≡ min len (size - start') → Cut size start len start' len'
cut_at size start len start' len' e f = record { inside = omega arith; same = λ text l. go text l (leb start size) refl }
  where
    go : (text : List ℕ) → length text ≡ size → (x : Bool) → leb start size ≡ x → stretch text start' len' ≡ stretch text start len
    go text l true h =
        let k = leb-true start size h in
        let m : start' ≡ start = omega arith in
        ap (λ (n : ℕ). take n (drop start' text)) f ∙ part len start' size text (sym l) ∙ ap (λ (s : ℕ). take len (drop s text)) m
    go text l false h =
        let k = leb-false start size h in
        rw (drop_of_length-le text {i = start'} (omega arith), drop_of_length-le text {i = start} (omega arith), take-nil len', take-nil len)
