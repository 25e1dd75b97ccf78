-- What is proved of the contract of unfolding, in proofs/Claims.antt.
use Rattle.std.specs.Prelude.{ℕ, ◌≡◌, List, Result}
use Rattle.unfold.specs.Turn.{Ended}
use Rattle.unfold.specs.declared.Fault.{Fault}

-- two outcomes that the contract allows for one call coincide: the answer, and the room's content
abbrev pub OneOutcome : Type 0
OneOutcome = (mark : ℕ) (file : List ℕ) (room : ℕ) (text other : List ℕ) (a b : Result ℕ Fault)
    → Ended mark file room text a → Ended mark file room other b → (a ≡ b) × (text ≡ other)
