-- Two answers that the check of a model allows coincide. Proved in proofs/Same.antt.
use Rattle.std.specs.Prelude.{ℕ, ◌≡◌, List, Result}
use Rattle.meaning.specs.Answer as meaning
use Rattle.model_check.specs.declared.check.BadRecord.{BadRecord}
use Rattle.model_check.specs.Walk.{checked_meant}

abbrev pub OneAnswer : Type 0
OneAnswer = (model : List ℕ) (c c' : Result ℕ BadRecord) → checked_meant c ≡ meaning.check model
    → checked_meant c' ≡ meaning.check model → c ≡ c'
