-- `model_check::names::is_word` meets its contract. Assumes nothing.
use Prim.Native.Nat.{◌+◌, ℕ}
use mathlib.Core.Path.{ap, ◌∙◌}
use mathlib.Core.List.{List}
use Rattle.meaning.specs.Bytes.{same}
use Rattle.model_check.proofs.Words.{word_part}
use Rattle.model_check.proofs.names.is_word.Goals as goal

pub returns : goal.returns
returns c =
    let a = c.args in
    c.same_name.ensures ∙ ap (λ (s : List ℕ). same s a.name.now) (word_part a.model.now a.word _ _ c.min-start.ensures (ap (λ (k : ℕ). c.min-start.result + k) c.min.ensures))
