-- `c_read::vendorfinch_read` meets its contract. Assumes nothing.
use Prim.Native.Nat.{◌≤◌}
use mathlib.Core.Path.{sym, subst}
use Rattle.meaning.specs.Answer.{Answer, first_of}
use Rattle.meaning.proofs.Reading.SmallAnswers.{read_small}
use Rattle.c_read.proofs.vendorfinch_read.Goals as goal

pub code_of_read-requires : goal.code_of_read-requires
code_of_read-requires c =
    let a = c.args in
    subst (λ (x : Answer). first_of x ≤ 16777217) (sym c.read-read.ensures.answer) (read_small a.model.now a.file.now _)
