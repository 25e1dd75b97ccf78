-- `c_write::vendorfinch_write` meets its contract. Assumes nothing.
use Prim.Native.Nat.{◌≤◌}
use mathlib.Core.Path.{sym, subst}
use Rattle.meaning.specs.Answer.{Answer}
use Rattle.meaning.specs.Answer.{first_of}
use Rattle.meaning.proofs.Writing.SmallAnswers.{write_small}
use Rattle.c_write.proofs.vendorfinch_write.Goals as goal

pub code_of_write-requires : goal.code_of_write-requires
code_of_write-requires c =
    subst (λ (x : Answer). first_of x ≤ 16777217) (sym c.write-written.ensures.answer) (write_small c.args.model.now _ _ _)
