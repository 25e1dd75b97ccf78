-- `model_check::attributes::keeps_attribute` meets its contract. Assumes nothing.
use native.Mathlib.Omega.{arith}
use mathlib.Core.Bool.{and_assoc}
use mathlib.Core.Path.{sym}
use Rattle.meaning.specs.Check.{keeps_attribute}
use Rattle.meaning.specs.Model.{attribute_of}
use Rattle.meaning.specs.Bytes.{all_of}
use Rattle.base.proofs.Fill.{to_end}
use Rattle.model_check.proofs.Transfer.{short_attribute}
use Rattle.model_check.proofs.Words.{names_length}
use Rattle.model_check.proofs.attributes.keeps_attribute.Goals as goal

pub returns-then-payload-start : goal.returns-then-payload-start
returns-then-payload-start c =
    sym (short_attribute c.args.payload.now _ (omega (arith, c.if-payload-start.true, c.parameters_end-start.ensures)))

pub returns : goal.returns
unfolding keeps_attribute attribute_of all_of
returns c =
    let a = c.args in
    let p = a.payload.now in
    rw (and_assoc, c.is_type.ensures, c.is_flag.ensures, names_length a.model.now a.seen.now, ← c.parameters_end-start.ensures, ← to_end p c.parameters_end-start.result, c.is_free-free.ensures)
