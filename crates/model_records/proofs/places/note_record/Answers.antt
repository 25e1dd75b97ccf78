-- `model_records::note_record` meets its contract. Assumes nothing.
use borrow.Author.Tests.{ne_eqb}
use Rattle.meaning.specs.Bytes.{choose}
use Rattle.model_records.specs.Places.{noted_by}
use Rattle.model_records.proofs.places.note_record.Goals as goal

pub returns-in-3 : goal.returns-in-3
unfolding noted_by choose
returns-in-3 c = rw c.in-3.is

pub returns-in-4 : goal.returns-in-4
unfolding noted_by choose
returns-in-4 c = rw c.in-4.is

pub returns-in_default : goal.returns-in_default
unfolding noted_by choose
returns-in_default c =
    let r = c.in_default.in_default-own.rest in
    let a = c.args in
    rw (ne_eqb a.kind 3 r.0.1, ne_eqb a.kind 4 r.1)
