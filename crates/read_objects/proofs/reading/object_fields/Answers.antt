-- `read_objects::object_fields` meets its contract. Assumes nothing.
use Rattle.std.proofs.Common.{◌≡◌, ◌+◌, ◌-◌, Ok, Err, arith, rules}
use Rattle.std.proofs.lemmas.Result.{err_from_is_err_and}
use Rattle.meaning.specs.Reading.{stretch}
use Rattle.read_objects.proofs.Fields.{identified, unnamed, named}
use Rattle.read_objects.proofs.reading.object_fields.Goals as goal

pub returns-in_err-part-clause-row : goal.returns-in_err-part-clause-row
returns-in_err-part-clause-row c =
    let a = c.args in
    let p = c.requires in
    let l = a.line.now in
    let t = a.table.now in
    let r = err_from_is_err_and c.from_residual.result c.from_residual.ensures.1 in
    let refused : c.take_identification-name.result ≡ Err c.in_err-part.field-0.0.reason = grind arith in
    let second : c.in_err-part.field-0.0.field ≡ 2 = search rules in
    rw (r.1, r.2) (unnamed a.model.now.bytes.now l.text.now t.seed a.here a.state l.at l.end a.behind a.model.now.shape.undefined t.rows.now _ t.cells.now _ t.index.now _ p.model_len_bound.1 p.fields_behind.0 p.fields_behind.1 c.in_err-part.field-0.0 c.take_identification-name.result refused second c.take_identification-name.ensures)

pub returns-clause-row : goal.returns-clause-row
returns-clause-row c =
    let a = c.args in
    let p = c.requires in
    let l = a.line.now in
    let t = a.table.now in
    let u = a.model.now.shape.undefined in
    let part = c.in_ok-part.part in
    let taken : c.take_identification-name.result ≡ Ok part = grind arith in
    let i = identified u (stretch l.text.now (l.at + a.behind) (l.end - (l.at + a.behind))) c.take_identification-name.result part taken c.take_identification-name.ensures in
    named a.model.now.bytes.now l.text.now t.seed a.here a.state l.at l.end a.behind u t.rows.now _ t.cells.now _ t.index.now _ p.model_len_bound.1 p.fields_behind.0 p.fields_behind.1 part.start part.len i p.behind_bound l.inside.1 p.table_holds _ c.add_object.ensures.row
