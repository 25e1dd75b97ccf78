-- `write_objects::objects::put_object` meets its contract. Assumes nothing.
use Rattle.model_records.specs.Records.{model_at, pairs_at}
use Rattle.write_lines.proofs.Puts.{renamed, then}
use Rattle.table.specs.Contents.{content}
use Rattle.write_objects.proofs.Whole.{marks_same}
use Rattle.write_objects.proofs.objects.put_object.Goals as goal

pub returns : goal.returns
returns c marks =
    let a = c.args in
    let b = a.model.now in
    let t = a.table.now in
    let p = c.put_object_line-line in
    let r = c.put_attribute_lines in
    let q = rw c.requires.undefined_value at p.ensures in
    renamed _ _ a.put a.out.now _ r.result (marks_same t.text.now (content t) marks a.style.mark a.style.width (model_at b) (pairs_at b a.first) a.row)
    (then _ _ a.put p.result r.result a.out.now _ _ q r.ensures)
