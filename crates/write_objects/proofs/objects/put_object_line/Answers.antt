-- `write_objects::objects::put_object_line` meets its contract. Assumes nothing.
use Prim.Native.Nat.{◌+◌}
use mathlib.Core.Path.{refl}
use mathlib.Core.List.{◌∷◌}
use lib.ListN.{drop}
use Rattle.meaning.specs.Field.{OBJE}
use Rattle.meaning.specs.Writing.{identification_bytes, pair_fields, line_bytes}
use Rattle.model_records.specs.Records.{pairs_at}
use Rattle.table.specs.Contents.{content}
use Rattle.write_objects.proofs.Whole.{object_some}
use Rattle.write_objects.proofs.objects.put_object_line.Goals as goal

pub returns : goal.returns
returns c =
    let a = c.args in
    let p = c.put_object_bytes-line in
    let q = c.end_line in
    let id = identification_bytes a.table.now.text.now a.table.now.cells.now a.row in
    let fields = pair_fields a.style.undefined a.table.now.text.now (content a.table.now) (pairs_at a.model.now a.first) (drop (a.row + 3) a.table.now.cells.now) in
    q.ensures.ends (line_bytes (OBJE ∷ id ∷ fields)) a.put a.out.now refl (object_some id fields) p.ensures
