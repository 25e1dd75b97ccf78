-- `write_objects::objects::put_object_bytes` meets its contract. Assumes nothing.
use Prim.Native.Nat.{◌+◌}
use mathlib.Core.List.{[], ◌∷◌, ◌++◌}
use lib.ListN.{drop}
use Rattle.meaning.specs.Field.{OBJE}
use Rattle.meaning.specs.Writing.{identification_bytes, pair_fields, spaced}
use Rattle.model_records.specs.Records.{pairs_at}
use Rattle.write_lines.proofs.Puts.{then}
use Rattle.table.specs.Contents.{content}
use Rattle.write_objects.proofs.Whole.{object_bytes}
use Rattle.write_objects.proofs.objects.put_object_bytes.Goals as goal

pub returns : goal.returns
returns c =
    let a = c.args in
    let p = c.put_bytes-code in
    let q = c.put_identification-id in
    let r = c.put_pairs in
    let id = identification_bytes a.table.now.text.now a.table.now.cells.now a.row in
    let fields = pair_fields a.undefined a.table.now.text.now (content a.table.now) (pairs_at a.model.now a.first) (drop (a.row + 3) a.table.now.cells.now) in
    let both = then id (spaced fields) p.result q.result r.result _ _ _ q.ensures r.ensures in
    rw (object_bytes id fields) (then (OBJE ++ 0x20 ∷ []) (id ++ spaced fields) a.put p.result r.result a.out.now _ _ p.ensures both)
