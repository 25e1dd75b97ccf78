-- `write_objects::objects::put_pairs` meets its contract. Assumes nothing.
use Prim.Native.Nat.{◌+◌}
use mathlib.Core.Path.{◌≡◌}
use lib.ListN.{length, drop}
use Rattle.meaning.specs.Writing.{pair_fields, spaced}
use Rattle.model_records.specs.Records.{model_at, pairs_at}
use Rattle.table.specs.Contents.{content}
use Rattle.write_objects.proofs.Walking.{Walking}
use Rattle.write_objects.proofs.Walking.{fields_meant}
use Rattle.write_objects.proofs.objects.put_pairs.Given as goal

abbrev pub invariant-loop-at : goal.invariant-loop-at
invariant-loop-at l =
    let it = l.at-iterator in
    (it.model.now ≡ l.model) × Walking (model_at l.model) l.model (fields_meant l.undefined l.table.text.now (content l.table) l.table.cells.now) (length l.table.cells.now + 3) (spaced (pair_fields l.undefined l.table.text.now (content l.table) (pairs_at l.model l.first) (drop (l.row + 3) l.table.cells.now))) l.initial.all l.initial.out it.at l.cell l.all l.out
