-- `write_objects::objects::put_attribute_lines` meets its contract. Assumes nothing.
use Prim.Native.Nat.{◌+◌}
use mathlib.Core.Path.{◌≡◌}
use lib.ListN.{length}
use Rattle.meaning.specs.Reading.{line_attributes}
use Rattle.meaning.specs.Writing.{attribute_lines, lines_bytes}
use Rattle.meaning.specs.Width.{cut_lines}
use Rattle.model_records.specs.Records.{model_at, pairs_at}
use Rattle.table.specs.Contents.{content}
use Rattle.write_objects.proofs.Walking.{Walking}
use Rattle.write_objects.proofs.Walking.{lines_meant}
use Rattle.write_objects.proofs.objects.put_attribute_lines.Given as goal

abbrev pub invariant-loop-at : goal.invariant-loop-at
invariant-loop-at l =
    let it = l.at-iterator in
    (it.model.now ≡ l.model) × Walking (model_at l.model) l.model (lines_meant l.style.mark l.style.width (content l.table)) (length l.table.cells.now + 3) (cut_lines l.style.mark l.style.width (lines_bytes (attribute_lines (content l.table) (line_attributes (l.row + 3) (pairs_at l.model l.first))))) l.initial.all l.initial.out it.at l.cell l.all l.out
