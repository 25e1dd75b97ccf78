-- `write_objects::objects::put_point_fields` meets its contract. Assumes nothing.
use lib.ListN.{drop}
use Rattle.meaning.specs.Writing.{point_fields, spaced}
use Rattle.model_records.specs.Components.{components_of}
use Rattle.write_lines.proofs.Left.{Left}
use Rattle.write_objects.proofs.Components.{values_from}
use Rattle.write_objects.proofs.objects.put_point_fields.Given as goal

abbrev pub invariant-loop-i : goal.invariant-loop-i
invariant-loop-i l = Left (spaced (point_fields (components_of l.components) (drop 1 (drop l.at l.points)))) l.initial.all l.initial.out (values_from l.components.count l.components.items l.at l.i l.points) l.all l.out
