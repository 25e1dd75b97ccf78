-- `write_objects::fields::put_components` meets its contract. Assumes nothing.
use lib.ListN.{drop}
use Rattle.meaning.specs.Writing.{spaced}
use Rattle.model_records.specs.Components.{components_of}
use Rattle.write_lines.proofs.Left.{Left}
use Rattle.write_objects.specs.Given.{component_fields}
use Rattle.write_objects.proofs.Components.{fields_from}
use Rattle.write_objects.proofs.fields.put_components.Given as goal

abbrev pub invariant-loop-i : goal.invariant-loop-i
invariant-loop-i l = Left (spaced (component_fields l.undefined (components_of l.components) (drop l.cell l.cells))) l.initial.all l.initial.out (fields_from l.undefined l.components.count l.components.items l.cell l.i l.cells) l.all l.out
