-- `read_objects::is_mandatory` meets its contract. Assumes nothing.
use native.Mathlib.Omega.{arith}
use Rattle.model_records.proofs.Types.{parts_room}
use Rattle.read_objects.proofs.Records.{number_mandatory}
use Rattle.read_objects.proofs.rows.is_mandatory.Goals as goal

pub bounds-model-at : goal.bounds-model-at
bounds-model-at c = omega (arith, parts_room _ _ c.requires, c.requires.fits)

pub bounds-model-at-2 : goal.bounds-model-at-2
bounds-model-at-2 c = omega (arith, parts_room _ _ c.requires, c.requires.fits)

pub returns : goal.returns
returns c = number_mandatory _ _ c.requires
