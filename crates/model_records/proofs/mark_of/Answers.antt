-- `model_records::mark_of` meets its contract. Assumes nothing.
use native.Mathlib.Omega.{arith}
use Rattle.model_records.proofs.AtRecord.{beginning}
use Rattle.model_records.proofs.mark_of.Goals as goal

pub bounds-model-6 : goal.bounds-model-6
bounds-model-6 c = let h = beginning _ _ c.requires in omega (arith, h.three_bytes, h.first_fits)

pub returns : goal.returns
returns c = (beginning _ _ c.requires).mark
