-- `model_records::undefined_of` meets its contract. Assumes nothing.
use native.Mathlib.Omega.{arith}
use Rattle.model_records.proofs.AtRecord.{beginning}
use Rattle.model_records.proofs.undefined_of.Goals as goal

pub bounds-model-5 : goal.bounds-model-5
bounds-model-5 c = let h = beginning _ _ c.requires in omega (arith, h.three_bytes, h.first_fits)

pub returns : goal.returns
returns c = (beginning _ _ c.requires).undefined
