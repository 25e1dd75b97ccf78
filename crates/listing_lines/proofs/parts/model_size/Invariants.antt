-- `listing_lines::parts::model_size` meets its contract. Assumes nothing.
use Prim.Native.Nat.{◌-◌, ◌≤◌}
use mathlib.Core.Path.{◌≡◌}
use lib.ListN.{length}
use Rattle.meaning.specs.Listing.{model_size}
use Rattle.meaning.proofs.Model.Records.{records_at}
use Rattle.listing_lines.proofs.parts.model_size.Given as goal

abbrev pub invariant-loop-kind : goal.invariant-loop-kind
invariant-loop-kind l = (l.at ≤ length l.input) × (model_size (length l.input) (records_at l.input l.at) ≡ model_size (length l.input) (records_at l.input 0))

abbrev pub decreases-loop-kind : goal.decreases-loop-kind
decreases-loop-kind l = length l.input - l.at
