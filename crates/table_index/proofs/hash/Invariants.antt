-- `table_index::hash` meets its contract: the rest at a byte, hashed on, gives the hash of the whole. Assumes nothing.
use Rattle.std.proofs.Common.{◌≡◌, ◌<◌, drop}
use Rattle.table_index.specs.Index.{hash_from}
use Rattle.table_index.proofs.hash.Given as goal

abbrev pub invariant-loop-b : goal.invariant-loop-b
invariant-loop-b l = (l.h < 4294967296) × (hash_from l.k l.h (drop l.b-index l.identification) ≡ hash_from l.k 1 l.identification)
