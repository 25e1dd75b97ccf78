-- `read_objects::put_head` meets its contract. Assumes nothing.
use Rattle.std.proofs.Common.{◌≡◌, [], ◌∷◌, pos, rules, arith}
use Rattle.table.proofs.Written.{written}
use Rattle.read_objects.proofs.storing.put_head.Goals as goal

pub returns : goal.returns
returns c =
    let a = c.args in
    let new : c.copy_from_slice.new.self ≡ pos a.table ∷ pos a.part.start ∷ pos a.part.len ∷ [] = search rules in
    written a.cells.now a.at _ c.copy_from_slice.new.self _ new (omega arith) (omega arith)
