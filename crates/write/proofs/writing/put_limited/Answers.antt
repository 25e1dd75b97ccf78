-- `write::writing::put_limited` meets its contract. Assumes nothing.
use Rattle.write.proofs.Calls.{limited}
use Rattle.write.proofs.writing.put_limited.Goals as goal

pub returns : goal.returns
returns c =
    let a = c.args in
    limited _ a.out.now _ c.min-room.result c.min-room.ensures c.put_file.result c.put_file.ensures
