-- `base::rooms::put_four` meets its contract. Assumes nothing.
use lib.ListN.{length}
use Rattle.base.proofs.Four.{four}
use Rattle.base.proofs.rooms.put_four.Goals as goal

pub returns : goal.returns
returns c =
    let a = c.args in
    rw (c.put-4.ensures, c.put-3.ensures, c.put-2.ensures, c.put.ensures, c.fill.ensures.after)
    (four (length a.room.now) a.a a.b a.c a.d)
