-- `value_write::put_pointed` meets its contract: decimals, whole part, then the point between them. Assumes nothing.
use Rattle.value_write.proofs.Stores.{point_put}
use Rattle.value_write.proofs.put_pointed.Goals as goal

pub returns : goal.returns
returns c =
    let first = c.put_last-whole in
    let second = c.put_last in
    point_put c.args.decimals c.args.n first.result c.args.out.now first.new.out second.new.out c.requires.0 c.requires.1 first.ensures.left first.ensures.digits second.ensures.digits
