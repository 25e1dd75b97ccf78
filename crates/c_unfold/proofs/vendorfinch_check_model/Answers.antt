-- `c_unfold::vendorfinch_check_model` meets its contract. Assumes nothing.
use Rattle.c_unfold.proofs.Codes.{check_small}
use Rattle.c_unfold.proofs.vendorfinch_check_model.Goals as goal

pub code_of_check-requires : goal.code_of_check-requires
code_of_check-requires c = rw c.check.ensures (check_small c.args.model.now)
