-- `value_read::numbers::read_unsigned` meets its contract. Assumes nothing.
use Rattle.meaning.specs.Value.{is_number, number_digits}
use Rattle.value_read.proofs.numbers.read_unsigned.Goals as goal

pub returns-then-decimals-eq0 : goal.returns-then-decimals-eq0
unfolding is_number number_digits
returns-then-decimals-eq0 c = rw c.if-decimals-eq0.true c.read_count.ensures
