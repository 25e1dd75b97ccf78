-- `value_read::digits::read_digits` meets its contract: what is read so far and the rest say what the whole says. Assumes nothing.
use Prim.Native.Nat.{◌+◌, ◌<◌}
use mathlib.Core.Path.{◌≡◌, sym, ◌∙◌}
use native.Mathlib.Omega.{arith}
use native.Mathlib.Nat.{add_assoc}
use lib.ListN.{length}
use Rattle.meaning.specs.Bytes.{digit}
use Rattle.base.proofs.Scan.{every_none}
use Rattle.meaning.proofs.Values.Counts.{digit_range, grows, small}
use Rattle.value_read.proofs.Counting.{digit_more, digit_end, digit_hit, digit_miss}
use Rattle.value_read.proofs.digits.read_digits.Goals as goal

pub returns-then-not-is_digit : goal.returns-then-not-is_digit
returns-then-not-is_digit c =
    sym c.loop-b.invariant.1 ∙ digit_miss c.args.field.now c.loop-b.b-index (omega arith) (sym c.if-not-is_digit.ensures)

pub overflow_mul-v : goal.overflow_mul-v
overflow_mul-v c =
    omega (arith, small c.loop-b.v (c.args.before + c.loop-b.b-index) (omega arith) c.loop-b.invariant.2)

pub overflow_sub-b : goal.overflow_sub-b
overflow_sub-b c = (digit_range _ (sym c.if-not-is_digit.ensures)).0

pub overflow_add-v : goal.overflow_add-v
overflow_add-v c =
    omega (arith, digit_range _ (sym c.if-not-is_digit.ensures), small c.loop-b.v (c.args.before + c.loop-b.b-index) (omega arith) c.loop-b.invariant.2)

pub loop-b-preserved : goal.loop-b-preserved
loop-b-preserved c =
    let s = c.args.field.now in
    let i = c.loop-b.b-index in
    let h : i < length s = omega arith in
    let d = sym c.if-not-is_digit.ensures in
    rw c.from.ensures (
      digit_more s i _ _ h c.loop-b.invariant.0,
      sym (digit_hit s i h d) ∙ c.loop-b.invariant.1,
      rw (← add_assoc c.args.before i 1) (grows _ (c.args.before + i) _ (digit_range _ d).1 c.loop-b.invariant.2),
    )

pub returns : goal.returns
returns c =
    let s = c.args.field.now in
    let e : c.loop-b.b-index ≡ length s = omega arith in
    (sym c.loop-b.invariant.1 ∙ every_none digit s c.loop-b.b-index (omega arith), digit_end s c.loop-b.b-index _ _ e c.loop-b.invariant.0)
