-- `value_write::count_digits` meets its contract: the limit is ten to the power of `size`. Assumes nothing.
use Prim.Native.Nat.{ℕ, ◌≤◌, ◌<◌, ◌^◌}
use mathlib.Core.Path.{◌≡◌}
use native.Mathlib.Omega.{arith}
use Rattle.meaning.proofs.Values.Shortest.{tens_rise, tens_below, digits_count}
use Rattle.value_write.proofs.count_digits.Goals as goal

-- a limit that n reaches is below ten to the power of 19
room : (n size limit : ℕ) → n < 10 ^ 19 → limit ≡ 10 ^ size → limit ≤ n → size < 19
room n size limit h e l = tens_below size 19 (omega arith)

pub overflow_mul-limit : goal.overflow_mul-limit
overflow_mul-limit c =
    let l = c.loop-limit in
    let s = room c.args.n l.size l.limit c.requires.0 l.invariant.2 c.loop-limit-test.true in
    omega (arith, l.invariant.2, tens_rise {j = l.size} {k = 18} (omega arith))

pub returns : goal.returns
returns c =
    let n = c.args.n in
    let size = c.loop-limit.size in
    let count = c.max.result in
    let e = c.max.ensures in
    let small : n < 10 ^ size = omega (arith, c.loop-limit.invariant.2, c.loop-limit-test.false) in
    (omega arith, omega arith, digits_count c.args.least count n (omega arith) (omega (arith, tens_rise {j = size} {k = count} (omega arith))) (omega arith) (λ j l h. c.loop-limit.invariant.3 j (omega arith) (omega arith)))
