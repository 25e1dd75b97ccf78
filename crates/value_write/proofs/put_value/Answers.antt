-- `value_write::put_value` meets its contract. Assumes nothing.
use Prim.Native.Nat.{ℕ, ◌+◌, ◌≤◌}
use mathlib.Core.Path.{◌≡◌, ◌∙◌, ap}
use mathlib.Core.List.{List}
use native.Mathlib.Omega.{arith}
use lib.IntN.{nat_abs}
use lib.ListN.{length}
use lib.Seq.{length-sets}
use mir.Syntax.{w64}
use mir.ValLaws.{to_z-of_z}
use Rattle.meaning.specs.Digits.{sign_of}
use Rattle.meaning.proofs.Values.Shortest.{sign_one}
use Rattle.value_write.proofs.Stores.{point_most, value_put}
use Rattle.value_write.proofs.put_value.Goals as goal

pub overflow_add-end : goal.overflow_add-end
overflow_add-end c =
    let e = rw (to_z-of_z w64 c.args.v c.ranges.v) at c.put_sign-sign.ensures.size in
    omega (arith, e, sign_one c.args.v, c.count_digits-size.ensures)

pub overflow_add-end-2 : goal.overflow_add-end-2
overflow_add-end-2 c =
    let e = rw (to_z-of_z w64 c.args.v c.ranges.v) at c.put_sign-sign.ensures.size in
    omega (arith, e, sign_one c.args.v, c.count_digits-size.ensures, c.point_size.ensures, point_most c.args.decimals)

pub slice_bounds-put_parts-end : goal.slice_bounds-put_parts-end
slice_bounds-put_parts-end c =
    let e = rw (to_z-of_z w64 c.args.v c.ranges.v) at c.put_sign-sign.ensures in
    let l = ap (λ (l : List ℕ). length l) e.bytes ∙ length-sets c.args.out.now 0 (sign_of c.args.v) in
    omega (arith, l, e.size, sign_one c.args.v, c.count_digits-size.ensures, c.point_size.ensures, point_most c.args.decimals, c.requires)

pub returns : goal.returns
returns c =
    let sign = c.put_sign-sign in
    let count = c.count_digits-size in
    let point = c.point_size in
    let e = rw (to_z-of_z w64 c.args.v c.ranges.v) at sign.ensures in
    let n : c.unsigned_abs-n.result ≡ nat_abs c.args.v = rw (to_z-of_z w64 c.args.v c.ranges.v) at c.unsigned_abs-n.ensures.value in
    let room : sign.result + count.result + point.result ≤ length c.args.out.now = omega (arith, e.size, sign_one c.args.v, count.ensures, point.ensures, point_most c.args.decimals, c.requires) in
    let few : sign.result + count.result + point.result ≤ 21 = omega (arith, e.size, sign_one c.args.v, count.ensures, point.ensures, point_most c.args.decimals) in
    let put = value_put c.args.least c.args.decimals count.result c.unsigned_abs-n.result sign.result (sign.result + count.result + point.result) c.args.v c.args.out.now sign.new.out c.put_parts.new.out
    count.ensures.2 e.size n (omega (arith, count.ensures, c.requires)) (ap (λ (k : ℕ). sign.result + count.result + k) point.ensures) room e.bytes c.put_parts.ensures in
    record {
      size = put.0;
      few = few;
      bytes = put.1;
    }
