-- `write_lines::values::put_number_field_there` meets its contract. Assumes nothing.
use Prim.Native.Nat.{ℕ, ◌+◌, ◌-◌, ◌≤◌, min}
use native.Mathlib.Omega.{arith}
use mathlib.Core.Path.{◌≡◌, ◌∙◌, ap}
use mathlib.Core.List.{List, ◌∷◌}
use mir.Syntax.{w64}
use mir.ValLaws.{to_z-of_z}
use lib.ListN.{length, set}
use lib.Seq.{sets}
use borrow.Rule.Slice.PartMut.{put_mid}
use Rattle.meaning.specs.Digits.{number_bytes}
use Rattle.write_lines.specs.Puts.{last_in}
use Rattle.write_lines.proofs.Puts.{stand, stood, stands, byte_before}
use Rattle.write_lines.proofs.values.put_number_field_there.Goals as goal

pub returns : goal.returns
unfolding last_in
returns c =
    let out = c.args.out.now in
    let n = c.args.put.count in
    let bs = number_bytes c.args.decimals c.args.v in
    let e = rw (to_z-of_z w64 c.args.v c.ranges.v) at c.put_number-size.ensures in
    let k : n + 1 + length bs ≤ length out = omega (arith, e.size, e.few, c.requires.count_in_bounds) in
    let g = stands (n + 1) c.put_number-size.result out bs k e.size in
    let number : put_mid (n + 1) (length out - (n + 1)) out c.put_number-size.new.out ≡ sets out (n + 1) bs = rw e.bytes (stood (n + 1) out bs k) in
    let last = rw (number, g) at c.last_in-last.ensures in
    let count : c.count_on.result ≡ min 4294967295 (n + length (0x20 ∷ bs)) = omega (arith, e.size, c.count_on.ensures) in
    stand (0x20 ∷ bs) c.args.put _ out count last _ (ap (λ (xs : List ℕ). set xs (n + 1 - 1) 0x20) number ∙ byte_before n 0x20 out bs)
