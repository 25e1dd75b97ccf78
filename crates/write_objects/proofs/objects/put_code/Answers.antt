-- `write_objects::objects::put_code` meets its contract. Assumes nothing.
use mathlib.Core.Path.{◌≡◌, sym, ◌∙◌}
use native.Mathlib.Omega.{arith}
use mir.Syntax.{w64}
use mir.ValLaws.{to_z-of_z}
use Rattle.meaning.specs.Writing.{point_code}
use Rattle.write_lines.proofs.Puts.{renamed}
use Rattle.write_objects.proofs.Drawn.{code_start, code_straight, code_arc}
use Rattle.write_objects.proofs.objects.put_code.Goals as goal
use Rattle.write_objects.proofs.objects.put_code.Goals.{in-0, in-1, in_default}

pub returns : goal.returns
returns c =
    let a = c.args in
    let m = rw (to_z-of_z w64 a.kind c.ranges.kind) at c.unsigned_abs.ensures.value in
    let code : c.match-unsigned_abs.code.now ≡ point_code a.kind = elim c.match-unsigned_abs.branch [
      | in-0 w ↦ rw w.code-is (code_start a.kind (sym m ∙ w.in-0.is))
      | in-1 w ↦ rw w.code-is (code_straight a.kind (sym m ∙ w.in-1.is))
      | in_default w ↦ rw w.code-is (code_arc a.kind (λ e. grind (arith, m, e)) (λ e. grind (arith, m, e)))
    ] in
    renamed _ _ a.put a.out.now _ c.put_bytes.result code c.put_bytes.ensures
