-- `write_objects::objects::put_elin` meets its contract. Assumes nothing.
use mathlib.Core.Path.{refl}
use native.Mathlib.Omega.{arith}
use Rattle.meaning.specs.Field.{ELIN}
use Rattle.write_lines.proofs.Puts.{renamed}
use Rattle.write_objects.proofs.Drawn.{elin_line}
use Rattle.write_objects.proofs.objects.put_elin.Goals as goal

pub returns : goal.returns
returns c =
    let q = c.end_line in
    let p = c.put_bytes-line in
    let a = c.args in
    renamed _ _ a.put a.out.now _ q.result (elin_line a.style.mark a.style.width) (q.ensures.ends ELIN a.put a.out.now refl (omega arith) p.ensures)
