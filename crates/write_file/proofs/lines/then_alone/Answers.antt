-- `write_file::then_alone` meets its contract. Assumes nothing.
use mathlib.Core.Path.{refl}
use Rattle.write_lines.proofs.Puts.{renamed}
use Rattle.write_file.proofs.Frames.{alone_line}
use Rattle.write_file.proofs.lines.then_alone.Goals as goal

pub returns : goal.returns
returns c =
    let a = c.args in
    let p = c.put_bytes-line in
    let q = c.end_line in
    renamed _ _ a.put a.out.now _ q.result (alone_line a.style.mark a.style.width a.code.now) (q.ensures.ends a.code.now a.put a.out.now refl c.requires p.ensures)
