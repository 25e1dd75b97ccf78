-- `write_file::then_named` meets its contract. Assumes nothing.
use Prim.Native.Nat.{ℕ}
use mathlib.Core.Path.{refl}
use mathlib.Core.List.{List, ◌∷◌, ◌++◌}
use Rattle.write_lines.proofs.Puts.{renamed, then}
use Rattle.write_file.proofs.Frames.{named_line, named_some}
use Rattle.write_file.proofs.lines.then_named.Goals as goal

pub returns : goal.returns
returns c =
    let a = c.args in
    let p = c.put_bytes-begun in
    let f = c.put_field-line in
    let q = c.end_line in
    let line : List ℕ = a.code.now ++ (0x20 ∷ a.name.now) in
    renamed _ _ a.put a.out.now _ q.result (named_line a.style.mark a.style.width a.code.now a.name.now)
    (q.ensures.ends line a.put a.out.now refl (named_some a.code.now a.name.now)
    (then a.code.now (0x20 ∷ a.name.now) a.put p.result f.result a.out.now _ _ p.ensures f.ensures))
