-- `read_polylines::behind_line` meets its contract. Assumes nothing.
use native.Mathlib.Omega.{arith}
use mathlib.Core.Path.{refl}
use Rattle.read_polylines.proofs.Ways.{next_here, next_fits}
use Rattle.read_polylines.proofs.moves.behind_line.Goals as goal

pub due_lines-due-requires : goal.due_lines-due-requires
due_lines-due-requires c =
    let p = c.requires in
    let n = c.next_at-next.ensures in
    record {
      table_in_bounds = p.line.table;
      attributes_here = rw n (next_here _ _ _ _ _ _ _ p.line);
      at_bound = rw n (omega (arith, next_fits _ _ _ _ _ _ _ p.line, p.cells));
    }

pub returns : goal.returns
returns c =
    let n = c.next_at-next.ensures in
    let d = c.due_lines-due.ensures in
    record {
      due = rw n at d.due;
      rows = refl;
      cells = refl;
      points = refl;
      holds = λ rows k f l. d.holds rows k _ _ (λ o q. omega (arith, l.behind_rows o q)) (rw n (next_fits _ _ _ _ _ _ _ l)) f;
    }
