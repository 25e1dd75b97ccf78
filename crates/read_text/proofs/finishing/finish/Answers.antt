-- `read_text::finishing::finish` meets its contract. Assumes nothing.
use mathlib.Core.Path.{refl, subst}
use lib.IntN.{pos}
use Rattle.read_text.specs.Outcomes.{Fits}
use Rattle.read_text.proofs.Endings.{cleared}
use Rattle.read_text.proofs.finishing.finish.Goals as goal

pub returns-in-Ok : goal.returns-in-Ok
returns-in-Ok g c =
    let a = c.args in
    let fits = subst (Fits a.rows.now a.cells.now a.points.now) c.in-Ok.is c.requires in
    record {
      finished = rw (c.in-Ok.is, c.fill.ensures.after, c.fill-in-Ok.ensures.after, c.fill-in-Ok-2.ensures.after)
          record {
            text_is = refl;
            marks_are = refl;
            rows_are = cleared 0 _ a.rows.now fits.0;
            cells_are = cleared (pos 0) _ a.cells.now fits.1;
            points_are = cleared (pos 0) _ a.points.now fits.2;
          };
      index_after = c.clear.ensures;
    }
