-- `read_objects::is_used` meets its contract. Assumes nothing.
use mathlib.Core.Path.{◌∙◌}
use Rattle.table_index.proofs.Kept.{held_used}
use Rattle.table_index.proofs.Parts.{part_is}
use Rattle.meaning.specs.Reading.{stretch}
use Rattle.read_objects.proofs.reading.is_used.Goals as goal

pub returns : goal.returns
returns c =
    let t = c.args.table.now in
    let s = c.args.state in
    let i = c.args.name.part in
    rw (part_is c.args.text.now i.start i.len) at c.is_used.ensures
    ∙ held_used t.seed c.args.text.now s.rows s.cells t.rows.now t.cells.now t.index.now c.requires.indexed_table (stretch c.args.text.now i.start i.len)
