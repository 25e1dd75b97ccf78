-- `read_objects::add_object` meets its contract. Assumes nothing.
use mathlib.Core.Path.{sym, ◌∙◌}
use Rattle.meaning.specs.Reading.{stretch}
use Rattle.table_index.proofs.Parts.{part_is}
use Rattle.read_objects.proofs.Fields.{used_before, unused}
use Rattle.read_objects.proofs.reading.add_object.Goals as goal

pub returns-then-is_used-clause-row : goal.returns-then-is_used-clause-row
returns-then-is_used-clause-row c =
    let a = c.args in
    let l = a.line.now.text.now in
    let t = a.table.now in
    used_before a.model.now.bytes.now l t.seed a.state (stretch l a.part.start a.part.len) t.rows.now t.cells.now t.index.now c.requires.indexed_table _ _ _ _ (sym c.is_used.ensures ∙ c.if-is_used.true)

pub returns-clause-row : goal.returns-clause-row
returns-clause-row c =
    let a = c.args in
    let l = a.line.now.text.now in
    let t = a.table.now in
    let held = c.requires.indexed_table in
    let e = sym c.is_used.ensures ∙ c.if-is_used.false in
    let hashed = rw (part_is l a.part.start a.part.len) at c.hash-hash.ensures.value in
    unused a.model.now.bytes.now l t.seed a.state (stretch l a.part.start a.part.len) t.rows.now t.cells.now t.index.now held _ _ _ _ _ e
    (c.store_row.ensures.row (record { held = held; unused = e; hashed = hashed }))
