-- `table_index::find_reference` meets its contract: the only object with the identification, if it is of the table. Assumes nothing.
use Prim.Native.Nat.{ℕ}
use mathlib.Core.Path.{sym, ap, ◌∙◌}
use mathlib.Core.List.{List}
use lib.ListN.{take}
use Rattle.meaning.specs.Reading.{objects_of}
use Rattle.meaning.specs.Table.{find_object}
use Rattle.table_index.specs.Objects.{in_table}
use Rattle.table_index.proofs.Parts.{part_is}
use Rattle.table_index.proofs.Meant.{found_in, find_last}
use Rattle.table_index.proofs.Objects.find_reference.Goals as goal

pub find_in_table-requires : goal.find_in_table-requires
find_in_table-requires c =
    let a = c.args in
    found_in a.self.now.text.now a.self.now.rows.now a.self.now.cells.now _ a.self.now.count _ c.requires.objects_known.listed.in_rows c.find_hashed-found.ensures

pub returns : goal.returns
returns c =
    let a = c.args in
    let k = c.requires.objects_known in
    c.find_in_table.ensures
    ∙ ap (in_table a.self.now.rows.now a.self.now.cells.now a.table) c.find_hashed-found.ensures
    ∙ sym (find_last a.self.now.text.now a.self.now.rows.now a.self.now.cells.now a.table _ a.self.now.count k.listed.in_rows k.unique)
    ∙ ap (λ (i : List ℕ). find_object a.table 0 i (objects_of a.self.now.text.now a.self.now.cells.now (take a.self.now.count a.self.now.rows.now))) (part_is a.self.now.text.now a.start a.size)
