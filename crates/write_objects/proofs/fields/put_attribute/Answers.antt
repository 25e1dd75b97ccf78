-- `write_objects::fields::put_attribute` meets its contract. Assumes nothing.
use lib.ListN.{drop}
use Rattle.model_records.specs.Components.{components_of}
use Rattle.write_lines.proofs.Puts.{renamed}
use Rattle.table.specs.Contents.{content}
use Rattle.write_objects.proofs.Typed.{coordinate_good, attribute_coordinate, attribute_own, attribute_line_lem}
use Rattle.write_objects.proofs.fields.put_attribute.Goals as goal

pub put_components-requires : goal.put_components-requires
put_components-requires c = record {
  good = coordinate_good _ (rw c.in-Coordinate.is at c.requires.good);
  cell_bound = c.requires.cell_bound;
}

pub returns-in-Line : goal.returns-in-Line
returns-in-Line c =
    let a = c.args in
    let t = a.table.now in
    let k = c.in-Line.is in
    renamed _ _ a.put a.out.now _ c.put_nothing.result (rw k (attribute_line_lem a.undefined t.text.now (content t) a.attribute.optional (drop a.cell t.cells.now) _ _)) (c.put_nothing.ensures a.out.now)

pub returns-in-Coordinate : goal.returns-in-Coordinate
returns-in-Coordinate c =
    let a = c.args in
    let t = a.table.now in
    let k = c.in-Coordinate in
    let p = c.put_components in
    rw k.is (renamed _ _ a.put a.out.now _ p.result (attribute_coordinate a.undefined t.text.now (content t) a.attribute.optional (drop a.cell t.cells.now) (components_of k.components)) p.ensures)

pub returns-in_default : goal.returns-in_default
returns-in_default c =
    let a = c.args in
    let t = a.table.now in
    let p = c.put_pair in
    renamed _ _ a.put a.out.now _ p.result (attribute_own a.undefined t.text.now (content t) a.attribute.optional (drop a.cell t.cells.now) a.attribute.kind c.in_default.not-Coordinate c.in_default.not-Line) p.ensures
