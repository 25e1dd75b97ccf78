-- `read_objects::store_row` meets its contract. Assumes nothing.
use Prim.Native.Nat.{◌+◌}
use native.Mathlib.Omega.{arith}
use mathlib.Core.Path.{◌≡◌, sym, ◌∙◌}
use mathlib.Core.Bool.{true}
use lib.ListN.{length}
use Rattle.std.proofs.lemmas.Result.{err_from_is_err_and}
use Rattle.model_records.specs.Records.{pairs_at}
use Rattle.meaning.proofs.Right.FieldReasons.{cells_size}
use Rattle.read_objects.proofs.RowLaws.{room_rows, room_cells, table_small, fields_refused, lacks, joins}
use Rattle.read_objects.proofs.storing.store_row.Goals as goal

pub overflow_add-needed : goal.overflow_add-needed
overflow_add-needed c = omega (arith, c.in_ok-n.ensures.few, c.requires.model_len_bound)

pub overflow_add-needed-2 : goal.overflow_add-needed-2
overflow_add-needed-2 c = omega (arith, c.in_ok-n.ensures.few, c.requires.model_len_bound, c.requires.cells_in_bounds)

pub returns-then-lacks_room-clause-row : goal.returns-then-lacks_room-clause-row
returns-then-lacks_room-clause-row c =
    let a = c.args in
    let i = a.name.part in
    let t = a.table.now in
    let new = c.fill_row.new.cells in
    let q : length new ≡ length t.cells.now = c.fill_row.auto.cells in
    λ given. lacks a.model.now.bytes.now a.line.now.text.now t.seed a.here a.state i.start i.len a.model.now.shape.undefined _ t.rows.now t.cells.now t.index.now given.held _ _ _ c.in_ok-n.ensures _ _ _ (length new) q (sym c.lacks_room.ensures ∙ c.if-lacks_room.true)

pub add_row-requires : goal.add_row-requires
add_row-requires c =
    let a = c.args in
    let p = c.requires in
    let rows = length a.table.now.rows.now in
    let cells = length c.fill_row.new.cells in
    let needed = a.state.cells + (3 + c.in_ok-n.n) in
    let e = sym c.lacks_room.ensures ∙ c.if-lacks_room.false in
    let short = p.model_len_bound in
    record {
      object_in_bounds = (room_rows rows a.state.rows cells needed e, omega (arith, room_cells rows a.state.rows cells needed e));
      table_bound = (omega (arith, table_small _ _ _ p.table_holds, short), omega (arith, p.part_in_bounds), omega (arith, p.part_in_bounds), p.hash_bound);
    }

pub state_behind-requires : goal.state_behind-requires
state_behind-requires c =
    let a = c.args in
    let p = c.requires in
    let rows = length a.table.now.rows.now in
    let cells = length c.fill_row.new.cells in
    let needed = a.state.cells + (3 + c.in_ok-n.n) in
    let f = c.in_ok-n.ensures in
    let e = sym c.lacks_room.ensures ∙ c.if-lacks_room.false in
    let z = f.size ∙ cells_size _ (pairs_at a.model.now.bytes.now a.here.at) _ true 3 f.values f.meaning in
    record {
      table_holds = p.table_holds;
      rows_bound = (omega (arith, room_rows rows a.state.rows cells needed e), omega (arith, room_cells rows a.state.rows cells needed e), omega (arith, z));
    }

pub returns-in_err-n-clause-row : goal.returns-in_err-n-clause-row
returns-in_err-n-clause-row c =
    let a = c.args in
    let i = a.name.part in
    let t = a.table.now in
    let p = err_from_is_err_and c.from_residual.result c.from_residual.ensures.1 in
    λ given. rw (p.1, p.2) (fields_refused a.model.now.bytes.now a.line.now.text.now t.seed a.here a.state i.start i.len a.model.now.shape.undefined _ t.rows.now t.cells.now t.index.now given.held _ _ _ c.in_err-n.field-0.0 c.in_err-n.ensures)

pub returns-clause-row : goal.returns-clause-row
returns-clause-row c =
    let a = c.args in
    let p = c.requires in
    let i = a.name.part in
    let t = a.table.now in
    let rows = length t.rows.now in
    let cells = length c.fill_row.new.cells in
    let needed = a.state.cells + (3 + c.in_ok-n.n) in
    let q : cells ≡ length t.cells.now = c.fill_row.auto.cells in
    let e = sym c.lacks_room.ensures ∙ c.if-lacks_room.false in
    let w = c.add_row.ensures in
    λ given. joins a.model.now.bytes.now a.line.now.text.now t.seed a.here a.state i.start i.len a.model.now.shape.undefined _ t.rows.now t.cells.now t.index.now given.held _ _ _ c.in_ok-n.ensures _ _ _ a.name.hash _ p.table_holds (room_rows rows a.state.rows cells needed e) (omega (arith, q, room_cells rows a.state.rows cells needed e)) (omega (arith, p.part_in_bounds)) w.listed w.stored w.linked c.state_behind.ensures given.unused given.hashed
