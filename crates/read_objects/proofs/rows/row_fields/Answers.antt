-- `read_objects::row_fields` meets its contract. Assumes nothing.
use Prim.Native.Nat.{◌*◌}
use native.Mathlib.Omega.{arith}
use mathlib.Core.Path.{refl, sym, ◌∙◌}
use lib.ListN.{length}
use Rattle.std.proofs.lemmas.Result.{err_from_is_err_and}
use Rattle.read_fields.proofs.RowFilled.{wider}
use Rattle.read_objects.proofs.Records.{record_here, good_here, next_from}
use Rattle.read_objects.proofs.Ends.{row_start, row_end_lem, row_on, row_rest, row_no}
use Rattle.read_objects.proofs.rows.row_fields.Goals as goal

pub loop-next-init : goal.loop-next-init
loop-next-init c =
    (c.requires.attributes_here, omega arith, row_start c.args.undefined c.args.start c.args.rest.now c.args.model.now c.args.at c.args.cells.now _ refl)

pub kind_at-requires : goal.kind_at-requires
kind_at-requires c = (record_here c.args.model.now c.loop-next.here c.loop-next.invariant.0).room

pub next_at-next-requires : goal.next_at-next-requires
next_at-next-requires c = (record_here c.args.model.now c.loop-next.here c.loop-next.invariant.0).room

pub put_record-requires : goal.put_record-requires
put_record-requires c =
    let h = record_here c.args.model.now c.loop-next.here c.loop-next.invariant.0 in
    record {
      attribute_here = good_here c.args.model.now c.loop-next.here c.loop-next.invariant.0 (sym c.kind_at.ensures ∙ c.loop-next-test.true);
      cursor_ready = record { short = c.requires.rest_bound; within = c.loop-next.invariant.2.within; placed = c.loop-next.invariant.2.placed; room = omega (arith, h.room, c.loop-next.invariant.2.used, c.loop-next.invariant.2.few, c.well_formed) };
    }

pub undefine_rest-requires : goal.undefine_rest-requires
undefine_rest-requires c =
    let h = record_here c.args.model.now c.loop-next.here c.loop-next.invariant.0 in
    let f = rw c.in-RestUndefined.is at c.in_ok-t.ensures in
    record {
      attributes_here = rw c.next_at-next.ensures (next_from c.args.model.now c.loop-next.here c.loop-next.invariant.0 (sym c.kind_at.ensures ∙ c.loop-next-test.true));
      at_in_bounds = (f.1.within, omega (arith, f.1.placed, f.1.within, c.requires.rest_bound), omega (arith, f.0, c.loop-next.invariant.2.used, c.loop-next.invariant.2.few, c.next_at-next.ensures));
    }

pub returns-in-RestUndefined : goal.returns-in-RestUndefined
returns-in-RestUndefined c =
    let h = record_here c.args.model.now c.loop-next.here c.loop-next.invariant.0 in
    let f = rw c.in-RestUndefined.is at c.in_ok-t.ensures in
    let g = rw c.next_at-next.ensures at (c.undefine_rest.ensures c.args.start) in
    row_rest c.args.undefined c.args.start c.args.rest.now c.args.model.now c.loop-next.here c.loop-next.invariant.0 c.loop-next.invariant.2 (sym c.kind_at.ensures ∙ c.loop-next-test.true) c.put_record.new.cells c.in-RestUndefined.t c.in-RestUndefined.left f (2 * length c.args.model.now) _ c.undefine_rest.result g

pub returns-in_err-t : goal.returns-in_err-t
returns-in_err-t c =
    let p = err_from_is_err_and c.from_residual.result c.from_residual.ensures.1 in
    rw (p.1, p.2) (row_no c.args.undefined c.args.start c.args.rest.now c.args.model.now c.loop-next.here c.loop-next.invariant.0 c.loop-next.invariant.2 (sym c.kind_at.ensures ∙ c.loop-next-test.true) c.put_record.new.cells c.in_err-t.field-0.0 c.in_err-t.ensures)

pub loop-next-preserved : goal.loop-next-preserved
loop-next-preserved c =
    let h = record_here c.args.model.now c.loop-next.here c.loop-next.invariant.0 in
    let f = rw c.in-On.is at c.in_ok-t.ensures in
    rw c.next_at-next.ensures (next_from c.args.model.now c.loop-next.here c.loop-next.invariant.0 (sym c.kind_at.ensures ∙ c.loop-next-test.true), omega (arith, c.loop-next.invariant.1), wider _ (omega (arith, c.loop-next.invariant.1)) (row_on c.args.undefined c.args.start c.args.rest.now c.args.model.now c.loop-next.here c.loop-next.invariant.0 c.loop-next.invariant.2 (sym c.kind_at.ensures ∙ c.loop-next-test.true) c.put_record.new.cells c.in-On.t f))

pub returns : goal.returns
returns c =
    let h = record_here c.args.model.now c.loop-next.here c.loop-next.invariant.0 in row_end_lem c.args.undefined c.args.start c.args.rest.now c.args.model.now c.loop-next.here c.loop-next.invariant.0 c.loop-next.invariant.2 (2 * length c.args.model.now) (λ e. c.loop-next-test.false (c.kind_at.ensures ∙ e)) (omega (arith, h.room, c.loop-next.invariant.2.used, c.loop-next.invariant.2.few)) c.end_row.result c.end_row.ensures
