-- `write_lines::cuts::count_cuts` meets its contract. Assumes nothing.
use Prim.Native.Nat.{◌-◌}
use mathlib.Core.Path.{◌∙◌}
use native.Mathlib.Omega.{arith}
use Rattle.write_lines.proofs.Cutting.{count_first, count_turn, count_end, placed_next, room_by, room_most}
use Rattle.write_lines.proofs.cuts.count_cuts.Goals as goal

pub loop-last-init : goal.loop-last-init
loop-last-init c =
    let a = c.args in
    (omega arith, λ mark l h k. count_first mark a.style.width l (omega arith), omega arith, omega arith, omega arith)

pub overflow_add-last : goal.overflow_add-last
overflow_add-last c = let a = c.args in omega (arith, c.last_room-room.ensures, room_most a.ended (a.style.width - 5))

pub loop-last-preserved : goal.loop-last-preserved
loop-last-preserved c =
    let a = c.args in
    let e = c.last_room-room.ensures in
    let i = c.loop-last.invariant in (
      omega arith,
      λ mark l h k.
          i.1 mark l h k
          ∙ count_turn mark a.style.width l (omega arith) c.loop-last.count c.loop-last.last i.0 (omega (arith, e, room_by mark (a.style.width - 5) l a.ended k)),
      rw i.2 (placed_next c.loop-last.count (a.style.width - 6)),
      omega arith,
      omega arith,
    )

pub returns : goal.returns
returns c =
    let a = c.args in
    let e = c.last_room-room.ensures in
    let i = c.loop-last.invariant in
    record {
      cut = λ mark l h k.
          i.1 mark l h k
          ∙ count_end mark a.style.width l (omega arith) c.loop-last.count c.loop-last.last i.0 (omega (arith, e, room_by mark (a.style.width - 5) l a.ended k));
      placed = i.2;
      few = i.3;
      near = i.4;
    }
