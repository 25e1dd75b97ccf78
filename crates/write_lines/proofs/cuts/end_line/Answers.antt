-- `write_lines::cuts::end_line` meets its contract. Assumes nothing.
use native.Mathlib.Omega.{arith}
use Rattle.write_lines.proofs.Ending.{last_room_of, ended_above, ended_whole, ended_cut}
use Rattle.write_lines.proofs.cuts.end_line.Goals as goal

pub returns-then-n-ge4294967295 : goal.returns-then-n-ge4294967295
returns-then-n-ge4294967295 c =
    let a = c.args in
    record { ends = λ line before e at some p. ended_above a.style.mark a.style.width line before a.put e a.out.now p (omega arith) (omega arith) }

pub returns-then-n-start-2 : goal.returns-then-n-start-2
returns-then-n-start-2 c =
    let a = c.args in
    record {
      ends = λ line before e at some p.
          ended_whole a.style.mark a.style.width line before a.put e a.out.now p _ _ (omega arith) (omega (arith, p.count, c.last_room.ensures, last_room_of a.style.mark a.style.width line before a.put e a.out.now p some)) c.put_byte.ensures;
    }

pub returns-else-n-start-2 : goal.returns-else-n-start-2
returns-else-n-start-2 c =
    let a = c.args in
    record {
      ends = λ line before e at some p.
          ended_cut a.style.mark a.style.width line before a.put e a.out.now p _ _ (omega arith) (omega (arith, p.count, c.last_room.ensures, last_room_of a.style.mark a.style.width line before a.put e a.out.now p some)) (c.cut_line.ensures line before e at some p);
    }
