-- `write_judge::add_name` meets its contract. Assumes nothing.
use mathlib.Core.Bool.{false≢true}
use Rattle.table_index.proofs.Parts.{part_named}
use Rattle.write_judge.proofs.Heads.{add_used, add_unused, add_known}
use Rattle.write_judge.proofs.rows.add_name.Goals as goal

pub returns-then-is_used : goal.returns-then-is_used
returns-then-is_used c =
    let a = c.args in
    let t = a.table.now in
    let n = c.identification_at-name in
    let e = part_named t.text.now t.rows.now t.cells.now a.object n.result.start n.result.len n.ensures.start n.ensures.size in
    record {
      unused = add_used a.seed t a.object _ e c.is_used.result c.is_used.ensures c.if-is_used.true;
      known = λ q. absurd (false≢true q);
    }

pub returns : goal.returns
returns c =
    let a = c.args in
    let t = a.table.now in
    let n = c.identification_at-name in
    let e = part_named t.text.now t.rows.now t.cells.now a.object n.result.start n.result.len n.ensures.start n.ensures.size in
    record {
      unused = add_unused a.seed t a.object _ e c.is_used.result c.is_used.ensures c.if-is_used.false;
      known = λ q. add_known a.seed t a.object _ e c.is_used.result c.is_used.ensures a.index.now c.requires.known c.requires.object_in_bounds.0 c.requires.object_in_bounds.1 c.if-is_used.false _ c.hash-hash.ensures.value _ c.insert.ensures;
    }
