-- `table_index::hash` meets its contract: the rest at a byte, hashed on, gives the hash of the whole. Assumes nothing.
use Rattle.std.proofs.Common.{sym, ◌∙◌, arith}
use Rattle.table_index.specs.Index.{hash_of}
use Rattle.table_index.proofs.Hashes.{hash_more, hash_ends}
use Rattle.table_index.proofs.hash.Goals as goal

pub loop-b-preserved : goal.loop-b-preserved
loop-b-preserved c =
    let s = c.args.identification.now in
    let l = c.loop-b in
    (c.mix-h.ensures.upper_bound, rw c.mix-h.ensures.value (sym (hash_more _ l.h s l.b-index (omega arith)) ∙ l.invariant.1))

pub returns-clause-value : goal.returns-clause-value
unfolding hash_of
returns-clause-value c =
    let l = c.loop-b in
    sym (hash_ends _ l.h _ l.b-index (omega arith)) ∙ l.invariant.1
