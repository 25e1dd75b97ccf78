-- `unfold::lines::permitted_blocks` meets its contract: each of the counted blocks is one of permitted bytes. Assumes nothing.
use Prim.Native.Nat.{◌*◌, ◌≤◌}
use mathlib.Core.Path.{◌≡◌}
use lib.ListN.{length}
use Rattle.std.proofs.Common.{rules}
use borrow.Author.Tests.{tests}
use Rattle.meaning.specs.Unfold.{permitted}
use Rattle.unfold.proofs.Leading.{block_passed, leading_blocks}
use native.Mathlib.Omega.{arith}
use Rattle.unfold.proofs.lines.permitted_blocks.Goals as goal

pub returns-clause-rest_value : goal.returns-clause-rest_value
returns-clause-rest_value c =
    let u = c.count.ensures.runs in
    let t = c.take_while.ensures.runs u.0 u.0.seen u.1 in
    let size : t.0.from.size ≡ 16 = cc in
    let rest : t.0.from.rest.now ≡ c.args.rest.now = cc in
    let e = c.chunks_exact.ensures.runs t.0 t.0.seen (omega arith) in
    let fits : t.0.len * 16 ≤ length c.args.rest.now = rw (size, rest) at e.0 in
    let passed = (t.2.2 (search (rules, tests))).0 in
    leading_blocks permitted c.args.rest.now c.count.result (omega arith) (λ k h. block_passed permitted (λ x. x.now) c.args.rest.now _ _ k (u.0.at k) (t.0.at k) _ (u.0.reads k c.args.rest (omega arith)) (t.2.1 k (omega arith)) (passed k) (λ x q. search (rules, tests)) (e.2 k) size rest)
