-- `read_frame::begin_table` meets its contract. Assumes nothing.
use Rattle.std.proofs.Common.{rules}
use Rattle.std.proofs.lemmas.Result.{err_from_is_err_and}
use Rattle.read_frame.proofs.TableLines.{table_no_name, table_missing, table_skipped, table_begun, table_holds}
use Rattle.base.proofs.Fill.{to_end}
use Rattle.base.proofs.Results.{mapped_ok, mapped_err}
use Prim.Native.Nat.{◌+◌, ◌-◌}
use mathlib.Core.Logic.{inl, inr}
use mathlib.Core.Path.{◌≡◌}
use native.Mathlib.Omega.{arith}
use Rattle.read_frame.proofs.tables.begin_table.Goals as goal

pub returns-in_err-part-clause-meant : goal.returns-in_err-part-clause-meant
returns-in_err-part-clause-meant c =
    let p = err_from_is_err_and c.from_residual.result c.from_residual.ensures.1 in
    let h = c.in_err-part.ensures in
    rw (p.1, p.2, h.0) (λ s k. table_no_name _ c.args.model.now.bytes.now _ _ _ k h.1 s)

pub returns-in_err-t-clause-meant : goal.returns-in_err-t-clause-meant
returns-in_err-t-clause-meant c =
    let a = c.args in
    let part = c.in_ok-part.part in
    let z : part.start + part.len - part.start ≡ part.len = omega arith in
    let m = mapped_err _ c.find_table-found.result c.map_err.result c.map_err.ensures.cases c.in_err-t.field-0.0 c.in_err-t.was in
    let answer = m.2 in
    let refusal : c.in_err-t.field-0.0 ≡ record { reason = m.0; field = 2 } = search rules in
    let e = rw (m.1, z) at c.find_table-found.ensures in
    let p = err_from_is_err_and c.from_residual-in_err-t.result c.from_residual-in_err-t.ensures.1 in
    rw (p.1, p.2, refusal)
    (elim e [
      | inl w ↦ rw w.0 (λ s k. table_skipped _ a.model.now.bytes.now _ _ a.rest.now k part.start part.len c.in_ok-part.ensures w.1 s)
      | inr w ↦ rw w.0 (λ s k. table_missing _ a.model.now.bytes.now _ _ a.rest.now k part.start part.len c.in_ok-part.ensures w.1 s)
    ])

pub returns : goal.returns
returns c =
    let a = c.args in
    let part = c.in_ok-part.part in
    let z : part.start + part.len - part.start ≡ part.len = omega arith in
    let m = mapped_ok _ c.find_table-found.result c.map_err.result c.map_err.ensures.cases c.in_ok-t.t c.in_ok-t.was in
    let e = rw (m, z) at c.find_table-found.ensures in
    let k = rw (to_end a.rest.now (part.start + part.len)) at c.end_line.ensures in
    record {
      meant = (λ s x. table_begun _ _ _ _ a.rest.now x part.start part.len c.in_ok-part.ensures _ _ e k s);
      held = table_holds _ _ _ e.inside _ _ (k 0);
    }
