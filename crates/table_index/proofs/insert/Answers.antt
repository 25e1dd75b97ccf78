-- `table_index::insert` meets its contract: an index that can be used gets the object, any other stays. Assumes nothing.
use Prim.Native.Nat.{ℕ}
use mathlib.Core.Path.{sym, ap, ◌∙◌}
use Rattle.table_index.specs.Index.{chain_of}
use Rattle.table_index.proofs.Grown.{insert_used, insert_unused}
use Rattle.table_index.proofs.insert.Goals as goal

pub returns-then-is_usable : goal.returns-then-is_usable
returns-then-is_usable c =
    let a = c.args in
    let u = sym c.is_usable.ensures ∙ c.if-is_usable.true in
    c.chain.ensures ∙ ap (λ (p : ℕ). chain_of a.index.now p a.object a.hash) c.head_at-head.ensures.value ∙ sym (insert_used a.index.now a.rows a.object a.hash u)

pub returns-else-is_usable : goal.returns-else-is_usable
returns-else-is_usable c =
    let a = c.args in
    sym (insert_unused a.index.now a.rows a.object a.hash (sym c.is_usable.ensures ∙ c.if-is_usable.false))
