-- `write_objects::fields::put_pair` meets its contract. Assumes nothing.
use mathlib.Core.Path.{◌≡◌, sym, ap, ap₂, ◌∙◌}
use mathlib.Core.List.{◌∷◌}
use mir.Syntax.{w64}
use mir.ValLaws.{to_z-of_z}
use lib.IntN.{ℤ, pos, nat_abs}
use lib.ListN.{drop, get_or}
use Rattle.meaning.specs.Writing.{type_bytes}
use Rattle.model_records.specs.Attributes.{of_kind}
use Rattle.table.specs.Contents.{content}
use Rattle.write_lines.proofs.Puts.{renamed}
use Rattle.write_objects.proofs.Typed.{none_there, some_there, field_undefined, field_defined}
use Rattle.write_objects.proofs.fields.put_pair.Goals as goal

pub returns-then-a-eq0 : goal.returns-then-a-eq0
returns-then-a-eq0 c =
    let a = c.args in
    let d = c.cell_behind-a in
    let p = c.put_undefined in
    let e : nat_abs (get_or (drop a.cell a.table.now.cells.now) 0 (pos 0)) ≡ 0 = sym (ap nat_abs d.ensures) ∙ none_there d.result (record { sfits = d.type_inv }) c.if-a-eq0.true in
    renamed _ _ a.put a.out.now _ p.result (field_undefined a.undefined (get_or (drop a.cell a.table.now.cells.now) 0 (pos 0)) _ e) p.ensures

pub returns : goal.returns
returns c =
    let a = c.args in
    let d = c.cell_behind-a in
    let d₂ = c.cell_behind-b in
    let p = c.put_value_field in
    let q = rw (to_z-of_z w64 d.result (record { sfits = d.type_inv }), to_z-of_z w64 d₂.result (record { sfits = d₂.type_inv })) at p.ensures in
    let e : nat_abs (get_or (drop a.cell a.table.now.cells.now) 0 (pos 0)) ≡ 0 → ⊥ = λ x. some_there d.result c.if-a-eq0.false (ap nat_abs d.ensures ∙ x) in
    renamed _ _ a.put a.out.now _ p.result
    (ap₂ (λ (x y : ℤ). 0x20 ∷ type_bytes a.table.now.text.now (content a.table.now) (of_kind a.kind) x y) d.ensures d₂.ensures
    ∙ field_defined a.undefined (get_or (drop a.cell a.table.now.cells.now) 0 (pos 0)) (type_bytes a.table.now.text.now (content a.table.now) (of_kind a.kind) (get_or (drop a.cell a.table.now.cells.now) 0 (pos 0)) (get_or (drop a.cell a.table.now.cells.now) 1 (pos 0))) e) q
