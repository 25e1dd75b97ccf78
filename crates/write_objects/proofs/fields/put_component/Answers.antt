-- `write_objects::fields::put_component` meets its contract. Assumes nothing.
use mathlib.Core.Path.{sym, ap, ◌∙◌}
use mathlib.Core.List.{◌∷◌}
use mir.Syntax.{w64}
use mir.ValLaws.{to_z-of_z}
use lib.IntN.{ℤ, pos}
use lib.ListN.{drop, get_or}
use Rattle.meaning.specs.Digits.{number_bytes}
use Rattle.write_lines.proofs.Puts.{renamed}
use Rattle.write_objects.proofs.Typed.{field_undefined, field_defined}
use Rattle.write_objects.proofs.fields.put_component.Goals as goal

pub returns-then-size_behind-eq0 : goal.returns-then-size_behind-eq0
returns-then-size_behind-eq0 c =
    let a = c.args in
    let p = c.put_undefined in
    renamed _ _ a.put a.out.now _ p.result (field_undefined a.undefined (get_or (drop a.cell a.cells.now) 0 (pos 0)) _ (sym c.size_behind.ensures ∙ c.if-size_behind-eq0.true)) p.ensures

pub returns : goal.returns
returns c =
    let a = c.args in
    let d = c.cell_behind-b in
    let p = c.put_number_field in
    let q = rw (to_z-of_z w64 d.result (record { sfits = d.type_inv })) at p.ensures in
    renamed _ _ a.put a.out.now _ p.result
    (ap (λ (x : ℤ). 0x20 ∷ number_bytes a.decimals x) d.ensures
    ∙ field_defined a.undefined (get_or (drop a.cell a.cells.now) 0 (pos 0)) (number_bytes a.decimals (get_or (drop a.cell a.cells.now) 1 (pos 0))) (λ x. c.if-size_behind-eq0.false (c.size_behind.ensures ∙ x))) q
