-- `model_records::numbers::read_components` meets its contract. Assumes nothing.
use Prim.Native.Nat.{ℕ, ◌*◌}
use native.Mathlib.Numerals.{add-one}
use native.Mathlib.Omega.{arith}
use mathlib.Core.List.{List}
use mathlib.Core.Path.{◌≡◌, refl, ap, ◌∙◌}
use Rattle.base.proofs.Fill.{to_end}
use Rattle.meaning.specs.Model as meaning
use Rattle.model_records.specs.Components.{declared_of}
use Rattle.model_records.proofs.ComponentLaws.{items_of, items as read}
use Rattle.model_records.proofs.numbers.read_components.Goals as goal

pub loop-i-init : goal.loop-i-init
unfolding items_of
loop-i-init c = refl

pub loop-i-preserved : goal.loop-i-preserved
unfolding items_of
loop-i-preserved c =
    let e = to_end c.args.parameters.now (17 * c.loop-i.i) in
    let r = c.read_component.ensures ∙ ap (λ (s : List ℕ). declared_of (meaning.component_of s)) e in
    rw add-one (cc)

pub returns-clause-meant : goal.returns-clause-meant
returns-clause-meant c =
    let l = c.loop-i in
    let a = c.args in
    let e : l.i ≡ a.n = omega arith in
    rw (l.invariant, e) (read a.parameters.now a.n (omega arith))
