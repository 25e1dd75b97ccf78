-- `model_check::rules::is_component` meets its contract. Assumes nothing.
use mathlib.Core.Bool.{not, and-true, and_assoc}
use mathlib.Core.Path.{◌≡◌, refl}
use lib.IntN.{ℤ, pos, negsuc}
use lib.Signed.{lt_z, le_z}
use native.Mathlib.Omega.{arith}
use Rattle.std.proofs.lemmas.Bool.Decides.{nat_tests}
use mir.ValLaws.{to_z-of_z}
use mir.Syntax.{w64}
use Rattle.meaning.specs.Check.{good_component}
use Rattle.meaning.specs.Bytes.{all_of}
use Rattle.model_check.proofs.rules.is_component.Goals as goal

at_most : (a b : ℤ) → le_z a b ≡ not (lt_z b a)
at_most (pos a) (pos b) = grind (arith, nat_tests)
at_most (pos a) (negsuc b) = refl
at_most (negsuc a) (pos b) = refl
at_most (negsuc a) (negsuc b) = grind (arith, nat_tests)

pub returns : goal.returns
unfolding good_component all_of
returns c =
    let a = c.args.component in
    let t = c.struct_told-3-1.given in
    let l = to_z-of_z w64 a.least (record { sfits = t.1.0.1 }) in
    let g = to_z-of_z w64 a.greatest (record { sfits = t.1.1.0.1 }) in
    rw (and-true, c.is_bound-2.ensures, c.is_bound.ensures, l, g, at_most a.least a.greatest) (simp and_assoc)
