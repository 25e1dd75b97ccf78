-- Attributes' types: how many bytes their parameters are, and when they are good.
-- Assumes nothing.
use Prim.Native.Nat.{ℕ, suc, ◌+◌, ◌*◌, ◌≤◌, ◌<◌}
use native.Mathlib.Omega.{arith}
use mathlib.Core.Path.{◌≡◌, refl, ap, ◌∙◌}
use mathlib.Core.Bool.{Bool, true, false, ◌&&◌, and-true}
use mathlib.Core.List.{List, [], ◌∷◌}
use lib.Dec.{eqb}
use lib.ListN.{length, take, drop, length-drop}
use lib.Seq.{get_or-drop, length-take-le}
use borrow.Author.Tests.{ne_eqb, le-leb, lt-leb}
use Rattle.meaning.specs.Bytes.{choose, all_of, byte_at}
use Rattle.meaning.specs.Model as meaning
use Rattle.meaning.specs.Check.{is_dimension, good_type, is_type}
use Rattle.model_records.specs.Components.{components_of, list_of}
use Rattle.model_records.specs.declared.attributes.Component.{Component}
use Rattle.model_records.specs.declared.attributes.Components.{Components}
use Rattle.model_records.specs.Attributes.{ParametersFit}

-- ## Sizes

-- a line's count of components is the payload's fourth byte
pub dimension_at : (p : List ℕ) → meaning.dimension_of (drop 2 p) ≡ choose (eqb (byte_at p 3) 3) 3 2
unfolding meaning.dimension_of
dimension_at p = rw (get_or-drop 2 p 1 0)

pub size_line : (t : ℕ) (p : List ℕ) → t ≡ 8 → meaning.parameters_size t (drop 2 p) ≡ 2 + 17 * choose (eqb (byte_at p 3) 3) 3 2
unfolding meaning.parameters_size choose
size_line t p e = rw e (ap (λ (n : ℕ). 2 + 17 * n) (dimension_at p))

pub dimension_bounds : (x : Bool) → (2 ≤ choose x 3 2) × (choose x 3 2 ≤ 3)
unfolding choose
dimension_bounds true = (omega arith, omega arith)
dimension_bounds false = (omega arith, omega arith)

-- a type of 1 to 8 whose parameters lie in its payload
pub parameters_fit : (p : List ℕ) → 1 ≤ byte_at p 1 → byte_at p 1 ≤ 8 → 2 + meaning.parameters_size (byte_at p 1) (drop 2 p) ≤ length p → ParametersFit (byte_at p 1) (drop 2 p)
parameters_fit p l g h = record { least = l; most = g; room = let e = length-drop 2 p in omega arith }

-- components that are held have the count's length
listed : (cs : List Component) → length (list_of cs) ≡ length cs
unfolding list_of
listed [] = refl
listed (c ∷ cs) = ap suc (listed cs)

pub held_length : (c : Components) → c.count ≤ 3 → length c.items ≡ 3 → length (components_of c) ≡ c.count
held_length c h l = listed (take c.count c.items) ∙ length-take-le c.count c.items (omega arith)

-- ## A type's number and parameters

module _ (t : ℕ) (q : List ℕ) where
  pub type_known : 1 ≤ t → t ≤ 7 → is_type t q ≡ good_type (meaning.type_of t q)
  unfolding is_type all_of
  type_known l g = rw (and-true, le-leb 1 t l, le-leb t 8 (omega arith), ne_eqb t 8 (omega arith))

  pub type_line : t ≡ 8 → is_type t q ≡ (is_dimension (byte_at q 1) && good_type (meaning.type_of t q))
  unfolding is_type all_of
  type_line e = rw (and-true, e)

  pub type_high : 8 < t → is_type t q ≡ false
  unfolding is_type all_of
  type_high h = rw (le-leb 1 t (omega arith), lt-leb t 8 h)

  pub type_low : t < 1 → is_type t q ≡ false
  unfolding is_type all_of
  type_low h = rw (lt-leb 1 t h)
