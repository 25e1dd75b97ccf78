-- The fields of components, one after the other. Assumes nothing.
use Prim.Native.Nat.{ℕ, ◌+◌, ◌*◌, ◌≤◌, ◌<◌}
use native.Mathlib.Omega.{arith}
use mathlib.Core.Path.{◌≡◌}
use mathlib.Core.List.{List, [], ◌∷◌, ◌++◌}
use lib.IntN.{ℤ, pos}
use lib.ListN.{length, take, drop, get_or}
use lib.Seq.{drop-drop, get_or-drop}
use Rattle.meaning.specs.Digits.{number_bytes}
use Rattle.meaning.specs.Writing.{field_bytes, point_fields, spaced}
use Rattle.model_records.specs.declared.attributes.Component.{Component}
use Rattle.model_records.specs.Components.{list_of}
use Rattle.model_records.proofs.ComponentLaws.{listed_next, listed_end}
use Rattle.write_objects.specs.Given.{component_fields}

-- ## A coordinate

-- the fields from component i on
abbrev pub fields_from : (u count : ℕ) → List Component → (cell i : ℕ) → List ℤ → List ℕ
fields_from u count items cell i cells = spaced (component_fields u (drop i (list_of (take count items))) (drop (cell + 2 * i) cells))

module _ (u count : ℕ) (items : List Component) (cell : ℕ) (cells : List ℤ) where
  pub fields_start : fields_from u count items cell 0 cells ≡ spaced (component_fields u (list_of (take count items)) (drop cell cells))
  fields_start = let e : cell + 2 * 0 ≡ cell = omega arith in rw e

  module _ (i : ℕ) where
    pub fields_turn : (d : Component) → i < count → count ≤ length items
        → fields_from u count items cell i cells
        ≡ (0x20 ∷ field_bytes u (get_or (drop (cell + 2 * i) cells) 0 (pos 0)) (number_bytes (get_or items i d).decimals (get_or (drop (cell + 2 * i) cells) 1 (pos 0)))) ++ fields_from u count items cell (i + 1) cells
    unfolding component_fields spaced
    fields_turn d h g =
        let e : cell + 2 * i + 2 ≡ cell + 2 * (i + 1) = omega arith in
        rw (listed_next items i count d h g, drop-drop 2 (cell + 2 * i) cells, e)

    pub fields_end : count ≤ i → fields_from u count items cell i cells ≡ []
    unfolding component_fields spaced
    fields_end h = rw (listed_end items i count h)

-- ## A point

-- the fields from component i on of the point at a place
abbrev pub values_from : (count : ℕ) → List Component → (at i : ℕ) → List ℤ → List ℕ
values_from count items at i points = spaced (point_fields (drop i (list_of (take count items))) (drop (i + 1) (drop at points)))

module _ (count : ℕ) (items : List Component) (at : ℕ) (points : List ℤ) where
  module _ (i : ℕ) where
    pub values_turn : (d : Component) → i < count → count ≤ length items
        → values_from count items at i points ≡ (0x20 ∷ number_bytes (get_or items i d).decimals (get_or (drop at points) (i + 1) (pos 0))) ++ values_from count items at (i + 1) points
    unfolding point_fields spaced
    values_turn d h g =
        let e : i + 1 + 0 ≡ i + 1 = omega arith in
        rw (listed_next items i count d h g, drop-drop 1 (i + 1) (drop at points), get_or-drop (i + 1) (drop at points) 0 (pos 0), e)

    pub values_end : count ≤ i → values_from count items at i points ≡ []
    unfolding point_fields spaced
    values_end h = rw (listed_end items i count h)
