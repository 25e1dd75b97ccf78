-- What an object's lines are written from.
use Rattle.std.specs.Prelude.{ℕ, List, [], ◌∷◌, ℤ, pos, drop, get_or}
use Rattle.meaning.specs.Model.{Component}
use Rattle.meaning.specs.Digits.{number_bytes}
use Rattle.meaning.specs.Writing.{field_bytes}

-- the fields of a coordinate's components, whose cells are cs
unfoldable pub component_fields : (u : ℕ) → List Component → List ℤ → List (List ℕ)
component_fields u [] cs = []
component_fields u (k ∷ ks) cs =
    field_bytes u (get_or cs 0 (pos 0)) (number_bytes k.decimals (get_or cs 1 (pos 0)))
    ∷ component_fields u ks (drop 2 cs)
