-- What the answers of the judge mean.
use Rattle.std.specs.Prelude.{ℕ, Bool, false, not, List, [], ◌∷◌, ℤ, Option, Some, None}
use Rattle.meaning.specs.Bytes.{all_of}
use Rattle.meaning.specs.Model.{Component, Found, found, missing}
use Rattle.meaning.specs.Model.{AttributeType, Reference, Coordinate, Number, Text, Date, Enumeration, Line}
use Rattle.meaning.specs.Value.{within}
use Rattle.meaning.specs.Reading as meaning
use Rattle.meaning.specs.Reading.{Content, move, is_forbidden}
use Rattle.meaning.specs.Judge.{kind_code_of, are_within, after_point, judge_reference, judge_date, judge_leaf}
use Rattle.read_state.specs.Meaning.{line_state_of}
use Rattle.read_state.specs.declared.LineState.{LineState}

-- a point that is fine leads to a line state, from which the line goes on
abbrev pub passed_then : Option LineState → (meaning.LineState → Bool) → Bool
passed_then (Some state) next = next (line_state_of state)
passed_then None next = false

-- a point by its four cells, from a line state on: where it is fine, what follows from the line state behind it
unfoldable pub point_then : (forms : ℕ) → List Component → meaning.LineState → (kind east north height : ℤ)
    → (meaning.LineState → Bool) → Bool
point_then forms ks state kind east north height next =
    after_point (move state (kind_code_of kind)) (λ behind. all_of
    (not (is_forbidden forms state (kind_code_of kind))
    ∷ are_within ks (east ∷ north ∷ height ∷ [])
    ∷ next behind
    ∷ []))

-- the pairs are fine, with so many points before what follows; or one is not
abbrev pub fine_of : Option ℕ → Found
fine_of (Some k) = found k
fine_of None = missing

-- the second cell of a pair whose first one is 1: "Reference: 1 and the number of the object.
-- Number, date, enumeration: 1 and the value"
unfoldable pub judge_second : Content → AttributeType → (b : ℤ) → Bool
judge_second c (Reference target) b = judge_reference c target b
judge_second c (Coordinate ks) b = false
judge_second c (Number x) b = within x b
judge_second c (Text longest) b = false
judge_second c Date b = judge_date b
judge_second c (Enumeration leaves) b = judge_leaf leaves b
judge_second c (Line forms ks) b = false
