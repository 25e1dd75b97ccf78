-- What the answers on a point's fields mean, by cases: the fields of the rest, wherever it starts.
use Rattle.std.specs.Prelude.{ℕ, ◌+◌, ◌≤◌, ◌≡◌, Result, Ok, Err, List, [], ◌∷◌, ℤ, length, take, drop}
use Rattle.base.specs.declared.reasons.Reason.{Reason}
use Rattle.base.specs.declared.reasons.Refusal.{Refusal}
use Rattle.base.specs.Reasons.{number_of}
use Rattle.meaning.specs.Model.{Component}
use Rattle.meaning.specs.Field.{fields_of}
use Rattle.meaning.specs.Row.{cells, refused, component_values}
use Rattle.read_fields.specs.RowProgress.{prefixed}

-- the value of the first field, and what follows it
pub record ValueGot (u : ℕ) (c : Component) (rest : List ℕ) (v : ℤ) (end : ℕ) : Type 0 where
  pub within : end ≤ length rest
  pub meant : (start place : ℕ) (cs : List Component)
      → component_values u place (c ∷ cs) (fields_of start rest)
      ≡ prefixed (v ∷ []) (component_values u (place + 1) cs (fields_of (start + end) (drop end rest)))

abbrev pub GetsValue : ℕ → Component → List ℕ → Result (ℤ × ℕ) Reason → Type 0
GetsValue u c rest (Ok p) = ValueGot u c rest p.0 p.1
GetsValue u c rest (Err reason) = (start place : ℕ) (cs : List Component)
    → component_values u place (c ∷ cs) (fields_of start rest) ≡ refused (number_of reason) place

-- the values of a point whose fields begin at place 2: as many as there are components
abbrev pub ReadsPoint : ℕ → List Component → List ℕ → ℕ → Result (List ℤ) Refusal → Type 0
ReadsPoint u cs rest count (Ok values) =
    ((start : ℕ) → component_values u 2 cs (fields_of start rest) ≡ cells (take count values)) × (length values ≡ 3)
ReadsPoint u cs rest count (Err r) =
    (start : ℕ) → component_values u 2 cs (fields_of start rest) ≡ refused (number_of r.reason) r.field
