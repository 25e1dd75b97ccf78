-- How a row is filled: what the fields that are left mean for it, and what a step leaves.
-- Short names as in the meaning: u the undefined byte, place the number of a field on its line, fs the fields from that
-- place on, ps the pairs that are left.
use Rattle.std.specs.Prelude.{ℕ, zero, suc, ◌+◌, ◌≤◌, ◌<◌, ◌^◌, Bool, true, false, not, ◌&&◌, ◌||◌, ◌≡◌, List, []}
use Rattle.std.specs.Prelude.{◌∷◌, ◌++◌, Result, Ok, Err, ℤ, pos, length, drop}
use Rattle.std.proofs.lemmas.List.Edits.{sets}
use Rattle.base.specs.declared.reasons.Refusal.{Refusal}
use Rattle.base.specs.Reasons.{number_of}
use Rattle.meaning.specs.Bytes.{choose, refuse}
use Rattle.meaning.specs.Model.{AttributeType}
use Rattle.meaning.specs.Field.{Field, fields_of}
use Rattle.meaning.specs.Value.{Value, pair, wrong, value_of, is_undefined, is_undefined_twice}
use Rattle.meaning.specs.Row.{Pair, Cells, cells, refused, put_pair, undefined_pair, has_mandatory}
use Rattle.meaning.specs.Row.{pair_cells}
use Rattle.model_records.specs.declared.attributes.Component.{Component}
use Rattle.model_records.specs.declared.attributes.Kind.{Kind}
use Rattle.model_records.specs.declared.attributes.Kind.TheVariants as kind
use Rattle.model_records.specs.Attributes.{of_kind}
use Rattle.read_fields.specs.declared.taking.Form.{Form}
use Rattle.read_fields.specs.declared.taking.Form.TheVariants.{Defined, Undefined, Twice}
use Rattle.read_fields.specs.declared.filling.RowCursor.{RowCursor}
use Rattle.read_fields.specs.declared.filling.FieldRule.{FieldRule}
use Rattle.read_fields.specs.declared.filling.RowProgress.{RowProgress}
use Rattle.read_fields.specs.declared.filling.RowProgress.TheVariants.{On, RestUndefined}

-- the cells of so many undefined pairs
unfoldable pub zeros : ℕ → List ℤ
zeros zero = []
zeros (suc n) = pos 0 ∷ pos 0 ∷ zeros n

-- cells before those of what follows
unfoldable pub prefixed : List ℤ → Cells → Cells
prefixed vs (refused n f) = refused n f
prefixed vs (cells cs) = cells (vs ++ cs)

-- two undefined bytes at a place, over so many pairs and those of ps behind them
unfoldable pub covered_cells : (place count : ℕ) → List Field → Cells
covered_cells place count [] = cells (zeros count)
covered_cells place count (f ∷ fs) = refused 11 (place + 1)

unfoldable pub covered : (place count : ℕ) → List Pair → List Field → Cells
covered place count ps fs = refuse (has_mandatory ps) (refused 12 place) (covered_cells place (count + length ps) fs)

-- whether a field of this form is against what a field has to be
abbrev pub forbids : FieldRule → Form → Bool
forbids asked Defined = asked.forbidden
forbids asked Undefined = asked.needed
forbids asked Twice = asked.needed

-- a defined field's value, or the undefined pair
unfoldable pub defined_or : Bool → Value → Value
defined_or true v = v
defined_or false v = undefined_pair

-- a field that is due, and the pairs behind it: an attribute's own field must be defined where the attribute is
-- mandatory, a further component must be defined where the first one is, and undefined where that one is
unfoldable pub due_cells : (u : ℕ) (needed forbidden : Bool) (place : ℕ)
    → AttributeType → List Pair → List Field → Cells
due_cells u needed forbidden place type ps [] = refused 11 place
due_cells u needed forbidden place type ps (f ∷ fs) =
    let defined : Bool = not (is_undefined u f) in
    choose (is_undefined_twice u f)
    (refuse (needed || has_mandatory ps) (refused 12 place)
    (covered_cells place (1 + length ps) fs))
    (refuse (needed && not defined || forbidden && defined) (refused 12 place)
    (put_pair place (defined_or defined (value_of type f)) (pair_cells u defined (place + 1) ps fs)))

-- the state behind a field that ends at a byte of the rest, and behind its pair
abbrev pub moved : RowCursor → ℕ → RowCursor
moved s at = record { at = at; place = s.place; used = s.used; before = false }

abbrev pub filled : RowCursor → Bool → RowCursor
filled s before = record { at = s.at; place = s.place + 1; used = s.used + 2; before = before }

-- the state behind a line attribute's pair
abbrev pub passed : RowCursor → RowCursor
passed s = record { at = s.at; place = s.place; used = s.used + 2; before = s.before }

-- what a further component has to be
abbrev pub further_asked : Bool → Component → FieldRule
further_asked before c = record { needed = before; forbidden = not before; kind = kind.Number c }

-- what an attribute's own field has to be, and a coordinate's first component
abbrev pub own_asked : Bool → Kind → FieldRule
own_asked optional k = record { needed = not optional; forbidden = false; kind = k }

-- the fields that are left
abbrev pub left : (start : ℕ) → List ℕ → RowCursor → List Field
left start rest s = fields_of (start + s.at) (drop s.at rest)

-- a row may be filled on, by so many cells
pub record CursorReady (start : ℕ) (rest : List ℕ) (most : ℕ) (s : RowCursor) : Type 0 where
  pub short : start + length rest < 2 ^ 62
  pub within : s.at ≤ length rest
  pub placed : s.place ≤ s.at + 3
  pub room : s.used + most < 2 ^ 64

-- a row filled from s to t: whatever pairs follow, what it meant at s is the values stored and what it means at t
pub record RowFilled (rest : List ℕ) (most : ℕ) (whole after : List Pair → Cells) (s t : RowCursor)
    (entry exit : List ℤ) : Type 0 where
  pub values : List ℤ
  pub meant : (ps : List Pair) → whole ps ≡ prefixed values (after ps)
  pub used : t.used ≡ s.used + length values
  pub stored : exit ≡ sets entry s.used values
  pub few : length values ≤ most
  pub within : t.at ≤ length rest
  pub placed : t.place ≤ t.at + 3

-- what the rest of the row means at a state
abbrev pub going : (u start : ℕ) → List ℕ → RowCursor → List Pair → Cells
going u start rest s ps = pair_cells u s.before s.place ps (left start rest s)

-- the same, over an attribute's pairs and those that follow
abbrev pub going_over : (u start : ℕ) → List ℕ → List Pair → RowCursor → List Pair → Cells
going_over u start rest own s ps = going u start rest s (own ++ ps)

-- what it means where two undefined bytes stood before, over so many pairs of the attribute
abbrev pub covering : (start : ℕ) → List ℕ → RowCursor → ℕ → List Pair → Cells
covering start rest s count ps = covered s.place count ps (left start rest s)

-- a value's pair stored, at a state behind its field
pub record PutsPair (v : Value) (s t : RowCursor) (entry exit : List ℤ) : Type 0 where
  pub first : ℤ
  pub second : ℤ
  pub value : v ≡ pair first second
  pub state : t ≡ filled s true
  pub stored : exit ≡ sets entry s.used (first ∷ second ∷ [])

abbrev pub Puts : Value → RowCursor → (entry exit : List ℤ) → Result RowCursor Refusal → Type 0
Puts v s entry exit (Ok t) = PutsPair v s t entry exit
Puts v s entry exit (Err r) = (v ≡ wrong (number_of r.reason)) × (r.field ≡ s.place)

-- what the rest of the row means where a field is due
abbrev pub due : (u start : ℕ) → List ℕ → FieldRule → RowCursor → List Pair → Cells
due u start rest asked s ps =
    due_cells u asked.needed asked.forbidden s.place
    (of_kind asked.kind) ps (left start rest s)

abbrev pub Fills : (u start : ℕ) (rest : List ℕ) (most : ℕ) (whole : List Pair → Cells) (s : RowCursor)
    (entry exit : List ℤ) → Result RowProgress Refusal → Type 0
Fills u start rest most whole s entry exit (Ok (On t)) =
    RowFilled rest most whole (going u start rest t) s t entry exit
Fills u start rest most whole s entry exit (Ok (RestUndefined t count)) = (t.used + (count + count) ≤ s.used + most)
    × RowFilled rest most whole (covering start rest t count) s t entry exit
Fills u start rest most whole s entry exit (Err r) = (ps : List Pair) → whole ps ≡ refused (number_of r.reason) r.field
