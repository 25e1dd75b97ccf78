-- The lines of an object: its own, and those of its line attributes. Assumes nothing.
use Prim.Native.Nat.{ℕ, ◌+◌, ◌≤◌}
use native.Mathlib.Omega.{arith}
use mathlib.Core.Path.{◌≡◌, refl}
use mathlib.Core.List.{List, [], ◌∷◌, ◌++◌}
use lib.IntN.{ℤ, pos}
use lib.ListN.{length, drop, get_or}
use Rattle.meaning.specs.Model.{Model, AttributeType, Reference, Coordinate, Number, Text, Date, Enumeration, Line}
use Rattle.meaning.specs.Field.{OBJE}
use Rattle.meaning.specs.Row.{Pair, OfAttribute, OfComponent, OfLine}
use Rattle.meaning.specs.Reading.{Content, LineAttribute, line_attributes}
use Rattle.meaning.specs.Writing.{identification_bytes, type_bytes, pair_fields, attribute_lines, object_lines, spaced, line_bytes, lines_bytes}
use Rattle.meaning.specs.Width.{cut_line, cut_lines}
use Rattle.table.specs.Contents.{content_in, unmarked_in}

-- ## What the lines are written from

module _ (text : List ℕ) (c : Content) where
  -- fields say nothing of the points
  value_same : (type : AttributeType) (a b : ℤ) → type_bytes text c type a b ≡ type_bytes text (unmarked_in c.rows c.cells []) type a b
  unfolding type_bytes
  value_same (Reference target) a b = refl
  value_same (Coordinate ks) a b = refl
  value_same (Number k) a b = refl
  value_same (Text longest) a b = refl
  value_same Date a b = refl
  value_same (Enumeration leaves) a b = refl
  value_same (Line forms ks) a b = refl

  fields_same : (u : ℕ) (ps : List Pair) (cs : List ℤ) → pair_fields u text c ps cs ≡ pair_fields u text (unmarked_in c.rows c.cells []) ps cs
  unfolding pair_fields
  fields_same u [] cs = refl
  fields_same u (OfAttribute o type ∷ ps) cs = rw (value_same type (get_or cs 0 (pos 0)) (get_or cs 1 (pos 0)), fields_same u ps (drop 2 cs))
  fields_same u (OfComponent k ∷ ps) cs = rw (fields_same u ps (drop 2 cs))
  fields_same u (OfLine o forms ks ∷ ps) cs = fields_same u ps (drop 2 cs)

  -- lines of points say nothing of the rows
  lines_same : (as' : List LineAttribute) → attribute_lines c as' ≡ attribute_lines (unmarked_in [] c.cells c.points) as'
  unfolding attribute_lines
  lines_same [] = refl
  lines_same (a ∷ as') = rw (lines_same as')

  pub object_lines_lem : (mark width : ℕ) (m : Model) (ps : List Pair) (row : ℕ)
      → cut_line mark width (line_bytes (OBJE ∷ identification_bytes text c.cells row ∷ pair_fields m.undefined text (unmarked_in c.rows c.cells []) ps (drop (row + 3) c.cells)))
      ++ cut_lines mark width (lines_bytes (attribute_lines (unmarked_in [] c.cells c.points) (line_attributes (row + 3) ps)))
      ≡ cut_lines mark width (lines_bytes (object_lines m text c ps row))
  unfolding cut_lines lines_bytes object_lines
  object_lines_lem mark width m ps row = rw (fields_same m.undefined ps (drop (row + 3) c.cells), lines_same (line_attributes (row + 3) ps))

-- neither hangs on the marks
pub marks_same : (text : List ℕ) (c : Content) (marks : List ℕ) (mark width : ℕ) (m : Model) (ps : List Pair) (row : ℕ)
    → cut_line mark width (line_bytes (OBJE ∷ identification_bytes text c.cells row ∷ pair_fields m.undefined text c ps (drop (row + 3) c.cells)))
    ++ cut_lines mark width (lines_bytes (attribute_lines c (line_attributes (row + 3) ps)))
    ≡ cut_lines mark width (lines_bytes (object_lines m text (content_in marks c.rows c.cells c.points) ps row))
marks_same text c marks mark width m ps row =
    rw (fields_same text c m.undefined ps (drop (row + 3) c.cells), lines_same text c (line_attributes (row + 3) ps))
    (object_lines_lem text (content_in marks c.rows c.cells c.points) mark width m ps row)

-- ## An object's line

pub object_bytes : (identification : List ℕ) (fields : List (List ℕ)) → line_bytes (OBJE ∷ identification ∷ fields) ≡ (OBJE ++ 0x20 ∷ []) ++ (identification ++ spaced fields)
unfolding line_bytes spaced
object_bytes identification fields = refl

-- it has its code at least
pub object_some : (identification : List ℕ) (fields : List (List ℕ)) → 1 ≤ length (line_bytes (OBJE ∷ identification ∷ fields))
unfolding line_bytes
object_some identification fields = omega arith
