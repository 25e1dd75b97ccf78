-- The lines of line attributes: their points, and ELIN. Assumes nothing.
use Prim.Native.Nat.{ℕ, zero, suc, ◌+◌, ◌*◌, ◌-◌, ◌/◌, ◌≤◌, ◌<◌, min}
use native.Mathlib.Omega.{arith}
use mathlib.Core.Path.{◌≡◌, refl, sym, ap}
use mathlib.Core.Bool.{Bool, true, false}
use mathlib.Core.List.{List, [], ◌∷◌, ◌++◌, append-nil}
use borrow.Author.Tests.{leb-true, leb-false, ne_eqb}
use lib.Dec.{leb, eqb}
use lib.IntN.{ℤ, pos, nat_abs}
use lib.ListN.{length, drop, get_or, length-append, drop_of_length-le}
use lib.Seq.{drop-drop}
use Rattle.meaning.specs.Bytes.{choose}
use Rattle.meaning.specs.Model.{Component, Coordinate, Line}
use Rattle.meaning.specs.Check.{good_components, good_type}
use Rattle.meaning.specs.Field.{STPT, LIPT, ARCP, ELIN}
use Rattle.meaning.specs.Row.{component_pairs, pairs_of_type}
use Rattle.meaning.specs.Reading.{Content, cell_at, line_attributes}
use Rattle.meaning.specs.Writing.{point_code, point_fields, point_lines, attribute_lines, spaced, line_bytes, lines_bytes}
use Rattle.meaning.specs.Width.{cut_line, cut_lines}
use Rattle.meaning.proofs.Tests.Refuse.{holds}
use Rattle.model_records.specs.Components.{components_of}
use Rattle.model_records.specs.declared.attributes.Components.{Components}
use Rattle.model_records.specs.declared.attributes.Kind.{Kind}
use Rattle.model_records.specs.declared.attributes.Kind.TheVariants as kind
use Rattle.model_records.specs.Attributes.{of_kind}

-- ## A point

module _ (kind : ℤ) where
  pub code_start : nat_abs kind ≡ 0 → STPT ≡ point_code kind
  unfolding point_code choose
  code_start e = rw e

  pub code_straight : nat_abs kind ≡ 1 → LIPT ≡ point_code kind
  unfolding point_code choose
  code_straight e = rw e

  pub code_arc : (nat_abs kind ≡ 0 → ⊥) → (nat_abs kind ≡ 1 → ⊥) → ARCP ≡ point_code kind
  unfolding point_code choose
  code_arc n₀ n₁ = rw (ne_eqb (nat_abs kind) 0 n₀, ne_eqb (nat_abs kind) 1 n₁)

-- the line of the point at a place
abbrev pub point_line : List Component → (at : ℕ) → List ℤ → List (List ℕ)
point_line ks at points = point_code (get_or (drop at points) 0 (pos 0)) ∷ point_fields ks (drop 1 (drop at points))

pub point_bytes : (code : List ℕ) (fields : List (List ℕ)) → line_bytes (code ∷ fields) ≡ code ++ spaced fields
unfolding line_bytes
point_bytes code fields = refl

code_size : (kind : ℤ) → length (point_code kind) ≡ 4
unfolding point_code choose
code_size kind = go (eqb (nat_abs kind) 0) (eqb (nat_abs kind) 1)
  where
    go : (x y : Bool) → length (choose x STPT (choose y LIPT ARCP)) ≡ 4
    go true y = refl
    go false true = refl
    go false false = refl

-- a point's line has its code at least
pub point_some : (kind : ℤ) (fields : List (List ℕ)) → 1 ≤ length (line_bytes (point_code kind ∷ fields))
point_some kind fields = omega (arith, ap length (point_bytes (point_code kind) fields), length-append (point_code kind) (spaced fields), code_size kind)

-- ## So many points

module _ (mark width : ℕ) (ks : List Component) (points : List ℤ) where
  -- the lines of so many points from a place on
  abbrev pub points_meant : (left at : ℕ) → List ℕ
  points_meant left at = cut_lines mark width (lines_bytes (point_lines ks left (drop at points)))

  pub points_turn : (left at : ℕ) → 0 < left → points_meant left at ≡ cut_line mark width (line_bytes (point_line ks at points)) ++ points_meant (left - 1) (at + 4)
  unfolding cut_lines lines_bytes point_lines
  points_turn zero at h = absurd (omega arith)
  points_turn (suc left) at h = let e : suc left - 1 ≡ left = omega arith in rw (e, drop-drop 4 at points)

  pub points_end : (left at : ℕ) → left ≤ 0 → points_meant left at ≡ []
  unfolding cut_lines lines_bytes point_lines
  points_end left at h = let e : left ≡ 0 = omega arith in rw e

  -- a first point behind the points is as one at their end
  pub points_start : (left first from : ℕ) → from ≡ min first (length points) → points_meant left (4 * from) ≡ points_meant left (4 * first)
  points_start left first from e = go (leb first (length points)) refl
    where
      go : (x : Bool) → leb first (length points) ≡ x → points_meant left (4 * from) ≡ points_meant left (4 * first)
      go true h = let l = leb-true first (length points) h in let m : from ≡ first = omega arith in rw m
      go false h =
          let l = leb-false first (length points) h in
          rw (drop_of_length-le points {i = 4 * from} (omega arith), drop_of_length-le points {i = 4 * first} (omega arith))

-- ## A line attribute

pub elin_line : (mark width : ℕ) → cut_line mark width ELIN ≡ cut_lines mark width (lines_bytes ((ELIN ∷ []) ∷ []))
unfolding cut_lines lines_bytes line_bytes spaced
elin_line mark width = sym (append-nil (cut_line mark width ELIN))

module _ (c : Content) (cell : ℕ) (o : Bool) where
  pub drawn : (forms : ℕ) (ks : List Component)
      → point_lines ks (min (cell_at c.cells cell - 1) (length c.points / 4)) (drop (4 * cell_at c.cells (cell + 1)) c.points) ++ ((ELIN ∷ []) ∷ [])
      ≡ attribute_lines c (line_attributes cell (pairs_of_type o (Line forms ks)))
  unfolding attribute_lines line_attributes pairs_of_type
  drawn forms ks = refl

  further_none : (ks : List Component) (cell : ℕ) → line_attributes cell (component_pairs ks) ≡ []
  unfolding line_attributes component_pairs
  further_none [] cell = refl
  further_none (k ∷ ks) cell = further_none ks (cell + 2)

  coordinate_none : (ks : List Component) → line_attributes cell (pairs_of_type o (Coordinate ks)) ≡ []
  unfolding line_attributes pairs_of_type
  coordinate_none [] = refl
  coordinate_none (k ∷ ks) = further_none ks (cell + 2)

  no_line : (k : Kind) → ((forms : ℕ) (ks : Components) → k ≡ kind.Line forms ks → ⊥) → line_attributes cell (pairs_of_type o (of_kind k)) ≡ []
  unfolding line_attributes pairs_of_type
  no_line (kind.Reference table) n = refl
  no_line (kind.Coordinate ks) n = coordinate_none (components_of ks)
  no_line (kind.Number k) n = refl
  no_line (kind.Text longest) n = refl
  no_line kind.Date n = refl
  no_line (kind.Enumeration leaves) n = refl
  no_line (kind.Line forms ks) n = absurd (n forms ks refl)

  pub not_drawn : (mark width : ℕ) (k : Kind) → ((forms : ℕ) (ks : Components) → k ≡ kind.Line forms ks → ⊥)
      → [] ≡ cut_lines mark width (lines_bytes (attribute_lines c (line_attributes cell (pairs_of_type o (of_kind k)))))
  unfolding attribute_lines lines_bytes cut_lines
  not_drawn mark width k n = rw (no_line k n)

pub line_good : (forms : ℕ) (ks : List Component) → good_type (Line forms ks) ≡ true → good_components ks ≡ true
unfolding good_type
line_good forms ks g = holds _ 3 g
