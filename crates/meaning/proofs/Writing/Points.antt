-- Reading the lines that are written of a line attribute's points. Assumes nothing.
use Prim.Native.Nat.{ℕ, suc, ◌+◌, ◌*◌, ◌≤◌}
use native.Mathlib.Omega.{arith}
use mathlib.Core.Path.{◌≡◌, refl, sym, ap, subst}
use mathlib.Core.Bool.{false}
use mathlib.Core.List.{List, [], ◌∷◌, ◌++◌, append_assoc, append-nil}
use lib.IntN.{ℤ, pos}
use lib.ListN.{length, take, length-append}
use borrow.Author.Tests.{le-ltb}
use Rattle.meaning.specs.Bytes.{choose, refuse, separator, every, same}
use Rattle.meaning.specs.Model.{Component, Model}
use Rattle.meaning.specs.Field.{has_code}
use Rattle.meaning.specs.Value.{is_undefined, is_undefined_twice}
use Rattle.meaning.specs.Row.{Cells, cells, put_number, component_values, point_cells}
use Rattle.meaning.specs.Reading.{LineState, reached, line_code_of, point, move, is_forbidden, Underway, line_of, with_state, Content, with_point, Rooms}
use Rattle.meaning.specs.Lines.{go, store_point, attribute_line, line_due}
use Rattle.meaning.specs.Writing.{point_code, point_fields, point_lines, line_bytes}
use Rattle.meaning.proofs.Reading.Fields.{solid, Solid, AllSolid, placed}
use Rattle.meaning.proofs.Judge.Valid.{Kind, starts, straight, arc, kind_cell, kind_bytes, kind_code, PointValues, flat, spatial, PointsOk, end, add}
use Rattle.meaning.proofs.Writing.OwnLines.{Reads, reads_simple}

kind_bytes_lem : (k : Kind) → point_code (pos (kind_cell k)) ≡ kind_bytes k
unfolding point_code kind_cell kind_bytes choose
kind_bytes_lem starts = refl
kind_bytes_lem straight = refl
kind_bytes_lem arc = refl

kind_solid : (k : Kind) → Solid (point_code (pos (kind_cell k)))
unfolding point_code kind_cell choose every solid separator
kind_solid starts = refl
kind_solid straight = refl
kind_solid arc = refl

kind_code_lem : (k : Kind) (start : ℕ) (fs : List (List ℕ)) → line_code_of (placed start (point_code (pos (kind_cell k)) ∷ fs)) ≡ kind_code k
unfolding point_code kind_cell kind_code line_code_of has_code same choose placed
kind_code_lem starts start fs = refl
kind_code_lem straight start fs = refl
kind_code_lem arc start fs = refl

values_solid : {u : ℕ} {ks : List Component} {x y z : ℤ} (points : List ℤ) → PointValues u ks x y z → AllSolid (point_fields ks (x ∷ y ∷ z ∷ points))
unfolding point_fields
values_solid points (flat a b) = (a.field.solid, (b.field.solid, tt))
values_solid points (spatial a b d) = (a.field.solid, (b.field.solid, (d.field.solid, tt)))

record ValuesRead (x y z : ℤ) (k : Cells) : Type 0 where
  values : List ℤ
  is : k ≡ cells values
  four : (kind : ℕ) → point_cells kind values ≡ pos kind ∷ x ∷ y ∷ z ∷ []

values_read : {u : ℕ} {ks : List Component} {x y z : ℤ} (points : List ℤ) (start place : ℕ) → PointValues u ks x y z
    → ValuesRead x y z (component_values u place ks (placed start (point_fields ks (x ∷ y ∷ z ∷ points))))
unfolding point_fields component_values placed is_undefined is_undefined_twice refuse put_number point_cells
values_read points start place (flat {x = x} {y = y} a b) = record {
  values = x ∷ y ∷ [];
  is = rw (a.field.one, a.field.two, b.field.one, b.field.two, a.reads, b.reads);
  four = λ kind. refl;
}
values_read points start place (spatial {x = x} {y = y} {z = z} a b d) = record {
  values = x ∷ y ∷ z ∷ [];
  is = rw (a.field.one, a.field.two, b.field.one, b.field.two, d.field.one, d.field.two, a.reads, b.reads, d.reads);
  four = λ kind. refl;
}

module _ (m : Model) (rooms : Rooms) (own : List ℕ) (P : Content → Type 0) where
  -- a point's line
  point_goes : (w : Underway) (c : Content) (kind : Kind) (next : LineState) (x y z : ℤ) (points : List ℤ) →
      let k : List (List ℕ) = point_code (pos (kind_cell kind)) ∷ point_fields w.attribute.components (x ∷ y ∷ z ∷ points) in
      move w.state (kind_code kind) ≡ point (kind_cell kind) next → is_forbidden w.attribute.forms w.state (kind_code kind) ≡ false
      → PointValues m.undefined w.attribute.components x y z → length c.points + 4 ≤ rooms.points
      → (start : ℕ) → line_due m rooms own (line_of w) (line_bytes k) (placed start k) c ≡ go (line_of (with_state next w)) (with_point (pos (kind_cell kind) ∷ x ∷ y ∷ z ∷ []) c)
  unfolding line_due attribute_line store_point refuse placed
  point_goes w c kind next x y z points moves form values room start =
      let fs : List (List ℕ) = point_fields w.attribute.components (x ∷ y ∷ z ∷ points) in
      let f : List ℕ = point_code (pos (kind_cell kind)) in
      let v = values_read points (start + length f + 1) 2 values in
      rw (kind_code_lem kind start fs, moves) (rw (kind_code_lem kind start fs, form, v.is, le-ltb rooms.points (length c.points + 4) room, v.four (kind_cell kind)))

  -- so many points
  pub points_read : (w : Underway) (ks : List (List (List ℕ))) (c : Content) {state : LineState} {n : ℕ} {points : List ℤ}
      → PointsOk m.undefined w.attribute.forms w.attribute.components state n points → length c.points + 4 * n ≤ rooms.points
      → Reads m rooms own P (line_of (with_state reached w)) (with_point (take (4 * n) points) c) ks
      → Reads m rooms own P (line_of (with_state state w)) c (point_lines w.attribute.components n points ++ ks)
  unfolding point_lines
  points_read w ks c end room r =
      let same : with_point [] c ≡ c = ap (λ (l : List ℤ). record { marks = c.marks; rows = c.rows; cells = c.cells; points = l }) (append-nil c.points) in
      rw same at r
  points_read w ks c {state} (add {next = next} {n = n} {x = x} {y = y} {z = z} {points = points} kind moves form values others) room r =
      let four : List ℤ = pos (kind_cell kind) ∷ x ∷ y ∷ z ∷ [] in
      let size : 4 * suc n ≡ suc (suc (suc (suc (4 * n)))) = omega arith in
      let all : (c.points ++ four) ++ take (4 * n) points ≡ c.points ++ take (4 * suc n) (four ++ points) = rw size (append_assoc c.points four (take (4 * n) points)) in
      let then : Reads m rooms own P (line_of (with_state reached w)) (with_point (take (4 * n) points) (with_point four c)) ks =
      subst (λ (l : List ℤ). Reads m rooms own P (line_of (with_state reached w)) (record { marks = c.marks; rows = c.rows; cells = c.cells; points = l }) ks) (sym all) r in
      reads_simple m rooms own P (line_of (with_state state w)) c (point_code (pos (kind_cell kind))) (point_fields w.attribute.components (x ∷ y ∷ z ∷ points)) _ _ _
      (kind_solid kind) (values_solid points values)
      (point_goes (with_state state w) c kind next x y z points moves form values (omega arith))
      (points_read w ks (with_point four c) others (rw (length-append c.points four) (omega arith)) then)
