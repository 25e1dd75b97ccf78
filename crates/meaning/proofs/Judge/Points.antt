-- The points of a line that the judge finds fine are fine, and the other way round. Assumes nothing.
use Prim.Native.Nat.{ℕ, zero, suc, ◌*◌, ◌≤◌}
use native.Mathlib.Omega.{arith}
use mathlib.Core.Path.{◌≡◌, refl}
use mathlib.Core.Bool.{Bool, true, false, not, false≢true}
use mathlib.Core.List.{List, [], ◌∷◌}
use lib.IntN.{ℤ, pos}
use lib.ListN.{length}
use borrow.Author.Tests.{not-true}
use Rattle.meaning.specs.Bytes.{choose, all_of}
use Rattle.meaning.specs.Model.{Component}
use Rattle.meaning.specs.Check.{special, good_component, good_components, is_dimension}
use Rattle.meaning.specs.Value.{within}
use Rattle.meaning.specs.Reading.{LineState, unstarted, started, in_arc, reached, LineCode, stpt, lipt, arcp, elin, other, point, move, is_forbidden}
use Rattle.meaning.specs.Judge.{cell_is, kind_code_of, are_within, is_reached, after_point, judge_points}
use Rattle.meaning.proofs.Tests.Refuse.{both, holds}
use Rattle.meaning.proofs.Values.Numerals.{NumberOk, number_writes}
use Rattle.meaning.proofs.Reading.FieldsRead.{number_within}
use Rattle.meaning.proofs.Reading.PointsRead.{no_dimension}
use Rattle.meaning.proofs.Judge.Valid.{Kind, starts, straight, arc, kind_cell, kind_code, PointValues, flat, spatial, PointsOk, end, add}
use Rattle.meaning.proofs.Judge.Cells.{cell_is_lem, is_cell}

-- ## Values

pub number_is_within : {u : ℕ} {x : Component} {v : ℤ} → NumberOk u x v → within x v ≡ true
number_is_within {x = x} {v = v} n = (number_within x _ (pos 1) v n.reads).1

values_ok : (u : ℕ) (ks : List Component) (x y z : ℤ) → special u ≡ true → is_dimension (length ks) ≡ true → good_components ks ≡ true → are_within ks (x ∷ y ∷ z ∷ []) ≡ true → PointValues u ks x y z
unfolding is_dimension good_components are_within
values_ok u [] x y z su d g h = absurd (false≢true d)
values_ok u (k₁ ∷ []) x y z su d g h = absurd (false≢true d)
values_ok u (k₁ ∷ k₂ ∷ []) x y z su d g h =
    let g₁ = both (good_component k₁) _ g in
    let g₂ = both (good_component k₂) _ g₁.1 in
    let h₁ = both (within k₁ x) _ h in
    let h₂ = both (within k₂ y) _ h₁.1 in
    rw (cell_is_lem z 0 (both (cell_is z 0) _ h₂.1).0) (flat (number_writes u k₁ x su g₁.0 h₁.0) (number_writes u k₂ y su g₂.0 h₂.0))
values_ok u (k₁ ∷ k₂ ∷ k₃ ∷ []) x y z su d g h =
    let g₁ = both (good_component k₁) _ g in
    let g₂ = both (good_component k₂) _ g₁.1 in
    let g₃ = both (good_component k₃) _ g₂.1 in
    let h₁ = both (within k₁ x) _ h in
    let h₂ = both (within k₂ y) _ h₁.1 in
    let h₃ = both (within k₃ z) _ h₂.1 in
    spatial (number_writes u k₁ x su g₁.0 h₁.0) (number_writes u k₂ y su g₂.0 h₂.0) (number_writes u k₃ z su g₃.0 h₃.0)
values_ok u (k₁ ∷ k₂ ∷ k₃ ∷ k₄ ∷ ks) x y z su d g h = absurd (no_dimension (length ks) d)

ok_values : {u : ℕ} {ks : List Component} {x y z : ℤ} → PointValues u ks x y z → are_within ks (x ∷ y ∷ z ∷ []) ≡ true
unfolding are_within
ok_values (flat a b) = rw (number_is_within a, number_is_within b, is_cell 0)
ok_values (spatial a b c) = rw (number_is_within a, number_is_within b, number_is_within c)

-- ## Kinds

kind_code_lem : (kind : Kind) → kind_code_of (pos (kind_cell kind)) ≡ kind_code kind
unfolding kind_code_of kind_cell kind_code choose cell_is
kind_code_lem starts = refl
kind_code_lem straight = refl
kind_code_lem arc = refl

-- what the code of a cell says of it
abbrev KindIn : ℤ → LineCode → Type 0
KindIn a stpt = a ≡ pos 0
KindIn a lipt = a ≡ pos 1
KindIn a arcp = a ≡ pos 2
KindIn a elin = ⊥
KindIn a other = Unit {0}

kind_in : (a : ℤ) → KindIn a (kind_code_of a)
unfolding kind_code_of choose
kind_in a = go (cell_is a 0) (cell_is a 1) (cell_is a 2) refl refl refl
  where
    go : (x y z : Bool) → cell_is a 0 ≡ x → cell_is a 1 ≡ y → cell_is a 2 ≡ z → KindIn a (choose x stpt (choose y lipt (choose z arcp other)))
    go true y z p q r = cell_is_lem a 0 p
    go false true z p q r = cell_is_lem a 1 q
    go false false true p q r = cell_is_lem a 2 r
    go false false false p q r = tt

-- a move to a point, by the code of a kind
record Moved (kind : Kind) (state : LineState) (f : LineState → Bool) : Type 0 where
  next : LineState
  moves : move state (kind_code kind) ≡ point (kind_cell kind) next
  fine : f next ≡ true

moved : (kind : Kind) (state : LineState) (f : LineState → Bool) → after_point (move state (kind_code kind)) f ≡ true → Moved kind state f
unfolding move kind_code kind_cell
moved starts unstarted f h = record { next = started; moves = refl; fine = h }
moved starts started f h = absurd (false≢true h)
moved starts in_arc f h = absurd (false≢true h)
moved starts reached f h = absurd (false≢true h)
moved straight unstarted f h = absurd (false≢true h)
moved straight started f h = record { next = reached; moves = refl; fine = h }
moved straight in_arc f h = record { next = reached; moves = refl; fine = h }
moved straight reached f h = record { next = reached; moves = refl; fine = h }
moved arc unstarted f h = absurd (false≢true h)
moved arc started f h = record { next = in_arc; moves = refl; fine = h }
moved arc in_arc f h = absurd (false≢true h)
moved arc reached f h = record { next = in_arc; moves = refl; fine = h }

no_move : (state : LineState) (f : LineState → Bool) → after_point (move state other) f ≡ true → ⊥
unfolding move
no_move unstarted f h = false≢true h
no_move started f h = false≢true h
no_move in_arc f h = false≢true h
no_move reached f h = false≢true h

end_reached : (u forms : ℕ) (ks : List Component) (state : LineState) (points : List ℤ) → is_reached state ≡ true → PointsOk u forms ks state zero points
unfolding is_reached
end_reached u forms ks unstarted points h = absurd (false≢true h)
end_reached u forms ks started points h = absurd (false≢true h)
end_reached u forms ks in_arc points h = absurd (false≢true h)
end_reached u forms ks reached points h = end

-- ## Points

module _ (u forms : ℕ) (ks : List Component) where
  -- what follows a point, where its line has come to a state
  abbrev Behind : LineState → LineCode → (x y z : ℤ) → ℕ → List ℤ → LineState → Bool
  Behind state code x y z n points next = all_of (not (is_forbidden forms state code) ∷ are_within ks (x ∷ y ∷ z ∷ []) ∷ judge_points forms ks next n points ∷ [])

  pub points_judged : special u ≡ true → is_dimension (length ks) ≡ true → good_components ks ≡ true → (state : LineState) (n : ℕ) (points : List ℤ) → 4 * n ≤ length points
      → judge_points forms ks state n points ≡ true → PointsOk u forms ks state n points
  unfolding judge_points kind_code kind_cell
  points_judged su d g state zero points l h = end_reached u forms ks state points h
  points_judged su d g state (suc n) [] l h = absurd (omega arith)
  points_judged su d g state (suc n) (a ∷ []) l h = absurd (omega arith)
  points_judged su d g state (suc n) (a ∷ x ∷ []) l h = absurd (omega arith)
  points_judged su d g state (suc n) (a ∷ x ∷ y ∷ []) l h = absurd (omega arith)
  points_judged su d g state (suc n) (a ∷ x ∷ y ∷ z ∷ points) l h = by (kind_code_of a) (kind_in a) h (λ next. points_judged su d g next n points (omega arith))
    where
      with_kind : (kind : Kind) → a ≡ pos (kind_cell kind) → after_point (move state (kind_code kind)) (Behind state (kind_code kind) x y z n points) ≡ true
          → ((next : LineState) → judge_points forms ks next n points ≡ true → PointsOk u forms ks next n points) → PointsOk u forms ks state (suc n) (a ∷ x ∷ y ∷ z ∷ points)
      with_kind kind e h ih =
          let v = moved kind state (Behind state (kind_code kind) x y z n points) h in
          rw e (add kind v.moves (not-true _ (holds _ 0 v.fine)) (values_ok u ks x y z su d g (holds _ 1 v.fine)) (ih v.next (holds _ 2 v.fine)))

      by : (code : LineCode) → KindIn a code → after_point (move state code) (Behind state code x y z n points) ≡ true
          → ((next : LineState) → judge_points forms ks next n points ≡ true → PointsOk u forms ks next n points) → PointsOk u forms ks state (suc n) (a ∷ x ∷ y ∷ z ∷ points)
      by stpt e h ih = with_kind starts e h ih
      by lipt e h ih = with_kind straight e h ih
      by arcp e h ih = with_kind arc e h ih
      by elin e h ih = absurd e
      by other e h ih = absurd (no_move state (Behind state other x y z n points) h)

  pub judged_points : {state : LineState} {n : ℕ} {points : List ℤ} → PointsOk u forms ks state n points → judge_points forms ks state n points ≡ true
  unfolding judge_points is_reached all_of
  judged_points end = refl
  judged_points (add kind a b v p) = rw (kind_code_lem kind, a, b, ok_values v, judged_points p)
