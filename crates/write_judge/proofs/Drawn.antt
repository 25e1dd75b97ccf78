-- The points of a line: what each test says of it, and the walk over them. Assumes nothing.
use Prim.Native.Nat.{ℕ, suc, ◌+◌, ◌*◌, ◌-◌, ◌≤◌, ◌<◌}
use native.Mathlib.Omega.{arith}
use mathlib.Core.Path.{◌≡◌, refl, sym, ap, ◌∙◌}
use mathlib.Core.Bool.{Bool, true, false, not, ◌&&◌, and_assoc}
use mathlib.Core.List.{List, [], ◌∷◌}
use lib.IntN.{ℤ, pos}
use lib.ListN.{length, take, drop, get_or}
use lib.Seq.{get_or-drop, drop-drop}
use Rattle.meaning.specs.Bytes.{choose, all_of}
use Rattle.meaning.specs.Model as model
use Rattle.meaning.specs.Value.{within}
use Rattle.meaning.specs.Reading.{LineState, unstarted, stpt, lipt, arcp, other, Move, unexpected, undefined_line, ended, point, move, is_forbidden}
use Rattle.meaning.specs.Judge.{cell_is, kind_code_of, are_within, is_reached, after_point, judge_points}
use Rattle.model_records.specs.declared.attributes.Component.{Component}
use Rattle.model_records.specs.Components.{component_of, list_of}
use Rattle.write_judge.specs.Meant.{point_then}
use Rattle.write_judge.proofs.Signs.{alone}

last : (x y z : Bool) → (x && y && z) ≡ (x && (y && (z && true)))
last x y z = and_assoc x y z ∙ ap (λ (w : Bool). x && (y && w)) (alone z)

-- ## A point's first cell

module _ (kind : ℤ) where
  pub code_stpt : cell_is kind 0 ≡ true → stpt ≡ kind_code_of kind
  unfolding kind_code_of choose
  code_stpt e = rw e

  pub code_lipt : cell_is kind 0 ≡ false → cell_is kind 1 ≡ true → lipt ≡ kind_code_of kind
  unfolding kind_code_of choose
  code_lipt e f = rw (e, f)

  pub code_arcp : cell_is kind 0 ≡ false → cell_is kind 1 ≡ false → cell_is kind 2 ≡ true → arcp ≡ kind_code_of kind
  unfolding kind_code_of choose
  code_arcp e f g = rw (e, f, g)

  pub code_other : cell_is kind 0 ≡ false → cell_is kind 1 ≡ false → cell_is kind 2 ≡ false → other ≡ kind_code_of kind
  unfolding kind_code_of choose
  code_other e f g = rw (e, f, g)

-- ## Its values

module _ (d : Component) (x y z : ℤ) where
  pub three_within : (items : List Component) (n : ℕ) → length items ≡ 3 → n ≡ 3
      → (within (component_of (get_or items 0 d)) x && within (component_of (get_or items 1 d)) y && within (component_of (get_or items 2 d)) z) ≡ are_within (list_of (take n items)) (x ∷ y ∷ z ∷ [])
  unfolding are_within list_of
  three_within [] n l e = absurd (omega arith)
  three_within (a ∷ []) n l e = absurd (omega arith)
  three_within (a ∷ (b ∷ [])) n l e = absurd (omega arith)
  three_within (a ∷ (b ∷ (c ∷ items))) n l e = rw e (last (within (component_of a) x) (within (component_of b) y) (within (component_of c) z))

  pub two_within : (items : List Component) (n : ℕ) → length items ≡ 3 → n ≡ 2
      → (within (component_of (get_or items 0 d)) x && within (component_of (get_or items 1 d)) y && cell_is z 0) ≡ are_within (list_of (take n items)) (x ∷ y ∷ z ∷ [])
  unfolding are_within list_of
  two_within [] n l e = absurd (omega arith)
  two_within (a ∷ []) n l e = absurd (omega arith)
  two_within (a ∷ (b ∷ items)) n l e = rw e (last (within (component_of a) x) (within (component_of b) y) (cell_is z 0))

-- ## One point

after_none : (m : Move) (next : LineState → Bool) → ((s : LineState) → false ≡ next s) → false ≡ after_point m next
after_none unexpected next h = refl
after_none undefined_line next h = refl
after_none ended next h = refl
after_none (point kind s) next h = h s

module _ (forms : ℕ) (ks : List model.Component) (state : LineState) (kind east north height : ℤ) (next : LineState → Bool) where
  pub point_forbidden : is_forbidden forms state (kind_code_of kind) ≡ true → false ≡ point_then forms ks state kind east north height next
  unfolding point_then all_of
  point_forbidden h = after_none (move state (kind_code_of kind)) _ (λ s. rw h)

  pub point_outside : are_within ks (east ∷ north ∷ height ∷ []) ≡ false → false ≡ point_then forms ks state kind east north height next
  unfolding point_then all_of
  point_outside h = after_none (move state (kind_code_of kind)) _ (λ s. both_false (not (is_forbidden forms state (kind_code_of kind))) s)
    where
      both_false : (x : Bool) (s : LineState) → false ≡ (x && (are_within ks (east ∷ north ∷ height ∷ []) && (next s && true)))
      both_false true s = rw h
      both_false false s = refl

  pub point_unexpected : unexpected ≡ move state (kind_code_of kind) → false ≡ point_then forms ks state kind east north height next
  unfolding point_then
  point_unexpected e = rw (sym e)

  pub point_undefined : undefined_line ≡ move state (kind_code_of kind) → false ≡ point_then forms ks state kind east north height next
  unfolding point_then
  point_undefined e = rw (sym e)

  pub point_ended : ended ≡ move state (kind_code_of kind) → false ≡ point_then forms ks state kind east north height next
  unfolding point_then
  point_ended e = rw (sym e)

  pub point_fine : (cell : ℕ) (behind : LineState) → point cell behind ≡ move state (kind_code_of kind) → is_forbidden forms state (kind_code_of kind) ≡ false
      → are_within ks (east ∷ north ∷ height ∷ []) ≡ true → next behind ≡ point_then forms ks state kind east north height next
  unfolding point_then all_of
  point_fine cell behind e f g = rw (sym e, f, g) (alone (next behind))

-- ## The walk

module _ (forms : ℕ) (ks : List model.Component) (points : List ℤ) (n : ℕ) where
  -- the points from point i on mean what all mean
  pub record PointsLeft (i : ℕ) (state : LineState) : Type 0 where
    pub count : i ≤ n
    pub same : judge_points forms ks state (n - i) (drop (4 * i) points) ≡ judge_points forms ks unstarted n points

  pub points_end : (i : ℕ) (state : LineState) → PointsLeft i state → n ≤ i → is_reached state ≡ judge_points forms ks unstarted n points
  unfolding judge_points
  points_end i state p l = let e : n - i ≡ 0 = omega arith in rw e at p.same

  module _ (i : ℕ) (state : LineState) (p : PointsLeft i state) (l : i < n) where
    turn : judge_points forms ks state (n - i) (drop (4 * i) points)
        ≡ point_then forms ks state (get_or points (4 * i) (pos 0)) (get_or points (4 * i + 1) (pos 0)) (get_or points (4 * i + 2) (pos 0)) (get_or points (4 * i + 3) (pos 0)) (λ s. judge_points forms ks s (n - (i + 1)) (drop (4 * (i + 1)) points))
    unfolding judge_points point_then
    turn =
        let e : n - i ≡ suc (n - (i + 1)) = omega arith in
        let f : 4 * (i + 1) ≡ 4 * i + 4 = omega arith in
        let g : 4 * i + 0 ≡ 4 * i = omega arith in
        rw (e, f) (simp (get_or-drop, drop-drop, g))

    pub points_stop : ((next : LineState → Bool) → false ≡ point_then forms ks state (get_or points (4 * i) (pos 0)) (get_or points (4 * i + 1) (pos 0)) (get_or points (4 * i + 2) (pos 0)) (get_or points (4 * i + 3) (pos 0)) next)
        → false ≡ judge_points forms ks unstarted n points
    points_stop h = h _ ∙ sym turn ∙ p.same

    pub points_on : (behind : LineState)
        → ((next : LineState → Bool) → next behind ≡ point_then forms ks state (get_or points (4 * i) (pos 0)) (get_or points (4 * i + 1) (pos 0)) (get_or points (4 * i + 2) (pos 0)) (get_or points (4 * i + 3) (pos 0)) next)
        → PointsLeft (i + 1) behind
    points_on behind h = record { count = omega arith; same = h _ ∙ sym turn ∙ p.same }
