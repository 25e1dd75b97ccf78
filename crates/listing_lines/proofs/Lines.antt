-- A line of cells, cell by cell. Assumes nothing.
use Prim.Native.Nat.{ℕ, ◌+◌, ◌-◌, ◌≤◌, ◌<◌}
use native.Mathlib.Numerals.{add-one}
use native.Mathlib.Omega.{arith}
use mathlib.Core.Path.{◌≡◌, refl, sym, ap, ◌∙◌}
use mathlib.Core.List.{List, [], ◌∷◌, ◌++◌, append_assoc, append-nil}
use lib.Dec.{ltb}
use lib.IntN.{ℤ, pos}
use lib.ListN.{length, take, drop, get_or, set, length-append, length-drop, length-take}
use lib.Seq.{sets, sets-eq, take_at, drop-cons, length-take-le}
use borrow.Author.Tests.{lt-ltb, le-ltb}
use borrow.Rule.Slice.PartMut.{mid_of, put_mid}
use Rattle.meaning.specs.Bytes.{choose}
use Rattle.meaning.specs.Digits.{number_bytes}
use Rattle.meaning.specs.Listing.{print_row}
use Rattle.base.proofs.Fill.{stored}

-- bytes that are put from n on, and one behind them
module _ (n : ℕ) (xs bs : List ℕ) (b : ℕ) (h : n + length bs < length xs) where
  unfoldable behind_mid : List ℕ
  behind_mid = drop (0 + length bs) (mid_of n (length xs - n) xs) ++ drop (length xs - n) (drop n xs)

  in_front : put_mid n (length xs - n) xs (sets (mid_of n (length xs - n) xs) 0 bs) ≡ (take n xs ++ bs) ++ behind_mid
  unfolding behind_mid
  in_front = rw (sets-eq bs (mid_of n (length xs - n) xs) 0 (simp (length-take, length-drop) (omega arith))) (simp append_assoc)

  front_length : length (take n xs ++ bs) ≡ n + length bs
  front_length = omega (arith, length-append (take n xs) bs, length-take-le n xs (omega arith))

  behind_length : 0 < length behind_mid
  unfolding behind_mid
  behind_length = simp (length-append, length-drop, length-take) (omega arith)

  pub cell_put : take (n + length bs + 1) (set (put_mid n (length xs - n) xs (sets (mid_of n (length xs - n) xs) 0 bs)) (n + length bs) b) ≡ take n xs ++ (bs ++ (b ∷ []))
  cell_put =
      let l : n + length bs < length ((take n xs ++ bs) ++ behind_mid) = omega (arith, length-append (take n xs ++ bs) behind_mid, front_length, behind_length) in
      rw in_front (stored (n + length bs) ((take n xs ++ bs) ++ behind_mid) b l ∙ rw (take_at (take n xs ++ bs) behind_mid (n + length bs) front_length, append_assoc))

-- what is left of a line from one of its cells on; nothing behind the last
abbrev pub rest : List ℤ → List ℕ
rest [] = []
rest (v ∷ vs) = print_row (v ∷ vs)

module _ (vs : List ℤ) (i : ℕ) (h : i < length vs) where
  pub row_step : rest (drop i vs) ≡ (number_bytes 0 (get_or vs i (pos 0)) ++ (choose (ltb (i + 1) (length vs)) 0x20 0x0a ∷ [])) ++ rest (drop (i + 1) vs)
  unfolding print_row choose
  row_step = go (drop (i + 1) vs) refl
    where
      first : (r : List ℤ) → drop (i + 1) vs ≡ r → drop i vs ≡ get_or vs i (pos 0) ∷ r
      first r e = drop-cons vs i (pos 0) h ∙ ap (λ (t : List ℤ). get_or vs i (pos 0) ∷ t) (ap (λ (k : ℕ). drop k vs) (sym (add-one i)) ∙ e)

      go : (r : List ℤ) → drop (i + 1) vs ≡ r → rest (drop i vs) ≡ (number_bytes 0 (get_or vs i (pos 0)) ++ (choose (ltb (i + 1) (length vs)) 0x20 0x0a ∷ [])) ++ rest r
      go [] e =
          let l : length vs ≤ i + 1 = omega (arith, ap length e, length-drop (i + 1) vs) in
          rw (first [] e, le-ltb (i + 1) (length vs) l, append-nil)
      go (w ∷ r) e =
          let l : i + 1 < length vs = omega (arith, ap length e, length-drop (i + 1) vs) in
          rw (first (w ∷ r) e, lt-ltb (i + 1) (length vs) l, append_assoc)

  -- one cell more
  pub row_more : (front front' : List ℕ) → front ++ rest (drop i vs) ≡ rest vs → front' ≡ front ++ (number_bytes 0 (get_or vs i (pos 0)) ++ (choose (ltb (i + 1) (length vs)) 0x20 0x0a ∷ []))
      → front' ++ rest (drop (i + 1) vs) ≡ rest vs
  row_more front front' e f = rw (f, append_assoc front, ← row_step) e

-- a line without cells
pub empty_row : (vs : List ℤ) (xs : List ℕ) → length vs ≡ 0 → 0 < length xs → take 1 (set xs 0 0x0a) ≡ print_row vs
unfolding print_row
empty_row [] [] e h = absurd (omega arith)
empty_row [] (x ∷ xs) e h = refl
empty_row (v ∷ vs) xs e h = absurd (omega arith)
