-- What the writer's cut to a width gives is a cut of the lines. Assumes nothing.
use Prim.Native.Nat.{ℕ, zero, suc, ◌+◌, ◌-◌, ◌≤◌, ◌<◌}
use native.Mathlib.Omega.{arith}
use mathlib.Core.Path.{◌≡◌, sym}
use mathlib.Core.Bool.{true, false, false≢true}
use mathlib.Core.List.{List, [], ◌∷◌, ◌++◌, append_assoc}
use mathlib.Core.Logic.{◌↔◌}
use lib.ListN.{length, take, drop, length-drop, take-append-drop}
use lib.Dec.{leb}
use borrow.Author.Tests.{leb-true, le-leb, not-true}
use Rattle.meaning.specs.Bytes.{permitted, all_permitted, ends, cont}
use Rattle.meaning.specs.Cut.{lf, last, more, Cut, done, Permitted}
use Rattle.meaning.specs.Width.{goes_whole, cut_in, cut_line, cut_lines}
use Rattle.meaning.proofs.Tests.Refuse.{both, choose_keeps}
use Rattle.meaning.proofs.Values.Digits.{every_take, every_drop}

-- ## What holds of a line cut to a width

-- what goes out whole fits and does not end in the mark
pub whole_exactly : (mark room : ℕ) (l : List ℕ) → (goes_whole mark room l ≡ true) ↔ ((length l ≤ room) × (ends mark l ≡ false))
unfolding goes_whole
whole_exactly mark room l =
    (λ h. let q = both (leb (length l) room) _ h in (leb-true (length l) room q.0, not-true _ q.1), λ h. rw (le-leb (length l) room h.0, h.1))

-- each cut takes a byte at least: they are not used up before the rest is
cuts_left : (mark room cuts : ℕ) (l : List ℕ) → 2 ≤ room → goes_whole mark room l ≡ false → length l < suc cuts → length (drop (room - 1) l) < cuts
unfolding goes_whole ends
cuts_left mark room cuts [] r e h = absurd (false≢true (sym (rw (le-leb 0 room (omega arith)) at e)))
cuts_left mark room cuts (b ∷ l) r e h = omega (arith, length-drop (room - 1) (b ∷ l))

-- what holds of each rest that goes out whole, and of each that is cut where it holds of the rest behind the cut, holds of a line
module _ (mark width : ℕ) (least : 16 ≤ width) (P : (room : ℕ) (l out : List ℕ) → Type 0)
    (whole : (room : ℕ) (l : List ℕ) → goes_whole mark room l ≡ true → P room l (l ++ (0x0a ∷ [])))
    (cut : (room : ℕ) (l out : List ℕ) → 2 ≤ room → goes_whole mark room l ≡ false → P (width - 5) (drop (room - 1) l) out
    → P room l (take (room - 1) l ++ (mark ∷ 0x0a ∷ (cont ++ out)))) where
  by_cuts : (cuts room : ℕ) (l : List ℕ) → 2 ≤ room → length l < cuts → P room l (cut_in cuts mark width room l)
  unfolding cut_in
  by_cuts zero room l r h = absurd (omega arith)
  by_cuts (suc cuts) room l r h =
      choose_keeps (P room l) (goes_whole mark room l) _ _ (whole room l)
      (λ e. cut room l _ r e (by_cuts cuts (width - 5) (drop (room - 1) l) (omega arith) (cuts_left mark room cuts l r e h)))

  pub by_cuts_of_line : (l : List ℕ) → P width l (cut_line mark width l)
  unfolding cut_line
  by_cuts_of_line l = by_cuts (length l + 2) width l (omega arith) (omega arith)

-- ## It is a cut

module _ (mark width : ℕ) (least : 16 ≤ width) {ls : List (List ℕ)} {f : List ℕ} (c : Cut mark ls f) where
  -- a rest that goes out whole
  whole_cut : (room : ℕ) (l : List ℕ) → goes_whole mark room l ≡ true → all_permitted l ≡ true → Cut mark (l ∷ ls) ((l ++ (0x0a ∷ [])) ++ f)
  whole_cut room l h ok = rw (append_assoc l (0x0a ∷ []) f) (last l ok ((whole_exactly mark room l).0 h).1 lf c)

  -- a rest with a cut behind its first bytes
  part_cut : (n : ℕ) (l out : List ℕ) → (all_permitted (drop n l) ≡ true → Cut mark (drop n l ∷ ls) (out ++ f))
      → all_permitted l ≡ true → Cut mark (l ∷ ls) ((take n l ++ (mark ∷ 0x0a ∷ (cont ++ out))) ++ f)
  part_cut n l out others ok =
      rw (append_assoc (take n l) (mark ∷ 0x0a ∷ (cont ++ out)) f)
      (rw (take-append-drop n l) at (more (take n l) (every_take permitted n l ok) lf (others (every_drop permitted n l ok))))

  line_cut : (l : List ℕ) → all_permitted l ≡ true → Cut mark (l ∷ ls) (cut_line mark width l ++ f)
  line_cut =
      by_cuts_of_line mark width least (λ room l out. all_permitted l ≡ true → Cut mark (l ∷ ls) (out ++ f)) whole_cut
      (λ room l out r e. part_cut (room - 1) l out)

-- the writer's lines, cut to a width, are a cut of them
pub width_cuts : (mark width : ℕ) (ls : List (List ℕ)) → 16 ≤ width → Permitted ls → Cut mark ls (cut_lines mark width ls)
unfolding cut_lines
width_cuts mark width [] least h = done
width_cuts mark width (l ∷ ls) least h = line_cut mark width least (width_cuts mark width ls least h.1) l h.0
