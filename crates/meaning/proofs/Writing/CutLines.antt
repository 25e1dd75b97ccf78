-- A line's physical lines at a width: those that are written are a cut by the rules, and the rules give no others.
-- Assumes nothing.
use Prim.Native.Nat.{ℕ, ◌+◌, ◌-◌, ◌≤◌, ◌<◌}
use native.Mathlib.Omega.{arith}
use mathlib.Core.Path.{◌≡◌, refl, sym, ap, subst, ◌∙◌}
use mathlib.Core.Bool.{Bool, true, false, false≢true}
use mathlib.Core.List.{List, [], ◌∷◌, ◌++◌}
use lib.Dec.{ltb}
use lib.ListN.{length, take, drop, take-append-drop, drop_of_length-le}
use lib.Seq.{length-take-le, take_all, take_at, drop_at}
use borrow.Author.Tests.{ltb-true, ltb-false}
use Rattle.meaning.specs.Bytes.{ends, cont}
use Rattle.meaning.specs.Width.{goes_whole, cut_line}
use Rattle.meaning.specs.WritingClaims.{CutTo, whole, full, short, CutExactly}
use Rattle.meaning.proofs.Tests.Refuse.{no_false}
use Rattle.meaning.proofs.Unfolding.Widths.{whole_exactly, by_cuts_of_line}

module _ (mark width : ℕ) where
  -- what does not go out whole ends in the mark, if it fits
  not_whole : (room : ℕ) (l : List ℕ) → goes_whole mark room l ≡ false → length l ≤ room → ends mark l ≡ true
  not_whole room l h s = no_false (ends mark l) (λ e. false≢true (sym h ∙ (whole_exactly mark room l).1 (s, e)))

  -- these bytes are cut by the rules, and no others are
  record Exact (room : ℕ) (l out : List ℕ) : Type 0 where
    is : CutTo mark width room l out
    only : (bytes : List ℕ) → CutTo mark width room l bytes → out ≡ bytes

  -- ## A rest that goes out whole

  whole_only : (room : ℕ) (l bytes : List ℕ) → length l ≤ room → ends mark l ≡ false → CutTo mark width room l bytes → l ++ (0x0a ∷ []) ≡ bytes
  whole_only room l bytes s e (whole _ _ _) = refl
  whole_only room l bytes s e (full p rest _ marked _) = absurd (false≢true (sym e ∙ marked s))
  whole_only room l bytes s e (short _ _ marked) = absurd (false≢true (sym e ∙ marked))

  whole_exact : (room : ℕ) (l : List ℕ) → goes_whole mark room l ≡ true → Exact room l (l ++ (0x0a ∷ []))
  whole_exact room l h =
      let w = (whole_exactly mark room l).0 h in
      record { is = whole l w.0 w.1; only = λ bytes. whole_only room l bytes w.0 w.1 }

  -- ## A rest that is cut

  -- a cut's bytes, of which so many are in front of the mark
  abbrev cut_at : ℕ → (l out : List ℕ) → List ℕ
  cut_at n l out = take n l ++ (mark ∷ 0x0a ∷ (cont ++ out))

  -- behind the last byte there is a line end only
  nothing_left : (room : ℕ) (l out : List ℕ) → length l ≡ 0 → Exact room l out → out ≡ 0x0a ∷ []
  unfolding ends
  nothing_left room [] out e x = x.only _ (whole [] (omega arith) refl)
  nothing_left room (b ∷ l) out e x = absurd (omega arith)

  -- a rest that does not fill the room goes before the mark as it is
  cut_all : (n : ℕ) (l out : List ℕ) → length l ≤ n → Exact (width - 5) (drop n l) out → cut_at n l out ≡ l ++ (mark ∷ 0x0a ∷ (cont ++ (0x0a ∷ [])))
  cut_all n l out s x = rw (take_all n l s, nothing_left (width - 5) (drop n l) out (ap length (drop_of_length-le l s)) x)

  cut_is : (room : ℕ) (l out : List ℕ) → 2 ≤ room → goes_whole mark room l ≡ false → Exact (width - 5) (drop (room - 1) l) out → CutTo mark width room l (cut_at (room - 1) l out)
  cut_is room l out r h x = go (ltb (length l + 1) room) refl
    where
      n : ℕ
      n = room - 1

      go : (t : Bool) → ltb (length l + 1) room ≡ t → CutTo mark width room l (cut_at n l out)
      go true e =
          let s : length l + 1 < room = ltb-true (length l + 1) room e in
          rw (cut_all n l out (omega arith) x) (short l s (not_whole room l h (omega arith)))
      go false e =
          let s : room ≤ length l + 1 = ltb-false (length l + 1) room e in
          let size : length (take n l) ≡ n = length-take-le n l (omega arith) in
          let parts : take n l ++ drop n l ≡ l = take-append-drop n l in
          subst (λ (k : List ℕ). CutTo mark width room k (cut_at n l out)) parts (full (take n l) (drop n l) (omega arith) (rw parts (not_whole room l h)) x.is)

  cut_only : (room : ℕ) (l out bytes : List ℕ) → goes_whole mark room l ≡ false → Exact (width - 5) (drop (room - 1) l) out → CutTo mark width room l bytes → cut_at (room - 1) l out ≡ bytes
  cut_only room l out bytes h x (whole _ s e) = absurd (false≢true (sym h ∙ (whole_exactly mark room l).1 (s, e)))
  cut_only room l out bytes h x (full {bytes = rest-bytes} p rest size _ c) =
      let n : length p ≡ room - 1 = omega arith in
      let others : out ≡ rest-bytes = x.only rest-bytes (rw (drop_at p rest (room - 1) n) c) in
      rw (take_at p rest (room - 1) n, others)
  cut_only room l out bytes h x (short _ s _) = cut_all (room - 1) l out (omega arith) x

  cut_exact : (room : ℕ) (l out : List ℕ) → 2 ≤ room → goes_whole mark room l ≡ false → Exact (width - 5) (drop (room - 1) l) out → Exact room l (cut_at (room - 1) l out)
  cut_exact room l out r h x = record { is = cut_is room l out r h x; only = λ bytes. cut_only room l out bytes h x }

  line_exact : 16 ≤ width → (l : List ℕ) → Exact width l (cut_line mark width l)
  line_exact least = by_cuts_of_line mark width least Exact whole_exact cut_exact

pub cut_exactly : CutExactly
cut_exactly mark width l bytes least =
    let x = line_exact mark width least l in
    (λ e. subst (CutTo mark width width l) e x.is, x.only bytes)
