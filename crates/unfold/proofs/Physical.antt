-- The first physical line of a file: by its permitted bytes and the line end behind them, and by its LF.
-- Assumes nothing.
use Prim.Native.Nat.{ℕ, zero, suc, ◌+◌, ◌-◌, ◌<◌, ◌≤◌, zero-le}
use native.Mathlib.Omega.{arith}
use native.Mathlib.Numerals.{add-one}
use mathlib.Core.Path.{◌≡◌, refl, sym, ap, ◌∙◌}
use mathlib.Core.Bool.{Bool, true, false, and-true, and-false}
use mathlib.Core.List.{List, [], ◌∷◌, ◌++◌}
use lib.ListN.{length, get_or, take, drop, length-take, length-drop, length-append, take-append-drop}
use lib.Seq.{take_all, take-length, split_at, take-take, drop-drop, drop-append_seam}
use lib.Dec.{eqb}
use borrow.Author.Tests.{eqb-true, not-false}
use Rattle.meaning.specs.Bytes.{choose, begins, prefix}
use Rattle.meaning.specs.Unfold.{permitted, every, ends, without_last, Physical, tail, line, physical, without_last_if}
use Rattle.meaning.specs.Cut.{End, lf, crlf}
use Rattle.meaning.proofs.Unfolding.Physical.{phys_lf, phys_tail}
use Rattle.meaning.proofs.Unfolding.Cuts.{Spelled, s_tail, s_line, spelled, phys_line}
use Rattle.unfold.specs.First.{leading, no_lf, end_len, Shortened, LineOf, FirstLineOf}
use Rattle.unfold.proofs.Leading.{leading_within, leading_every, leading_behind, leading_append}

-- ## Without the last byte

last_take : (l : List ℕ) (k : ℕ) → length l ≡ suc k → take k l ≡ without_last l
unfolding without_last
last_take [] k h = absurd (omega arith)
last_take (b ∷ []) zero h = refl
last_take (b ∷ []) (suc k) h = absurd (omega arith)
last_take (b ∷ (c ∷ l)) zero h = absurd (omega arith)
last_take (b ∷ (c ∷ l)) (suc k) h = ap (λ (x : List ℕ). b ∷ x) (last_take (c ∷ l) k (omega arith))

pub shorter : (l : List ℕ) → Shortened true l (length l - 1)
unfolding without_last_if without_last
shorter [] = record { within = zero-le; same = refl }
shorter (b ∷ l) =
    let n : suc (length l) - 1 ≡ length l = omega arith in
    record { within = omega arith; same = rw n (last_take (b ∷ l) (length l) refl) }

pub not_shorter : (l : List ℕ) → Shortened false l (length l)
unfolding without_last_if
not_shorter l = record { within = omega arith; same = take-length l }

-- ## The line end behind the permitted bytes

-- by the texts that it may be
pub end_begins : (f : List ℕ) → end_len f ≡ choose (prefix (0x0a ∷ []) f) 1 (choose (prefix (0x0d ∷ 0x0a ∷ []) f) 2 0)
unfolding end_len begins prefix choose
end_begins [] = refl
end_begins (b ∷ []) = rw (and-true (eqb b 0x0a)) refl
end_begins (b ∷ (d ∷ f)) = rw (and-true (eqb b 0x0a), and-true (eqb d 0x0a)) refl

-- g begins with a line end of k bytes
record EndAt (g : List ℕ) (k : ℕ) : Type 0 where
  end : List ℕ
  is : End end
  long : length end ≡ k
  split : g ≡ end ++ drop k g

end_at : (g : List ℕ) → (end_len g ≡ 0 → ⊥) → EndAt g (end_len g)
unfolding end_len choose begins
end_at [] h = absurd (h refl)
end_at (b ∷ []) h = go (eqb b 0x0a) refl
  where
    go : (x : Bool) → eqb b 0x0a ≡ x → EndAt (b ∷ []) (end_len (b ∷ []))
    go true e = rw (eqb-true b 0x0a e) (record { end = 0x0a ∷ []; is = lf; long = refl; split = refl })
    go false e = absurd (h (rw (e, and-false (eqb b 0x0d))))
end_at (b ∷ (c ∷ f)) h = go (eqb b 0x0a) (eqb b 0x0d) (eqb c 0x0a) refl refl refl
  where
    go : (x y z : Bool) → eqb b 0x0a ≡ x → eqb b 0x0d ≡ y → eqb c 0x0a ≡ z → EndAt (b ∷ (c ∷ f)) (end_len (b ∷ (c ∷ f)))
    go true y z ex ey ez = rw (eqb-true b 0x0a ex) (record { end = 0x0a ∷ []; is = lf; long = refl; split = refl })
    go false true true ex ey ez = rw (eqb-true b 0x0d ey, eqb-true c 0x0a ez) (record { end = 0x0d ∷ 0x0a ∷ []; is = crlf; long = refl; split = refl })
    go false true false ex ey ez = absurd (h (rw (ex, ey, ez)))
    go false false z ex ey ez = absurd (h (rw (ex, ey)))

pub line_permitted : (f : List ℕ) (n k : ℕ) → n ≡ leading permitted f → k ≡ end_len (drop n f) → (k ≡ 0 → ⊥) → FirstLineOf f (record { len = n; after = n + k; permitted = true })
line_permitted f n k e g h =
    let fine : every permitted (take n f) ≡ true = rw e (leading_every permitted f) in
    let a : EndAt (drop n f) k = rw g (end_at (drop n f) (λ z. h (g ∙ z))) in
    let behind : drop n f ≡ a.end ++ drop (n + k) f = a.split ∙ ap (λ (x : List ℕ). a.end ++ x) (drop-drop k n f) in
    let fits : length (drop n f) ≡ k + length (drop k (drop n f)) = ap length a.split ∙ length-append a.end (drop k (drop n f)) ∙ ap (λ (x : ℕ). x + length (drop k (drop n f))) a.long in
    let whole : f ≡ take n f ++ (a.end ++ drop (n + k) f) = sym (take-append-drop n f) ∙ ap (λ (x : List ℕ). take n f ++ x) behind in
    record {
      line_of = record {
        inside = omega arith;
        within = omega (arith, leading_within permitted f, length-drop n f);
        split = ap physical whole ∙ phys_line (take n f) (drop (n + k) f) fine a.is;
      };
      tested = fine;
    }

-- ## The line by its LF

pub no_line : (l : List ℕ) → length l ≤ leading no_lf l → physical l ≡ tail l
no_line l h = phys_tail l (rw (take_all (leading no_lf l) l h) at (leading_every no_lf l))

first_line : (l : List ℕ) → leading no_lf l < length l →
    physical l ≡ line (without_last_if (ends 0x0d (take (leading no_lf l) l)) (take (leading no_lf l) l)) (physical (drop (suc (leading no_lf l)) l))
first_line l h =
    let n : ℕ = leading no_lf l in
    let ends_here : get_or l n 0 ≡ 0x0a = eqb-true _ _ (not-false _ (leading_behind no_lf l h)) in
    let whole : l ≡ take n l ++ (0x0a ∷ drop (suc n) l) = split_at l n 0 h ∙ ap (λ (b : ℕ). take n l ++ (b ∷ drop (suc n) l)) ends_here in
    ap physical whole ∙ phys_lf (take n l) (drop (suc n) l) (leading_every no_lf l)

line_of : (f : List ℕ) (n len : ℕ) → n ≡ leading no_lf f → n < length f → Shortened (ends 0x0d (take n f)) (take n f) len → LineOf f len (n + 1)
line_of f n len e h s =
    let below : len ≤ n = omega (arith, s.within, length-take n f) in
    record {
      inside = omega arith;
      within = omega arith;
      split = rw (add-one, ← (take-take len n f below), s.same, e) (first_line f (omega arith));
    }

-- ## A line whose permitted bytes are not followed by a line end has a byte that is not permitted

record Spelt (l f : List ℕ) : Type 0 where
  end : List ℕ
  rest : List ℕ
  is : End end
  split : f ≡ l ++ (end ++ rest)

spelt : {q : Physical} {f : List ℕ} → Spelled q f → (l : List ℕ) (p : Physical) → q ≡ line l p → Spelt l f
spelt s_tail l p h = let z : ◌≡◌ {A = ℕ} 0 1 = cc in absurd (omega arith)
spelt (s_line k {e = e} {f = f} end s) l p h = let same : k ≡ l = cc in record { end = e; rest = f; is = end; split = rw same }

no_run : {e : List ℕ} (r : List ℕ) → End e → leading permitted (e ++ r) ≡ 0
unfolding leading choose permitted
no_run r lf = refl
no_run r crlf = refl

some_end : {e : List ℕ} (r : List ℕ) → End e → end_len (e ++ r) ≡ 0 → ⊥
unfolding end_len choose begins
some_end r lf h = omega arith
some_end r crlf h = omega arith

some_run : (l f r : List ℕ) {e : List ℕ} → f ≡ l ++ (e ++ r) → End e → every permitted l ≡ true → end_len (drop (leading permitted f) f) ≡ 0 → ⊥
some_run l f r {e} split end fine h =
    let n : leading permitted (l ++ (e ++ r)) ≡ length l = leading_append permitted l (e ++ r) fine (no_run r end) in
    some_end r end (rw (split, n, drop-append_seam l (e ++ r)) at h)

not_permitted : (f l : List ℕ) (p : Physical) → physical f ≡ line l p → end_len (drop (leading permitted f) f) ≡ 0 → every permitted l ≡ false
not_permitted f l p e h = go (every permitted l) refl
  where
    go : (x : Bool) → every permitted l ≡ x → every permitted l ≡ false
    go false g = g
    go true g = let s : Spelt l f = spelt (spelled f) l p e in absurd (some_run l f s.rest s.split s.is g h)

pub line_not_permitted : (f : List ℕ) (n len : ℕ) → end_len (drop (leading permitted f) f) ≡ 0 → n ≡ leading no_lf f → n < length f → Shortened (ends 0x0d (take n f)) (take n f) len
    → FirstLineOf f (record { len = len; after = n + 1; permitted = false })
line_not_permitted f n len none e h s =
    let first : LineOf f len (n + 1) = line_of f n len e h s in
    record { line_of = first; tested = not_permitted f (take len f) (physical (drop (n + 1) f)) first.split none }
