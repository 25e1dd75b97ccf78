-- The lines of a text, from a byte on. Assumes nothing.
use Prim.Native.Nat.{ℕ, suc, ◌+◌, ◌-◌, ◌≤◌, ◌<◌}
use mathlib.Core.Path.{◌≡◌, refl, ap, ◌∙◌}
use mathlib.Core.List.{List, [], ◌∷◌, ◌++◌}
use mathlib.Core.Bool.{Bool, true, false, false≢true}
use native.Mathlib.Omega.{arith}
use native.Mathlib.Numerals.{add-one}
use lib.Dec.{eqb}
use borrow.Author.Tests.{eq-eqb, ne_eqb}
use lib.ListN.{length, get_or, take, drop, length-drop, drop_of_length-le}
use lib.Seq.{drop-cons, drop-length, drop-drop}
use Rattle.meaning.specs.Bytes.{choose, permitted, every, all_permitted}
use Rattle.meaning.specs.Unfold.{unfolded_text}
use Rattle.meaning.specs.Cut.{Permitted}
use Rattle.meaning.proofs.Unfolding.Cuts.{both}
use Rattle.read_text.specs.Text.{add_byte, lines_of, line_end}

pub here : (s : List ℕ) (i : ℕ) → i < length s → get_or s i 0 ≡ 10 → line_end (drop i s) ≡ 0
unfolding line_end choose
here s i h e = rw (drop-cons s i 0 h, eq-eqb _ _ e)

pub more : (s : List ℕ) (i : ℕ) → i < length s → (get_or s i 0 ≡ 10 → ⊥) → line_end (drop i s) ≡ suc (line_end (drop (i + 1) s))
unfolding line_end choose
more s i h e = rw (drop-cons s i 0 h, ne_eqb _ _ e, add-one)

pub none : (s : List ℕ) → line_end (drop (length s) s) ≡ 0
unfolding line_end
none s = rw (drop-length s)

-- a text that is not empty: its first line, and the lines of the rest
cons : (s : List ℕ) → 0 < length s → lines_of s ≡ take (line_end s) s ∷ lines_of (drop (suc (line_end s)) s)
unfolding line_end lines_of add_byte choose
cons [] h = absurd (omega arith)
cons (b ∷ []) h = go (eqb b 10)
  where
    go : (t : Bool) → add_byte t b [] ≡ take (choose t 0 1) (b ∷ []) ∷ lines_of (drop (suc (choose t 0 1)) (b ∷ []))
    go true = refl
    go false = refl
cons (b ∷ c ∷ s) h = go (eqb b 10) (cons (c ∷ s) (omega arith))
  where
    go : (t : Bool) → lines_of (c ∷ s) ≡ take (line_end (c ∷ s)) (c ∷ s) ∷ lines_of (drop (suc (line_end (c ∷ s))) (c ∷ s))
        → add_byte t b (lines_of (c ∷ s)) ≡ take (choose t 0 (suc (line_end (c ∷ s)))) (b ∷ c ∷ s) ∷ lines_of (drop (suc (choose t 0 (suc (line_end (c ∷ s))))) (b ∷ c ∷ s))
    go true ih = refl
    go false ih = ap (add_byte false b) ih

-- the lines from `at` on, and from behind the line's end e
pub split : (s : List ℕ) (at e : ℕ) → at < length s → e ≡ at + line_end (drop at s) → lines_of (drop at s) ≡ take (e - at) (drop at s) ∷ lines_of (drop (e + 1) s)
split s at e h p =
    let k = line_end (drop at s) in
    let l : 0 < length (drop at s) = rw length-drop (omega arith) in
    let q : e - at ≡ k = omega arith in
    let r : e + 1 ≡ at + suc k = omega arith in
    rw (q, r, ← drop-drop (suc k) at s) (cons (drop at s) l)

-- behind the end there is nothing
pub past : (s : List ℕ) (e : ℕ) → length s ≤ e → lines_of (drop e s) ≡ []
unfolding lines_of
past s e h = rw (drop_of_length-le s h)

-- a line of permitted bytes before a text
one_line : (l s : List ℕ) → all_permitted l ≡ true → lines_of (l ++ (0x0a ∷ s)) ≡ l ∷ lines_of s
unfolding lines_of add_byte every permitted
one_line [] s h = refl
one_line (b ∷ l) s h =
    let r = both (permitted b) _ h in
    let n : eqb b 0x0a ≡ false = ne_eqb b 0x0a (λ e. false≢true (rw e at r.0)) in
    rw (n, one_line l s r.1)

-- the unfolded text of lines of permitted bytes has these lines
pub lines_back : (ls : List (List ℕ)) → Permitted ls → lines_of (unfolded_text ls) ≡ ls
unfolding lines_of unfolded_text
lines_back [] h = refl
lines_back (l ∷ ls) h = one_line l (unfolded_text ls) h.0 ∙ ap (λ (ks : List (List ℕ)). l ∷ ks) (lines_back ls h.1)
