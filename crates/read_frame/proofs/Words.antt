-- Codes as numbers: a field is a code exactly where its number is that code's. Assumes nothing.
use Prim.Native.Nat.{ℕ, zero, suc, ◌+◌, ◌-◌, ◌*◌, ◌≤◌, ◌<◌}
use native.Mathlib.Omega.{arith}
use mathlib.Core.Path.{◌≡◌, refl, sym, ap, ◌∙◌}
use mathlib.Core.Bool.{Bool, true, false, not, ◌&&◌}
use mathlib.Core.List.{List, [], ◌∷◌}
use mathlib.Core.Logic.{◌⊎◌, inl, inr}
use lib.Dec.{eqb, ltb}
use lib.ListN.{length, get_or, get_or-eq_default}
use lib.Seq.{ext_get_or}
use borrow.Author.Tests.{eqb-true, eq-eqb, ne_eqb, ltb-true, not-true}
use Rattle.meaning.specs.Bytes.{choose, same, byte_at, u16_at, u32_at}
use Rattle.meaning.proofs.Unfolding.Cuts.{both}
use Rattle.meaning.proofs.Tests.Same.{same_is, same_refl}
use Rattle.base.proofs.Scan.{same_length}
use Rattle.std.proofs.Common.{Option, Some, None}
use Rattle.read_frame.specs.Codes.{codes, number_in, code_number, word_in, place_of, place_or_0}
use Rattle.read_frame.specs.declared.codes.Code.{Code}
use Rattle.read_frame.specs.declared.codes.Code.TheVariants.{Scnt, Slashes, Mtid, Motr, Modl, Topi, Tabl, Obje, Stpt, Lipt, Arcp, Elin, Etab, Etop, Emod, Ende}
use Rattle.meaning.proofs.Tests.Refuse.{same_test}

-- ## Four bytes as a word

-- the two halves of a number
bytes_of : (a b x y : ℕ) → a < 256 → x < 256 → x + 256 * y ≡ a + 256 * b → (a ≡ x) × (b ≡ y)
bytes_of a b x y p q e = let l : a ≡ x = omega arith in (l, omega arith)

halves_of : (a b x y : ℕ) → a < 65536 → x < 65536 → x + 65536 * y ≡ a + 65536 * b → (a ≡ x) × (b ≡ y)
halves_of a b x y p q e = let l : a ≡ x = omega arith in (l, omega arith)

-- s is four bytes
pub record Four (s : List ℕ) : Type 0 where
  pub size : length s ≡ 4
  pub bounded : (i : ℕ) → byte_at s i < 256

same_word : (c s : List ℕ) → Four c → Four s → same c s ≡ eqb (u32_at s 0) (u32_at c 0)
same_word c s f g =
    same_test (same c s) (eqb (u32_at s 0) (u32_at c 0))
    (λ h. eq-eqb _ _ (ap (λ (x : List ℕ). u32_at x 0) (sym (same_is c s h))))
    (λ h. words c s f g (eqb-true _ _ h))
  where
    at : (x y : List ℕ) (i : ℕ) → i < 4 → byte_at x 0 ≡ byte_at y 0 → byte_at x 1 ≡ byte_at y 1 → byte_at x 2 ≡ byte_at y 2 → byte_at x 3 ≡ byte_at y 3 → get_or x i 0 ≡ get_or y i 0
    at x y zero l a b d k = a
    at x y (suc zero) l a b d k = b
    at x y (suc (suc zero)) l a b d k = d
    at x y (suc (suc (suc zero))) l a b d k = k
    at x y (suc (suc (suc (suc i)))) l a b d k = absurd (omega arith)

    words : (x y : List ℕ) → Four x → Four y → u32_at y 0 ≡ u32_at x 0 → same x y ≡ true
    words x y p q e =
        let a = p.bounded 0 in let b = p.bounded 1 in let d = p.bounded 2 in let k = p.bounded 3 in
        let a2 = q.bounded 0 in let b2 = q.bounded 1 in let d2 = q.bounded 2 in let k2 = q.bounded 3 in
        let h = halves_of (u16_at x 0) (u16_at x 2) (u16_at y 0) (u16_at y 2) (omega arith) (omega arith) e in
        let l = bytes_of (byte_at x 0) (byte_at x 1) (byte_at y 0) (byte_at y 1) a a2 (sym h.0) in
        let g = bytes_of (byte_at x 2) (byte_at x 3) (byte_at y 2) (byte_at y 3) d d2 (sym h.1) in
        let w : x ≡ y = ext_get_or 0 x y (p.size ∙ sym q.size) (λ i q2. at x y i (rw p.size at q2) l.0 l.1 g.0 g.1) in
        rw w (same_refl y)

-- ## Codes

-- are these all codes of four bytes?
unfoldable codes_only : List (List ℕ) → Bool
codes_only [] = true
codes_only (c ∷ cs) = (eqb (length c) 4 && (ltb (byte_at c 0) 256 && (ltb (byte_at c 1) 256 && (ltb (byte_at c 2) 256 && ltb (byte_at c 3) 256)))) && codes_only cs

-- no two are the same
unfoldable differs : List ℕ → List (List ℕ) → Bool
differs c [] = true
differs c (d ∷ ds) = not (same d c) && differs c ds

unfoldable apart : List (List ℕ) → Bool
apart [] = true
apart (c ∷ cs) = differs c cs && apart cs

all_codes : codes_only codes ≡ true
unfolding codes_only
all_codes = refl

all_apart : apart codes ≡ true
unfolding apart differs same
all_apart = refl

four_code : (c : List ℕ) → (eqb (length c) 4 && (ltb (byte_at c 0) 256 && (ltb (byte_at c 1) 256 && (ltb (byte_at c 2) 256 && ltb (byte_at c 3) 256)))) ≡ true → Four c
four_code c h =
    let a = both (eqb (length c) 4) _ h in
    let b = both (ltb (byte_at c 0) 256) _ a.1 in
    let d = both (ltb (byte_at c 1) 256) _ b.1 in
    let e = both (ltb (byte_at c 2) 256) (ltb (byte_at c 3) 256) d.1 in
    record { size = eqb-true _ _ a.0; bounded = λ i. at i (eqb-true _ _ a.0) (ltb-true _ _ b.0) (ltb-true _ _ d.0) (ltb-true _ _ e.0) (ltb-true _ _ e.1) }
  where
    at : (i : ℕ) → length c ≡ 4 → byte_at c 0 < 256 → byte_at c 1 < 256 → byte_at c 2 < 256 → byte_at c 3 < 256 → byte_at c i < 256
    at zero l x y z w = x
    at (suc zero) l x y z w = y
    at (suc (suc zero)) l x y z w = z
    at (suc (suc (suc zero))) l x y z w = w
    at (suc (suc (suc (suc i)))) l x y z w = omega (arith, get_or-eq_default c 0 {n = suc (suc (suc (suc i)))} (omega arith))

-- the number of four bytes is that of their word
word_in_lem : (n : ℕ) (cs : List (List ℕ)) (s : List ℕ) → codes_only cs ≡ true → Four s → number_in n cs s ≡ word_in n cs (u32_at s 0)
unfolding codes_only number_in word_in
word_in_lem n [] s h f = refl
word_in_lem n (c ∷ cs) s h f =
    let r = both (eqb (length c) 4 && (ltb (byte_at c 0) 256 && (ltb (byte_at c 1) 256 && (ltb (byte_at c 2) 256 && ltb (byte_at c 3) 256)))) (codes_only cs) h in
    rw (same_word c s (four_code c r.0) f, word_in_lem (n + 1) cs s r.1 f)

pub word_code : (s : List ℕ) → Four s → code_number s ≡ word_in 1 codes (u32_at s 0)
unfolding code_number
word_code s f = word_in_lem 1 codes s all_codes f

-- no other size is a code's
none_in : (n : ℕ) (cs : List (List ℕ)) (s : List ℕ) → codes_only cs ≡ true → (length s ≡ 4 → ⊥) → number_in n cs s ≡ 0
unfolding codes_only number_in choose
none_in n [] s h f = refl
none_in n (c ∷ cs) s h f =
    let r = both (eqb (length c) 4 && (ltb (byte_at c 0) 256 && (ltb (byte_at c 1) 256 && (ltb (byte_at c 2) 256 && ltb (byte_at c 3) 256)))) (codes_only cs) h in
    let l = (four_code c r.0).size in
    rw (same_length c s (λ e. f (sym e ∙ l)), none_in (n + 1) cs s r.1 f)

pub no_code : (s : List ℕ) → (length s ≡ 4 → ⊥) → code_number s ≡ 0
unfolding code_number
no_code s f = none_in 1 codes s all_codes f

-- ## A code is its number

-- a number of these codes is 0, or n or more
number_range : (n : ℕ) (cs : List (List ℕ)) (s : List ℕ) → (number_in n cs s ≡ 0) ⊎ (n ≤ number_in n cs s)
unfolding number_in choose
number_range n [] s = inl refl
number_range n (c ∷ cs) s = go (same c s) (number_range (n + 1) cs s)
  where
    go : (x : Bool) → (number_in (n + 1) cs s ≡ 0) ⊎ (n + 1 ≤ number_in (n + 1) cs s) → (choose x n (number_in (n + 1) cs s) ≡ 0) ⊎ (n ≤ choose x n (number_in (n + 1) cs s))
    go true h = inr (omega arith)
    go false (inl e) = inl e
    go false (inr l) = inr (omega arith)

-- a code that differs from the others is none of them
differs_at : (c : List ℕ) (ds : List (List ℕ)) (i : ℕ) → differs c ds ≡ true → i < length ds → same (get_or ds i []) c ≡ false
unfolding differs
differs_at c [] i h l = absurd (omega arith)
differs_at c (d ∷ ds) zero h l = not-true (same d c) (both (not (same d c)) (differs c ds) h).0
differs_at c (d ∷ ds) (suc i) h l = differs_at c ds i (both (not (same d c)) (differs c ds) h).1 (omega arith)

code_at : (n : ℕ) (cs : List (List ℕ)) (s : List ℕ) (i : ℕ) → apart cs ≡ true → 1 ≤ n → i < length cs → same (get_or cs i []) s ≡ eqb (number_in n cs s) (n + i)
unfolding apart number_in choose
code_at n [] s i h p l = absurd (omega arith)
code_at n (c ∷ cs) s zero h p l = go (same c s) (number_range (n + 1) cs s)
  where
    go : (x : Bool) → (number_in (n + 1) cs s ≡ 0) ⊎ (n + 1 ≤ number_in (n + 1) cs s) → x ≡ eqb (choose x n (number_in (n + 1) cs s)) (n + 0)
    go true r = sym (eq-eqb n (n + 0) (omega arith))
    go false (inl e) = sym (ne_eqb _ (n + 0) (λ q. absurd (omega arith)))
    go false (inr e) = sym (ne_eqb _ (n + 0) (λ q. absurd (omega arith)))
code_at n (c ∷ cs) s (suc i) h p l = go (same c s) refl (code_at (n + 1) cs s i (both (differs c cs) (apart cs) h).1 (omega arith) (omega arith))
  where
    go : (x : Bool) → same c s ≡ x → same (get_or cs i []) s ≡ eqb (number_in (n + 1) cs s) (n + 1 + i) → same (get_or cs i []) s ≡ eqb (choose x n (number_in (n + 1) cs s)) (n + suc i)
    go true e ih =
        let d : same (get_or cs i []) c ≡ false = differs_at c cs i (both (differs c cs) (apart cs) h).0 (omega arith) in
        ap (same (get_or cs i [])) (sym (same_is c s e)) ∙ d ∙ sym (ne_eqb n (n + suc i) (λ q. absurd (omega arith)))
    go false e ih = let k : n + 1 + i ≡ n + suc i = omega arith in rw k at ih

-- a field is the code of number i + 1 exactly where its number is that
pub code_is : (i : ℕ) → i < 16 → (s : List ℕ) → same (get_or codes i []) s ≡ eqb (code_number s) (i + 1)
unfolding code_number
code_is i l s = let e : 1 + i ≡ i + 1 = omega arith in rw e at (code_at 1 codes s i all_apart (omega arith) l)

-- ## Codes by their places

pub place_within : (c : Code) → place_of c ≤ 16
place_within Scnt = omega arith
place_within Slashes = omega arith
place_within Mtid = omega arith
place_within Motr = omega arith
place_within Modl = omega arith
place_within Topi = omega arith
place_within Tabl = omega arith
place_within Obje = omega arith
place_within Stpt = omega arith
place_within Lipt = omega arith
place_within Arcp = omega arith
place_within Elin = omega arith
place_within Etab = omega arith
place_within Etop = omega arith
place_within Emod = omega arith
place_within Ende = omega arith

-- each code, by its place less 1
at_place : ℕ → Code
at_place i = get_or (Scnt ∷ Slashes ∷ Mtid ∷ Motr ∷ Modl ∷ Topi ∷ Tabl ∷ Obje ∷ Stpt ∷ Lipt ∷ Arcp ∷ Elin ∷ Etab ∷ Etop ∷ Emod ∷ Ende ∷ []) i Scnt

its_place : (c : Code) → at_place (place_of c - 1) ≡ c
unfolding at_place
its_place Scnt = refl
its_place Slashes = refl
its_place Mtid = refl
its_place Motr = refl
its_place Modl = refl
its_place Topi = refl
its_place Tabl = refl
its_place Obje = refl
its_place Stpt = refl
its_place Lipt = refl
its_place Arcp = refl
its_place Elin = refl
its_place Etab = refl
its_place Etop = refl
its_place Emod = refl
its_place Ende = refl

pub same_code : (h : Option Code) (c : Code) → place_or_0 h ≡ place_of c → h ≡ Some c
same_code None c e = absurd (least c e)
  where
    least : (c : Code) → 0 ≡ place_of c → ⊥
    least Scnt e = omega arith
    least Slashes e = omega arith
    least Mtid e = omega arith
    least Motr e = omega arith
    least Modl e = omega arith
    least Topi e = omega arith
    least Tabl e = omega arith
    least Obje e = omega arith
    least Stpt e = omega arith
    least Lipt e = omega arith
    least Arcp e = omega arith
    least Elin e = omega arith
    least Etab e = omega arith
    least Etop e = omega arith
    least Emod e = omega arith
    least Ende e = omega arith
same_code (Some d) c e = ap Some (sym (its_place d) ∙ ap (λ (n : ℕ). at_place (n - 1)) e ∙ its_place c)
