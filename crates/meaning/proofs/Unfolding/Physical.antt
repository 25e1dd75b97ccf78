-- Physical lines: `phys_lf`, `phys_ended` and `phys_tail`, the first line of a file; `lined`, a file is its lines and their ends; `some_left`, a byte is a line or a tail.
-- Assumes nothing.
use Prim.Native.Nat.{ℕ}
use mathlib.Core.Path.{◌≡◌, refl, sym, ap, ◌∙◌, subst}
use mathlib.Core.Bool.{Bool, true, false, not, false≢true}
use mathlib.Core.List.{List, [], ◌∷◌, ◌++◌, append_assoc}
use lib.Dec.{eqb}
use borrow.Author.Tests.{eq-eqb, eqb-true, not-true}
use Rattle.meaning.specs.Bytes.{choose, every, ends, without_last}
use Rattle.meaning.specs.Unfold.{without_last_if, Physical, tail, line, add, split_at_lf, without_cr, physical, none}
use Rattle.meaning.specs.Faults.{WithoutLF, Ended, lf, crlf}
use Rattle.meaning.proofs.Tests.Refuse.{both, choose_keeps}
use Rattle.meaning.proofs.Values.Digits.{every_append, every_parts}

-- ## The last byte

pub ends_snoc : (m : ℕ) (p : List ℕ) → ends m (p ++ m ∷ []) ≡ true
unfolding ends
ends_snoc m [] = eq-eqb m m refl
ends_snoc m (b ∷ []) = eq-eqb m m refl
ends_snoc m (b ∷ (c ∷ p)) = ends_snoc m (c ∷ p)

pub init_snoc : (m : ℕ) (p : List ℕ) → without_last (p ++ m ∷ []) ≡ p
unfolding without_last
init_snoc m [] = refl
init_snoc m (b ∷ []) = refl
init_snoc m (b ∷ (c ∷ p)) = ap (λ (l : List ℕ). b ∷ l) (init_snoc m (c ∷ p))

pub init_split : (m : ℕ) (q : List ℕ) → ends m q ≡ true → q ≡ without_last q ++ m ∷ []
unfolding ends without_last
init_split m [] h = absurd (false≢true h)
init_split m (b ∷ []) h = ap (λ (x : ℕ). x ∷ []) (eqb-true b m h)
init_split m (b ∷ (c ∷ q)) h = ap (λ (l : List ℕ). b ∷ l) (init_split m (c ∷ q) h)

-- ## The first line

-- bytes without LF are the line that the LF behind them ends, or the tail
split_lf : (x f : List ℕ) → WithoutLF x → split_at_lf (x ++ (0x0a ∷ f)) ≡ line x (split_at_lf f)
unfolding split_at_lf choose add every
split_lf [] f w = refl
split_lf (b ∷ x) f w = let r = both (not (eqb b 0x0a)) _ w in rw (not-true (eqb b 0x0a) r.0, split_lf x f r.1)

split_tail : (x : List ℕ) → WithoutLF x → split_at_lf x ≡ tail x
unfolding split_at_lf choose add every
split_tail [] w = refl
split_tail (b ∷ x) w = let r = both (not (eqb b 0x0a)) _ w in rw (not-true (eqb b 0x0a) r.0, split_tail x r.1)

pub phys_lf : (x f : List ℕ) → WithoutLF x → physical (x ++ (0x0a ∷ f)) ≡ line (without_last_if (ends 0x0d x) x) (physical f)
unfolding physical without_cr
phys_lf x f w = ap without_cr (split_lf x f w)

pub phys_tail : (x : List ℕ) → WithoutLF x → physical x ≡ tail x
unfolding physical without_cr
phys_tail x w = ap without_cr (split_tail x w)

pub phys_nil : physical [] ≡ tail []
unfolding every
phys_nil = phys_tail [] refl

pub phys_ended : {x b : List ℕ} → Ended x b → (f : List ℕ) → physical (b ++ f) ≡ line x (physical f)
unfolding without_last_if every
phys_ended (lf {x = x} w n) f = rw (append_assoc x (0x0a ∷ []) f) (phys_lf x f w ∙ rw n)
phys_ended (crlf {x = x} w) f =
    let same : (x ++ (0x0d ∷ 0x0a ∷ [])) ++ f ≡ (x ++ 0x0d ∷ []) ++ (0x0a ∷ f) = append_assoc x (0x0d ∷ 0x0a ∷ []) f ∙ sym (append_assoc x (0x0d ∷ []) (0x0a ∷ f)) in
    rw same (phys_lf (x ++ 0x0d ∷ []) f (every_append _ x (0x0d ∷ []) w refl) ∙ rw (ends_snoc 0x0d x, init_snoc 0x0d x))

-- ## Back: a file's bytes from its lines

-- the lines as LF alone ends them
data Split : Physical → List ℕ → Type 0 where
  unended : {l : List ℕ} → WithoutLF l → Split (tail l) l
  ended : {x f : List ℕ} {p : Physical} → WithoutLF x → Split p f → Split (line x p) (x ++ (0x0a ∷ f))

split_add : (b : ℕ) {p : Physical} {f : List ℕ} → eqb b 0x0a ≡ false → Split p f → Split (add b p) (b ∷ f)
unfolding add every
split_add b h (unended {l = l} w) = unended {l = b ∷ l} (rw (h, w))
split_add b h (ended {x = x} w s) = ended {x = b ∷ x} (rw (h, w)) s

split : (f : List ℕ) → Split (split_at_lf f) f
unfolding split_at_lf choose every
split [] = unended refl
split (b ∷ f) = go (eqb b 0x0a) refl (split f)
  where
    go : (t : Bool) → eqb b 0x0a ≡ t → Split (split_at_lf f) f → Split (choose t (line [] (split_at_lf f)) (add b (split_at_lf f))) (b ∷ f)
    go true e s = rw (eqb-true b 0x0a e) (ended {x = []} refl s)
    go false e s = split_add b e s

-- the physical lines, each without an LF, and their ends
pub data Lined : Physical → List ℕ → Type 0 where
  l_tail : {l : List ℕ} → WithoutLF l → Lined (tail l) l
  l_line : {x b f : List ℕ} {p : Physical} → Ended x b → Lined p f → Lined (line x p) (b ++ f)

-- a CR right before an LF is of the end
l_lf : (x : List ℕ) {f : List ℕ} {p : Physical} (t : Bool) → ends 0x0d x ≡ t → WithoutLF x → Lined p f → Lined (line (without_last_if t x) p) (x ++ (0x0a ∷ f))
unfolding without_last_if
l_lf x {f} true e w r =
    let same = init_split 0x0d x e in
    let bytes : x ++ (0x0a ∷ f) ≡ (without_last x ++ (0x0d ∷ 0x0a ∷ [])) ++ f = ap (λ (y : List ℕ). y ++ (0x0a ∷ f)) same ∙ append_assoc (without_last x) (0x0d ∷ []) (0x0a ∷ f) ∙ sym (append_assoc (without_last x) (0x0d ∷ 0x0a ∷ []) f) in
    rw bytes (l_line (crlf (every_parts _ (without_last x) (0x0d ∷ []) (subst WithoutLF same w)).0) r)
l_lf x {f} false e w r = rw (← append_assoc x (0x0a ∷ []) f) (l_line (lf w e) r)

without_cr_lem : {p : Physical} {f : List ℕ} → Split p f → Lined (without_cr p) f
unfolding without_cr
without_cr_lem (unended w) = l_tail w
without_cr_lem (ended {x = x} w s) = l_lf x (ends 0x0d x) refl w (without_cr_lem s)

pub lined : (f : List ℕ) → Lined (physical f) f
unfolding physical
lined f = without_cr_lem (split f)

-- ## A byte left is a line or a tail left

none_add : (b : ℕ) (p : Physical) → none (without_cr (add b p)) ≡ false
unfolding none without_cr add
none_add b (tail l) = refl
none_add b (line l p) = refl

pub some_left : (b : ℕ) (f : List ℕ) → none (physical (b ∷ f)) ≡ false
unfolding none physical split_at_lf without_cr
some_left b f = choose_keeps (λ p. none (without_cr p) ≡ false) (eqb b 0x0a) _ _ (λ _. refl) (λ _. none_add b (split_at_lf f))
