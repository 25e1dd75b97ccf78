-- Laws of the last number below a bound that passes a test. Assumes nothing.
use Prim.Native.Nat.{ℕ, zero, suc, ◌≤◌, ◌<◌}
use mathlib.Core.Path.{◌≡◌, refl, sym, ap, ◌∙◌}
use mathlib.Core.Bool.{Bool, true, false}
use mathlib.Core.Logic.{⊎_elim}
use native.Mathlib.Omega.{arith}
use native.Mathlib.Nat.{eq-or-lt_of_le, le_of_suc-le-suc}
use Rattle.std.specs.Prelude.{Option, None, Some}
use Rattle.meaning.specs.Bytes.{choose}
use Rattle.table_index.specs.Objects.{last_of}

-- how many numbers there are up to this one, or none
abbrev pub upto : Option ℕ → ℕ
upto None = 0
upto (Some o) = suc o

pub upto_none : (x : Option ℕ) → upto x ≡ 0 → x ≡ None
upto_none None e = refl
upto_none (Some o) e = absurd (omega arith)

pub upto_some : (x : Option ℕ) (o : ℕ) → upto x ≡ suc o → x ≡ Some o
upto_some None o e = absurd (omega arith)
upto_some (Some j) o e = let k : j ≡ o = omega arith in ap (λ (n : ℕ). Some n) k

pub last_hit : (p : ℕ → Bool) (o : ℕ) → p o ≡ true → last_of p (suc o) ≡ Some o
unfolding last_of choose
last_hit p o h = rw h

pub last_miss : (p : ℕ → Bool) (o : ℕ) → p o ≡ false → last_of p (suc o) ≡ last_of p o
unfolding last_of choose
last_miss p o h = rw h

pub last_le : (p : ℕ → Bool) (n : ℕ) → upto (last_of p n) ≤ n
unfolding last_of
last_le p zero = omega arith
last_le p (suc n) = go (p n) refl (last_le p n)
  where
    go : (x : Bool) → p n ≡ x → upto (last_of p n) ≤ n → upto (last_of p (suc n)) ≤ suc n
    go true h r = rw (last_hit p n h) (omega arith)
    go false h r = rw (last_miss p n h) (omega arith)

-- what it finds passes
pub last_passes : (p : ℕ → Bool) (n o : ℕ) → last_of p n ≡ Some o → p o ≡ true
unfolding last_of
last_passes p zero o e = cc
last_passes p (suc n) o e = go (p n) refl (last_passes p n o)
  where
    go : (x : Bool) → p n ≡ x → (last_of p n ≡ Some o → p o ≡ true) → p o ≡ true
    go true h r = let q : Some n ≡ Some o = sym (last_hit p n h) ∙ e in let k : n ≡ o = cc in ap p (sym k) ∙ h
    go false h r = r (sym (last_miss p n h) ∙ e)

-- what passes stands not behind what is found
pub last_after : (p : ℕ → Bool) (n o : ℕ) → o < n → p o ≡ true → o < upto (last_of p n)
last_after p zero o l h = absurd (omega arith)
last_after p (suc n) o l h = go (p n) refl (last_after p n o)
  where
    go : (x : Bool) → p n ≡ x → (o < n → p o ≡ true → o < upto (last_of p n)) → o < upto (last_of p (suc n))
    go true e r = rw (last_hit p n e) (omega arith)
    go false e r = ⊎_elim (λ q. let z : ◌≡◌ {A = Bool} true false = sym h ∙ ap p q ∙ e in absurd (let w : ◌≡◌ {A = ℕ} 0 1 = cc in omega arith)) (λ g. rw (last_miss p n e) (r g h)) (eq-or-lt_of_le (le_of_suc-le-suc l))

-- a test that another one implies is decided along the other's chain
pub last_skip : (p q : ℕ → Bool) (n : ℕ) → ((o : ℕ) → o < n → p o ≡ true → q o ≡ true) → last_of p (upto (last_of q n)) ≡ last_of p n
unfolding last_of
last_skip p q zero h = refl
last_skip p q (suc n) h = go (q n) refl (p n) refl (last_skip p q n (λ o l. h o (omega arith)))
  where
    go : (x : Bool) → q n ≡ x → (y : Bool) → p n ≡ y → last_of p (upto (last_of q n)) ≡ last_of p n → last_of p (upto (last_of q (suc n))) ≡ last_of p (suc n)
    go true a y b r = ap (λ (x : Option ℕ). last_of p (upto x)) (last_hit q n a)
    go false a true b r = let z : ◌≡◌ {A = Bool} true false = sym (h n (omega arith) b) ∙ a in cc
    go false a false b r = ap (λ (x : Option ℕ). last_of p (upto x)) (last_miss q n a) ∙ r ∙ sym (last_miss p n b)

-- tests that agree below the bound
pub last_same : (p q : ℕ → Bool) (n : ℕ) → ((o : ℕ) → o < n → p o ≡ q o) → last_of p n ≡ last_of q n
unfolding last_of
last_same p q zero h = refl
last_same p q (suc n) h = rw (h n (omega arith), last_same p q n (λ o l. h o (omega arith)))

-- from the bound down
module _ (p : ℕ → Bool) (n at : ℕ) (rest : last_of p at ≡ last_of p n) where
  pub scan_hit : (o : ℕ) → at ≡ suc o → p o ≡ true → Some o ≡ last_of p n
  scan_hit o e h = sym (last_hit p o h) ∙ ap (last_of p) (sym e) ∙ rest

  pub scan_miss : (o : ℕ) → at ≡ suc o → p o ≡ false → last_of p o ≡ last_of p n
  scan_miss o e h = sym (last_miss p o h) ∙ ap (last_of p) (sym e) ∙ rest

  pub scan_end : at ≡ 0 → None ≡ last_of p n
  unfolding last_of
  scan_end e = ap (last_of p) (sym e) ∙ rest

-- where none is found, none passes
pub last_none : (p : ℕ → Bool) (n : ℕ) → last_of p n ≡ None → (o : ℕ) → o < n → p o ≡ false
unfolding last_of
last_none p zero e o l = absurd (omega arith)
last_none p (suc n) e o l = go (p n) refl (last_none p n)
  where
    go : (x : Bool) → p n ≡ x → (last_of p n ≡ None → (k : ℕ) → k < n → p k ≡ false) → p o ≡ false
    go true h r = let z : Some n ≡ None = sym (last_hit p n h) ∙ e in cc
    go false h r = ⊎_elim (λ q. ap p q ∙ h) (λ g. r (sym (last_miss p n h) ∙ e) o g) (eq-or-lt_of_le (le_of_suc-le-suc l))
