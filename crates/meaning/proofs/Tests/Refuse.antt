-- Tests that refuse: what is known where they did not. Assumes nothing.
use Prim.Native.Nat.{ℕ, zero, suc, ◌≤◌}
use mathlib.Core.Path.{◌≡◌, refl, sym}
use mathlib.Core.Bool.{Bool, true, false, ◌&&◌, ◌||◌, false≢true, true≢false}
use mathlib.Core.List.{List, [], ◌∷◌}
use mathlib.Core.Logic.{◌↔◌}
use lib.Dec.{ltb}
use lib.ListN.{get_or}
use borrow.Author.Tests.{ltb-false, le-ltb}
use Rattle.meaning.specs.Bytes.{choose, refuse, all_of}

-- a test whose refusal is not what came out did not refuse
pub passed : {A : Type 0} (t : Bool) (refusal rest x : A) → (refusal ≡ x → ⊥) → refuse t refusal rest ≡ x → (t ≡ false) × (rest ≡ x)
unfolding refuse
passed true refusal rest x other h = absurd (other h)
passed false refusal rest x other h = (refl, h)

-- what came out is the refusal of a test that holds, or what follows one that does not
pub refused_or : {A C : Type 0} (t : Bool) (refusal rest x : A) → (t ≡ true → refusal ≡ x → C) → (t ≡ false → rest ≡ x → C) → refuse t refusal rest ≡ x → C
unfolding refuse
refused_or true refusal rest x h k e = h refl e
refused_or false refusal rest x h k e = k refl e

-- a property of what refuses and of what follows where the test does not hold is one of both together
pub refuse_keeps : {A : Type 0} (P : A → Type 0) (t : Bool) (refusal rest : A) → P refusal → (t ≡ false → P rest) → P (refuse t refusal rest)
unfolding refuse
refuse_keeps P true refusal rest h k = h
refuse_keeps P false refusal rest h k = k refl

-- the same where the refusal needs that the test holds
pub refuse_by : {A : Type 0} (P : A → Type 0) (t : Bool) (refusal rest : A) → (t ≡ true → P refusal) → (t ≡ false → P rest) → P (refuse t refusal rest)
unfolding refuse
refuse_by P true refusal rest h k = h refl
refuse_by P false refusal rest h k = k refl

pub choose_keeps : {A : Type 0} (P : A → Type 0) (t : Bool) (a b : A) → (t ≡ true → P a) → (t ≡ false → P b) → P (choose t a b)
unfolding choose
choose_keeps P true a b h k = h refl
choose_keeps P false a b h k = k refl

-- both tests hold, neither does
pub both : (a b : Bool) → (a && b) ≡ true → (a ≡ true) × (b ≡ true)
both true b h = (refl, h)
both false b h = absurd (false≢true h)

pub neither : (a b : Bool) → (a || b) ≡ false → (a ≡ false) × (b ≡ false)
neither true b h = absurd (false≢true (sym h))
neither false b h = (refl, h)

-- neither is less
pub neither_less : (a b c d : ℕ) → ((ltb a b || ltb c d) ≡ false) ↔ ((b ≤ a) × (d ≤ c))
neither_less a b c d = (λ e. let n = neither (ltb a b) (ltb c d) e in (ltb-false a b n.0, ltb-false c d n.1), λ h. rw (le-ltb a b h.0, le-ltb c d h.1))

-- a test that holds exactly when something is not so
pub holds_unless : (x : Bool) {P : Type 0} → (x ≡ false) ↔ P → (x ≡ true) ↔ (P → ⊥)
holds_unless true s = (λ _ p. true≢false (s.1 p), λ _. refl)
holds_unless false s = (λ e. absurd (false≢true e), λ n. absurd (n (s.0 refl)))

-- a test that cannot hold, and one that cannot fail
pub no_true : (t : Bool) → (t ≡ true → ⊥) → t ≡ false
no_true true h = absurd (h refl)
no_true false h = refl

pub no_false : (t : Bool) → (t ≡ false → ⊥) → t ≡ true
no_false true h = refl
no_false false h = absurd (h refl)

-- one of the tests that all hold
pub holds : (ts : List Bool) (n : ℕ) → all_of ts ≡ true → get_or ts n true ≡ true
unfolding all_of
holds [] n h = refl
holds (t ∷ ts) zero h = (both t _ h).0
holds (t ∷ ts) (suc n) h = holds ts n (both t _ h).1

-- two tests of which each holds where the other does
pub same_test : (a b : Bool) → (a ≡ true → b ≡ true) → (b ≡ true → a ≡ true) → a ≡ b
same_test true b h k = sym (h refl)
same_test false true h k = k refl
same_test false false h k = refl

pub or_right : (x y : Bool) → y ≡ true → (x || y) ≡ true
or_right true y e = refl
or_right false y e = e
