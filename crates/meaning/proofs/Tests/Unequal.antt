-- Outcomes that are never equal: a refusal is not what goes on. Assumes nothing.
use Prim.Native.Nat.{ℕ}
use native.Mathlib.Omega.{arith}
use mathlib.Core.Path.{◌≡◌}
use mathlib.Core.List.{List}
use lib.IntN.{ℤ}
use Rattle.meaning.specs.Answer.{accepted, refusal}
use Rattle.meaning.specs.Model.{found, missing}
use Rattle.meaning.specs.Value.{pair, wrong}
use Rattle.meaning.specs.Row.{cells, refused}
use Rattle.meaning.specs.Reading.{Due, Content, State}
use Rattle.meaning.specs.Lines.{go, no, ran, stopped}
use Rattle.meaning.specs.Table.{resolved, unresolved}

pub no_go : (number field : ℕ) (due : Due) (c : Content) → no number field ≡ go due c → ⊥
no_go number field due c h = let z : ◌≡◌ {A = ℕ} 0 1 = cc in omega arith

pub no_ran : (number line field : ℕ) (s : State) → stopped number line field ≡ ran s → ⊥
no_ran number line field s h = let z : ◌≡◌ {A = ℕ} 0 1 = cc in omega arith

pub no_cells : (n f : ℕ) (xs : List ℤ) → refused n f ≡ cells xs → ⊥
no_cells n f xs h = let z : ◌≡◌ {A = ℕ} 0 1 = cc in omega arith

pub no_pair : (n : ℕ) (a b : ℤ) → wrong n ≡ pair a b → ⊥
no_pair n a b h = let z : ◌≡◌ {A = ℕ} 0 1 = cc in omega arith

pub no_resolved : (object field : ℕ) (out : List ℤ) → unresolved object field ≡ resolved out → ⊥
no_resolved object field out h = let z : ◌≡◌ {A = ℕ} 0 1 = cc in omega arith

pub no_found : (n : ℕ) → missing ≡ found n → ⊥
no_found n h = let z : ◌≡◌ {A = ℕ} 0 1 = cc in omega arith

pub same_found : (n k : ℕ) → found n ≡ found k → n ≡ k
same_found n k h = cc

pub not_refused : (a b c number first second : ℕ) → accepted a b c ≡ refusal number first second → ⊥
not_refused a b c number first second h = let z : ◌≡◌ {A = ℕ} 0 1 = cc in omega arith

pub not_accepted : (number first second a b c : ℕ) → refusal number first second ≡ accepted a b c → ⊥
not_accepted number first second a b c h = let z : ◌≡◌ {A = ℕ} 0 1 = cc in omega arith
