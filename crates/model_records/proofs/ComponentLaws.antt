-- The components that a loop reads into a small array are those of the payload, and the list of them. Assumes nothing.
use Prim.Native.Nat.{ℕ, zero, suc, ◌+◌, ◌*◌, ◌≤◌, ◌<◌}
use native.Mathlib.Nat.{suc-add}
use native.Mathlib.Omega.{arith}
use mathlib.Core.Path.{◌≡◌, refl, ◌∙◌}
use mathlib.Core.List.{List, [], ◌∷◌}
use lib.IntN.{ℤ, pos}
use lib.ListN.{length, take, drop, set, length-set, get_or}
use lib.Seq.{drop-drop}
use mir.Syntax.{w64}
use mir.Val.{SFits, to_z, of_z}
use mir.ValLaws.{to_z-of_z}
use Rattle.meaning.specs.Model as meaning
use Rattle.meaning.specs.Bytes.{i64_at}
use Rattle.model_records.specs.Components.{component_of, list_of}
use Rattle.model_records.specs.declared.attributes.Component.{Component}
use Rattle.model_records.specs.Components.{declared_of}

abbrev none : Component
none = record { decimals = 0; least = pos 0; greatest = pos 0 }

-- the first n of three, the others zero
unfoldable pub items_of : List ℕ → ℕ → List Component
items_of p zero = none ∷ none ∷ none ∷ []
items_of p (suc n) = set (items_of p n) n (declared_of (meaning.component_of (drop (17 * n) p)))

pub items : (p : List ℕ) (n : ℕ) → n ≤ 3 → list_of (take n (items_of p n)) ≡ meaning.components_of n p
unfolding items_of list_of meaning.components_of
items p zero h = refl
items p (suc zero) h = refl
items p (suc (suc zero)) h = refl
items p (suc (suc (suc zero))) h = rw (drop-drop 17 17 p)
items p (suc (suc (suc (suc n)))) h = absurd (omega arith)

pub items_length : (p : List ℕ) (n : ℕ) → length (items_of p n) ≡ 3
unfolding items_of
items_length p zero = refl
items_length p (suc n) = length-set (items_of p n) n _ ∙ items_length p n

-- a component from its byte and its two numbers, each held in 64 bits
pub component_read : (p : List ℕ) (least greatest : ℤ) → SFits w64 least → SFits w64 greatest → least ≡ i64_at p 1 → greatest ≡ i64_at p 9
    → ◌≡◌ {A = Component} (record { decimals = get_or p 0 0; least = to_z w64 (of_z w64 least); greatest = to_z w64 (of_z w64 greatest) }) (declared_of (meaning.component_of p))
unfolding meaning.component_of
component_read p least greatest f g a b = rw (to_z-of_z w64 least f, to_z-of_z w64 greatest g, a, b)

-- ## The list of components, from component i on

pub listed_next : (l : List Component) (i n : ℕ) (d : Component) → i < n → n ≤ length l
    → drop i (list_of (take n l)) ≡ component_of (get_or l i d) ∷ drop (i + 1) (list_of (take n l))
unfolding list_of
listed_next l i zero d h g = absurd (omega arith)
listed_next [] i (suc n) d h g = absurd (omega arith)
listed_next (c ∷ l) zero (suc n) d h g = refl
listed_next (c ∷ l) (suc i) (suc n) d h g = listed_next l i n d (omega arith) (omega arith) ∙ rw (suc-add i 1)

pub listed_end : (l : List Component) (i n : ℕ) → n ≤ i → drop i (list_of (take n l)) ≡ []
unfolding list_of
listed_end l zero zero h = refl
listed_end l (suc i) zero h = refl
listed_end l zero (suc n) h = absurd (omega arith)
listed_end [] (suc i) (suc n) h = refl
listed_end (c ∷ l) (suc i) (suc n) h = listed_end l i n (omega arith)
