-- The payloads of records that keep the rules, in the bytes of what they say. Assumes nothing.
use Prim.Native.Nat.{ℕ, zero, suc, ◌+◌, ◌*◌, ◌/◌, ◌%◌, ◌^◌, ◌≤◌, ◌<◌}
use native.Mathlib.Omega.{arith}
use native.Mathlib.Nat.{div-div-eq-div-mul}
use mathlib.Core.Path.{◌≡◌, refl, sym, ap, ◌∙◌}
use mathlib.Core.Bool.{Bool, true, false, or-false}
use mathlib.Core.List.{List, [], ◌∷◌, ◌++◌, append_assoc}
use lib.Dec.{leb, ltb, eqb}
use lib.ListN.{length, drop, length-drop}
use lib.Seq.{drop-drop}
use borrow.Author.Tests.{leb-true, le-leb, eqb-true, eqb-false}
use Rattle.meaning.specs.Bytes.{choose, byte_at, u16_at, u64_at, twos, i64_at}
use Rattle.meaning.specs.Model.{AttributeType, flag_of, component_of, components_of, dimension_of, type_of, parameters_size, attribute_of}
use Rattle.meaning.specs.Check.{Seen, is_flag, is_dimension, is_type, keeps_transfer, keeps_table, keeps_attribute}
use Rattle.meaning.specs.ModelBytes.{bits_of, u64_bytes, is_u16, component_bytes, components_bytes, type_parameters, flag_byte}
use Rattle.meaning.specs.ModelClaims.{AreBytes}
use Rattle.meaning.proofs.Tests.Refuse.{choose_keeps, both, holds}
use Rattle.meaning.proofs.Lists.{drop_next}
use Rattle.meaning.proofs.Values.Digits.{every_drop}
use Rattle.meaning.proofs.Model.Standing.{no_letter}
use Rattle.meaning.proofs.Model.WholeRecords.{byte_below, two_bytes, u16_written}

-- ## 64 bits

-- the lowest of the bytes above a place, and those above it
byte_split : (n q d x y : ℕ) → q * 256 ≡ d → n / q ≡ x + 256 * y → x < 256 → (n / q % 256 ≡ x) × (n / d ≡ y)
byte_split n q d x y e f l =
    let u : n / q / 256 ≡ n / d = div-div-eq-div-mul n q 256 ∙ ap (λ (z : ℕ). n / z) e in
    (omega arith, omega arith)

-- a number of eight bytes, of which y₁ to y₆ are what is left above each
module _ (n x₀ x₁ x₂ x₃ x₄ x₅ x₆ x₇ y₁ y₂ y₃ y₄ y₅ y₆ : ℕ) where
  eight_bytes : n ≡ x₀ + 256 * y₁ → y₁ ≡ x₁ + 256 * y₂ → y₂ ≡ x₂ + 256 * y₃ → y₃ ≡ x₃ + 256 * y₄ → y₄ ≡ x₄ + 256 * y₅ → y₅ ≡ x₅ + 256 * y₆ → y₆ ≡ x₆ + 256 * x₇
      → x₀ < 256 → x₁ < 256 → x₂ < 256 → x₃ < 256 → x₄ < 256 → x₅ < 256 → x₆ < 256 → u64_bytes n ≡ x₀ ∷ x₁ ∷ x₂ ∷ x₃ ∷ x₄ ∷ x₅ ∷ x₆ ∷ x₇ ∷ []
  unfolding u64_bytes
  eight_bytes e₀ e₁ e₂ e₃ e₄ e₅ e₆ l₀ l₁ l₂ l₃ l₄ l₅ l₆ =
      let low : n % 256 ≡ x₀ = omega arith in
      let high : n / 256 ≡ y₁ = omega arith in
      let s₁ = byte_split n 256 (256 ^ 2) x₁ y₂ refl (high ∙ e₁) l₁ in
      let s₂ = byte_split n (256 ^ 2) (256 ^ 3) x₂ y₃ refl (s₁.1 ∙ e₂) l₂ in
      let s₃ = byte_split n (256 ^ 3) (256 ^ 4) x₃ y₄ refl (s₂.1 ∙ e₃) l₃ in
      let s₄ = byte_split n (256 ^ 4) (256 ^ 5) x₄ y₅ refl (s₃.1 ∙ e₄) l₄ in
      let s₅ = byte_split n (256 ^ 5) (256 ^ 6) x₅ y₆ refl (s₄.1 ∙ e₅) l₅ in
      let s₆ = byte_split n (256 ^ 6) (256 ^ 7) x₆ x₇ refl (s₅.1 ∙ e₆) l₆ in
      rw (low, s₁.0, s₂.0, s₃.0, s₄.0, s₅.0, s₆.0, s₆.1)

module _ (b : List ℕ) (at : ℕ) (h : AreBytes b) where
  -- the eight bytes of the number that they make
  u64_bytes_lem : u64_bytes (u64_at b at) ≡ byte_at b at ∷ byte_at b (at + 1) ∷ byte_at b (at + 2) ∷ byte_at b (at + 2 + 1) ∷ byte_at b (at + 4) ∷ byte_at b (at + 4 + 1) ∷ byte_at b (at + 4 + 2) ∷ byte_at b (at + 4 + 2 + 1) ∷ []
  u64_bytes_lem =
      let y₆ : ℕ = u16_at b (at + 4 + 2) in
      let y₅ : ℕ = byte_at b (at + 4 + 1) + 256 * y₆ in
      let y₄ : ℕ = byte_at b (at + 4) + 256 * y₅ in
      let y₃ : ℕ = byte_at b (at + 2 + 1) + 256 * y₄ in
      let y₂ : ℕ = byte_at b (at + 2) + 256 * y₃ in
      eight_bytes (u64_at b at) _ _ _ _ _ _ _ _ (byte_at b (at + 1) + 256 * y₂) y₂ y₃ y₄ y₅ y₆ (omega arith) refl refl refl refl refl refl
      (byte_below b _ h) (byte_below b _ h) (byte_below b _ h) (byte_below b _ h) (byte_below b _ h) (byte_below b _ h) (byte_below b _ h)

  pub u64_written : at + 8 ≤ length b → drop at b ≡ u64_bytes (u64_at b at) ++ drop (at + 8) b
  u64_written l =
      let e : at + 2 + 2 ≡ at + 4 = omega arith in
      let f : at + 4 + 2 + 2 ≡ at + 8 = omega arith in
      rw (u64_bytes_lem, two_bytes b at (omega arith), two_bytes b (at + 2) (omega arith), e, two_bytes b (at + 4) (omega arith), two_bytes b (at + 4 + 2) (omega arith), f)

  -- the bits of the signed number
  bits_written : bits_of (i64_at b at) ≡ u64_at b at
  unfolding bits_of choose
  bits_written = go (ltb (u64_at b at) (2 ^ 63)) refl
    where
      below : u64_at b at < 2 ^ 64
      below = omega (arith, byte_below b at h, byte_below b (at + 1) h, byte_below b (at + 2) h, byte_below b (at + 2 + 1) h, byte_below b (at + 4) h, byte_below b (at + 4 + 1) h, byte_below b (at + 4 + 2) h, byte_below b (at + 4 + 2 + 1) h)

      go : (x : Bool) → ltb (u64_at b at) (2 ^ 63) ≡ x → bits_of (twos (u64_at b at)) ≡ u64_at b at
      go true e = rw e
      go false e = rw e (omega (arith, below))

-- ## Components

component_written : (p : List ℕ) → AreBytes p → 17 ≤ length p → p ≡ component_bytes (component_of p) ++ drop 17 p
unfolding component_bytes component_of
component_written p h l =
    let e : drop 1 p ≡ u64_bytes (bits_of (i64_at p 1)) ++ drop 9 p = rw (bits_written p 1 h) (u64_written p 1 h (omega arith)) in
    let f : drop 9 p ≡ u64_bytes (bits_of (i64_at p 9)) ++ drop 17 p = rw (bits_written p 9 h) (u64_written p 9 h (omega arith)) in
    drop_next p 0 0 (omega arith) ∙ ap (λ (s : List ℕ). byte_at p 0 ∷ s) (e ∙ ap (λ (s : List ℕ). u64_bytes (bits_of (i64_at p 1)) ++ s) f ∙ sym (append_assoc (u64_bytes (bits_of (i64_at p 1))) _ _))

components_written : (n : ℕ) (p : List ℕ) → AreBytes p → 17 * n ≤ length p → p ≡ components_bytes (components_of n p) ++ drop (17 * n) p
unfolding components_bytes components_of
components_written zero p h l = refl
components_written (suc n) p h l =
    let e : 17 * suc n ≡ 17 + 17 * n = omega arith in
    let i : drop 17 p ≡ components_bytes (components_of n (drop 17 p)) ++ drop (17 * n) (drop 17 p) = components_written n (drop 17 p) (every_drop _ 17 p h) (rw (length-drop 17 p) (omega arith)) in
    component_written p h (omega arith) ∙ ap (λ (s : List ℕ). component_bytes (component_of p) ++ s) (i ∙ rw (drop-drop (17 * n) 17 p, e)) ∙ sym (append_assoc (component_bytes (component_of p)) _ _)

components_count : (n : ℕ) (p : List ℕ) → length (components_of n p) ≡ n
unfolding components_of
components_count zero p = refl
components_count (suc n) p = ap suc (components_count n (drop 17 p))

-- ## Types

-- a line's count of components is the byte that says it
dimension_is : (p : List ℕ) → is_dimension (byte_at p 1) ≡ true → dimension_of p ≡ byte_at p 1
unfolding is_dimension dimension_of choose
dimension_is p h = go (eqb (byte_at p 1) 3) refl
  where
    go : (x : Bool) → eqb (byte_at p 1) 3 ≡ x → choose (eqb (byte_at p 1) 3) 3 2 ≡ byte_at p 1
    go true e = rw e (sym (eqb-true (byte_at p 1) 3 e))
    go false e = rw e (sym (eqb-true (byte_at p 1) 2 (rw (e, or-false) at h)))

coordinate_written : (n : ℕ) (p : List ℕ) → AreBytes p → 17 * n ≤ length p → n ∷ p ≡ length (components_of n p) ∷ (components_bytes (components_of n p) ++ drop (17 * n) p)
coordinate_written n p h l = rw (components_count n p) (ap (λ (s : List ℕ). n ∷ s) (components_written n p h l))

line_written : (p : List ℕ) → AreBytes p → is_dimension (byte_at p 1) ≡ true → 2 + 17 * dimension_of p ≤ length p
    → p ≡ byte_at p 0 ∷ length (components_of (dimension_of p) (drop 2 p)) ∷ (components_bytes (components_of (dimension_of p) (drop 2 p)) ++ drop (2 + 17 * dimension_of p) p)
line_written p h d l =
    let c : dimension_of p ∷ drop 2 p ≡ length (components_of (dimension_of p) (drop 2 p)) ∷ (components_bytes (components_of (dimension_of p) (drop 2 p)) ++ drop (17 * dimension_of p) (drop 2 p)) =
    coordinate_written (dimension_of p) (drop 2 p) (every_drop _ 2 p h) (rw (length-drop 2 p) (omega arith)) in
    two_bytes p 0 (omega arith) ∙ ap (λ (s : List ℕ). byte_at p 0 ∷ s) (ap (λ (x : ℕ). x ∷ drop 2 p) (sym (dimension_is p d)) ∙ c ∙ rw (drop-drop (17 * dimension_of p) 2 p))

-- types are 1 to 8
type_number : (t : ℕ) (p : List ℕ) → is_type t p ≡ true → (1 ≤ t) × (t ≤ 8)
unfolding is_type
type_number t p k = (leb-true 1 t (holds _ 0 k), leb-true t 8 (holds _ 1 k))

line_dimension : (p : List ℕ) → is_type 8 p ≡ true → is_dimension (byte_at p 1) ≡ true
unfolding is_type
line_dimension p k = holds _ 2 k

-- a type's number and its parameters
type_written : (t : ℕ) (p : List ℕ) → AreBytes p → is_type t p ≡ true → parameters_size t p ≤ length p → t ∷ p ≡ type_parameters (type_of t p) ++ drop (parameters_size t p) p
unfolding parameters_size type_of type_parameters choose
type_written zero p h k l = let n = type_number 0 p k in absurd (omega arith)
type_written (suc zero) p h k l = ap (λ (s : List ℕ). 1 ∷ s) (u16_written p 0 h l)
type_written (suc (suc zero)) p h k l = coordinate_written 2 p h l
type_written (suc (suc (suc zero))) p h k l = coordinate_written 3 p h l
type_written (suc (suc (suc (suc zero)))) p h k l = ap (λ (s : List ℕ). 4 ∷ s) (component_written p h l)
type_written (suc (suc (suc (suc (suc zero))))) p h k l = ap (λ (s : List ℕ). 5 ∷ s) (u16_written p 0 h l)
type_written (suc (suc (suc (suc (suc (suc zero)))))) p h k l = refl
type_written (suc (suc (suc (suc (suc (suc (suc zero))))))) p h k l = ap (λ (s : List ℕ). 7 ∷ s) (u16_written p 0 h l)
type_written (suc (suc (suc (suc (suc (suc (suc (suc zero)))))))) p h k l = ap (λ (s : List ℕ). 8 ∷ s) (line_written p h (line_dimension p k) l)
type_written (suc (suc (suc (suc (suc (suc (suc (suc (suc n))))))))) p h k l = let few = type_number _ p k in absurd (omega arith)

-- a text's longest length and an enumeration's count of leaves are 16 bits
type_sized : (t : ℕ) (p : List ℕ) → AreBytes p → is_u16 (type_of t p) ≡ true
unfolding type_of is_u16
type_sized t p h =
    let two : leb (u16_at p 0) 65535 ≡ true = le-leb (u16_at p 0) 65535 (omega (arith, byte_below p 0 h, byte_below p 1 h)) in
    kept (eqb t 1) _ _ refl (kept (eqb t 2) _ _ refl (kept (eqb t 3) _ _ refl (kept (eqb t 4) _ _ refl (kept (eqb t 5) _ _ two (kept (eqb t 6) _ _ refl (kept (eqb t 7) _ _ two refl))))))
  where
    kept : (x : Bool) (a b : AttributeType) → is_u16 a ≡ true → is_u16 b ≡ true → is_u16 (choose x a b) ≡ true
    kept x a b f g = choose_keeps (λ (u : AttributeType). is_u16 u ≡ true) x a b (λ e. f) (λ e. g)

-- ## Payloads

-- the three bytes and the name of a transfer record
pub transfer_written : (p : List ℕ) → keeps_transfer p ≡ true → p ≡ byte_at p 0 ∷ byte_at p 1 ∷ byte_at p 2 ∷ drop 3 p
unfolding keeps_transfer
transfer_written p k =
    let l = no_letter 63 3 p (holds _ 6 k) in
    two_bytes p 0 (omega arith) ∙ ap (λ (s : List ℕ). byte_at p 0 ∷ byte_at p 1 ∷ s) (drop_next p 2 0 (omega arith))

flag_written : (p : List ℕ) → is_flag p ≡ true → p ≡ flag_byte (flag_of p) ∷ drop 1 p
unfolding is_flag flag_byte flag_of
flag_written p k = drop_next p 0 0 (leb-true 1 (length p) (both _ _ k).0) ∙ ap (λ (x : ℕ). x ∷ drop 1 p) (go (eqb (byte_at p 0) 1) refl)
  where
    few : byte_at p 0 ≤ 1
    few = leb-true (byte_at p 0) 1 (both (leb 1 (length p)) _ k).1

    go : (x : Bool) → eqb (byte_at p 0) 1 ≡ x → byte_at p 0 ≡ flag_byte (eqb (byte_at p 0) 1)
    go true e = rw e (eqb-true (byte_at p 0) 1 e)
    go false e = rw e (omega (arith, few, eqb-false (byte_at p 0) 1 e))

-- whether a table is optional, and its name
pub table_written : (p : List ℕ) (seen : Seen) → keeps_table p seen ≡ true → p ≡ flag_byte (flag_of p) ∷ drop 1 p
unfolding keeps_table
table_written p seen k = flag_written p (holds _ 0 k)

module _ (at : ℕ) (p : List ℕ) (h : AreBytes p) where
  -- whether an attribute is optional, its type and its name
  pub attribute_written : (seen : Seen) → keeps_attribute p seen ≡ true → p ≡ flag_byte (attribute_of at p).optional ∷ (type_parameters (attribute_of at p).type ++ (attribute_of at p).name)
  unfolding keeps_attribute attribute_of
  attribute_written seen k =
      let size : ℕ = parameters_size (byte_at p 1) (drop 2 p) in
      let l : 2 + size < length p = no_letter 24 (2 + size) p (holds _ 2 k) in
      let t : byte_at p 1 ∷ drop 2 p ≡ type_parameters (type_of (byte_at p 1) (drop 2 p)) ++ drop size (drop 2 p) =
      type_written (byte_at p 1) (drop 2 p) (every_drop _ 2 p h) (holds _ 1 k) (rw (length-drop 2 p) (omega arith)) in
      flag_written p (holds _ 0 k) ∙ ap (λ (s : List ℕ). flag_byte (flag_of p) ∷ s) (drop_next p 1 0 (omega arith) ∙ t ∙ rw (drop-drop size 2 p))

  pub attribute_sized : is_u16 (attribute_of at p).type ≡ true
  unfolding attribute_of
  attribute_sized = type_sized (byte_at p 1) (drop 2 p) (every_drop _ 2 p h)
