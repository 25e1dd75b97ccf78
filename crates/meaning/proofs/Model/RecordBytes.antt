-- Numbers and records written as bytes are the numbers and records read. Assumes nothing.
use Prim.Native.Nat.{ℕ, ◌+◌, ◌*◌, ◌-◌, ◌/◌, ◌%◌, ◌^◌, ◌≤◌, ◌<◌}
use native.Mathlib.Omega.{arith}
use native.Mathlib.Nat.{div-div-eq-div-mul}
use mathlib.Core.Path.{◌≡◌, refl, ap, ◌∙◌}
use mathlib.Core.List.{List, ◌++◌}
use lib.IntN.{ℤ, pos, negsuc, nat_abs}
use lib.ListN.{length, drop, length-append}
use lib.Seq.{take-append_seam, drop_at}
use borrow.Author.Tests.{lt-ltb, le-ltb}
use Rattle.meaning.specs.Bytes.{choose, u16_at, u64_at, i64_at}
use Rattle.meaning.specs.Model.{entry, records_from}
use Rattle.meaning.specs.ModelBytes.{u16_bytes, bits_of, u64_bytes, record_bytes}
use Rattle.meaning.proofs.Model.Records.{first_entry}

-- ## Numbers

pub u16_read : (n : ℕ) (rest : List ℕ) → u16_at (u16_bytes n ++ rest) 0 ≡ n
unfolding u16_bytes
u16_read n rest = omega arith

-- the digit of the place q, and those above it
digit_split : (n q r : ℕ) → q * 256 ≡ r → n / q ≡ n / q % 256 + 256 * (n / r)
digit_split n q r e =
    let d : n / q / 256 ≡ n / r = div-div-eq-div-mul n q 256 ∙ ap (λ (x : ℕ). n / x) e in
    omega arith

-- eight digits to the base 256 are their number
digits : (n a b c d e f g s t u v w x y : ℕ) → n ≡ s + 256 * a → a ≡ t + 256 * b → b ≡ u + 256 * c → c ≡ v + 256 * d → d ≡ w + 256 * e → e ≡ x + 256 * f → f ≡ y + 256 * g
    → s + 256 * t + 65536 * (u + 256 * v) + 4294967296 * (w + 256 * x + 65536 * (y + 256 * g)) ≡ n
digits n a b c d e f g s t u v w x y h₀ h₁ h₂ h₃ h₄ h₅ h₆ = omega arith

pub u64_read : (n : ℕ) (rest : List ℕ) → u64_at (u64_bytes n ++ rest) 0 ≡ n
unfolding u64_bytes
u64_read n rest =
    digits n (n / 256) (n / 256 ^ 2) (n / 256 ^ 3) (n / 256 ^ 4) (n / 256 ^ 5) (n / 256 ^ 6) (n / 256 ^ 7) _ _ _ _ _ _ _ (omega arith)
    (digit_split n 256 (256 ^ 2) refl) (digit_split n (256 ^ 2) (256 ^ 3) refl) (digit_split n (256 ^ 3) (256 ^ 4) refl)
    (digit_split n (256 ^ 4) (256 ^ 5) refl) (digit_split n (256 ^ 5) (256 ^ 6) refl) (digit_split n (256 ^ 6) (256 ^ 7) refl)

pub i64_read : (v : ℤ) (rest : List ℕ) → nat_abs v < 10 ^ 18 → i64_at (u64_bytes (bits_of v) ++ rest) 0 ≡ v
unfolding bits_of choose
i64_read (pos n) rest h = let e : u64_at (u64_bytes n ++ rest) 0 ≡ n = u64_read n rest in rw (e, lt-ltb n (2 ^ 63) (omega arith))
i64_read (negsuc n) rest h =
    let e : u64_at (u64_bytes (2 ^ 64 - 1 - n) ++ rest) 0 ≡ 2 ^ 64 - 1 - n = u64_read (2 ^ 64 - 1 - n) rest in
    let f : 2 ^ 64 - 1 - (2 ^ 64 - 1 - n) ≡ n = omega arith in
    rw (e, le-ltb (2 ^ 64 - 1 - n) (2 ^ 63) (omega arith), f)

-- ## Records

pub record_length : (kind : ℕ) (p : List ℕ) → length (record_bytes kind p) ≡ 4 + length p
unfolding record_bytes u16_bytes
record_length kind p = omega arith

-- a record that is written is the record that is read, and the rest is read behind it
pub record_first : (at kind : ℕ) (p rest : List ℕ) → records_from 0 at (record_bytes kind p ++ rest) ≡ entry at kind p (records_from 0 (at + 4 + length p) rest)
unfolding record_bytes u16_bytes
record_first at kind p rest =
    let size : u16_at (record_bytes kind p ++ rest) 0 ≡ length p = omega arith in
    let kinds : u16_at (record_bytes kind p ++ rest) 2 ≡ kind = omega arith in
    let room : u16_at (record_bytes kind p ++ rest) 0 + 4 ≤ length (record_bytes kind p ++ rest) = omega (arith, length-append p rest) in
    let behind : drop (4 + length p) (record_bytes kind p ++ rest) ≡ rest = drop_at (record_bytes kind p) rest (4 + length p) (record_length kind p) in
    first_entry at (record_bytes kind p ++ rest) room ∙ rw (size, kinds, behind, take-append_seam p rest)

-- the same where sizes and kinds are 16 bits
pub record_read : (at kind : ℕ) (p rest : List ℕ) → length p < 65536 → kind < 65536 → records_from 0 at (record_bytes kind p ++ rest) ≡ entry at kind p (records_from 0 (at + 4 + length p) rest)
record_read at kind p rest l k = record_first at kind p rest
