-- Bytes: tests on bytes, tests and parts of lists of bytes, little-endian numbers.
use Rattle.std.specs.Prelude.{ℕ, ◌+◌, ◌*◌, ◌-◌, ◌^◌, Bool, true, false, not, ◌&&◌, ◌||◌, List, [], ◌∷◌, leb, ltb, eqb}
use Rattle.std.specs.Prelude.{ℤ, pos, negsuc, get_or}
use Prim.Native.Char.{code}
use Prim.Native.String.{String}
use Prim.Native.String as S

-- ## Choosing

-- one of two, by a test; a refusal where the test holds, and what follows where it does not
unfoldable pub choose : {A : Type 0} → Bool → A → A → A
choose true a b = a
choose false a b = b

unfoldable pub refuse : {A : Type 0} → Bool → A → A → A
refuse true refusal rest = refusal
refuse false refusal rest = rest

-- do all these tests hold?
unfoldable pub all_of : List Bool → Bool
all_of [] = true
all_of (t ∷ ts) = t && all_of ts

-- ## Kinds of bytes

-- "Permitted content: 09, 20 to 7E, A0 to FF hex"
unfoldable pub permitted : ℕ → Bool
permitted b = eqb b 0x09 || (leb 0x20 b && leb b 0x7e || leb 0xa0 b && leb b 0xff)

-- space or tab
unfoldable pub separator : ℕ → Bool
separator b = eqb b 0x20 || eqb b 0x09

unfoldable pub digit : ℕ → Bool
digit b = leb 0x30 b && leb b 0x39

unfoldable pub letter : ℕ → Bool
letter b = leb 0x41 b && leb b 0x5a || leb 0x61 b && leb b 0x7a

-- "bytes 21 to 7E, C0 to FF without D7 and F7"
unfoldable pub text_byte : ℕ → Bool
text_byte b = leb 0x21 b && leb b 0x7e || (leb 0xc0 b && leb b 0xff && not (eqb b 0xd7) && not (eqb b 0xf7))

-- ## Lists of bytes

-- a quoted text as bytes
abbrev pub bytes_of : String → List ℕ
bytes_of S.[] = []
bytes_of (S.◌∷◌ c s) = code c ∷ bytes_of s

-- each byte is of a kind
unfoldable pub every : (ℕ → Bool) → List ℕ → Bool
every kind [] = true
every kind (b ∷ l) = kind b && every kind l

abbrev pub all_permitted : List ℕ → Bool
all_permitted l = every permitted l

-- equal bytes
unfoldable pub same : List ℕ → List ℕ → Bool
same [] [] = true
same [] (c ∷ k) = false
same (b ∷ l) [] = false
same (b ∷ l) (c ∷ k) = eqb b c && same l k

-- does l begin with b, does it end in b?
unfoldable pub begins : ℕ → List ℕ → Bool
begins b [] = false
begins b (c ∷ l) = eqb c b

unfoldable pub ends : ℕ → List ℕ → Bool
ends b [] = false
ends b (c ∷ []) = eqb c b
ends b (c ∷ (d ∷ l)) = ends b (d ∷ l)

-- l without its last byte
unfoldable pub without_last : List ℕ → List ℕ
without_last [] = []
without_last (b ∷ []) = []
without_last (b ∷ (c ∷ l)) = b ∷ without_last (c ∷ l)

-- does the second list begin with the first?
unfoldable pub prefix : List ℕ → List ℕ → Bool
prefix [] l = true
prefix (a ∷ k) [] = false
prefix (a ∷ k) (b ∷ l) = eqb b a && prefix k l

-- CONT and one space
abbrev pub cont : List ℕ
cont = 0x43 ∷ 0x4f ∷ 0x4e ∷ 0x54 ∷ 0x20 ∷ []

-- ## Little-endian numbers in a list of bytes

abbrev pub byte_at : List ℕ → ℕ → ℕ
byte_at s at = get_or s at 0

abbrev pub u16_at : List ℕ → ℕ → ℕ
u16_at s at = byte_at s at + 256 * byte_at s (at + 1)

abbrev pub u32_at : List ℕ → ℕ → ℕ
u32_at s at = u16_at s at + 65536 * u16_at s (at + 2)

abbrev pub u64_at : List ℕ → ℕ → ℕ
u64_at s at = u32_at s at + 4294967296 * u32_at s (at + 4)

-- 64 bits as two's complement: negsuc n is -(n + 1)
abbrev pub twos : ℕ → ℤ
twos n = choose (ltb n (2 ^ 63)) (pos n) (negsuc (2 ^ 64 - 1 - n))

abbrev pub i64_at : List ℕ → ℕ → ℤ
i64_at s at = twos (u64_at s at)
