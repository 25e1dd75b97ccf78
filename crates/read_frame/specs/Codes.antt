-- The codes of lines as numbers: 1 to 16 in the order of `codes`, 0 for any other field.
use Rattle.std.specs.Prelude.{ℕ, ◌+◌, Option, Some, None, List, [], ◌∷◌, eqb}
use Rattle.meaning.specs.Bytes.{choose, same, u32_at}
use Rattle.meaning.specs.Field.{SCNT, slashes, MTID, MOTR, MODL, TOPI, TABL, OBJE, STPT, LIPT, ARCP, ELIN, ETAB, ETOP}
use Rattle.meaning.specs.Field.{EMOD, ENDE}
use Rattle.read_frame.specs.declared.codes.Code.{Code}
use Rattle.read_frame.specs.declared.codes.Code.TheVariants.{Scnt, Slashes, Mtid, Motr, Modl, Topi, Tabl, Obje}
use Rattle.read_frame.specs.declared.codes.Code.TheVariants.{Stpt, Lipt, Arcp, Elin, Etab, Etop, Emod, Ende}

abbrev pub codes : List (List ℕ)
codes = SCNT ∷ slashes ∷ MTID ∷ MOTR ∷ MODL ∷ TOPI ∷ TABL ∷ OBJE ∷ STPT ∷ LIPT ∷ ARCP ∷ ELIN ∷ ETAB ∷ ETOP ∷ EMOD ∷ ENDE
    ∷ []

-- the number of the first of these codes that is s, where the first has the number n
unfoldable pub number_in : (n : ℕ) → List (List ℕ) → List ℕ → ℕ
number_in n [] s = 0
number_in n (c ∷ cs) s = choose (same c s) n (number_in (n + 1) cs s)

unfoldable pub code_number : List ℕ → ℕ
code_number s = number_in 1 codes s

-- the same for four bytes as a little-endian number
unfoldable pub word_in : (n : ℕ) → List (List ℕ) → ℕ → ℕ
word_in n [] w = 0
word_in n (c ∷ cs) w = choose (eqb w (u32_at c 0)) n (word_in (n + 1) cs w)

-- the number of a code
abbrev pub place_of : Code → ℕ
place_of Scnt = 1
place_of Slashes = 2
place_of Mtid = 3
place_of Motr = 4
place_of Modl = 5
place_of Topi = 6
place_of Tabl = 7
place_of Obje = 8
place_of Stpt = 9
place_of Lipt = 10
place_of Arcp = 11
place_of Elin = 12
place_of Etab = 13
place_of Etop = 14
place_of Emod = 15
place_of Ende = 16

-- the same, and 0 for no code
abbrev pub place_or_0 : Option Code → ℕ
place_or_0 (Some c) = place_of c
place_or_0 None = 0
