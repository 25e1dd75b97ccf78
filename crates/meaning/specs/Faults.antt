-- The first fault of unfolding (01, "Unfolding" and "Refusal numbers"), over what begins a cut: 3, 5 and 4 at their
-- logical line. It names nothing of unfolding; Claims says that unfolding gives this fault and no other.
use Rattle.std.specs.Prelude.{ℕ, ◌+◌, ◌<◌, ◌≡◌, Bool, true, false, not, List, [], ◌∷◌, ◌++◌, eqb, length}
use Rattle.meaning.specs.Bytes.{choose, cont, prefix, ends, every, all_permitted}
use Rattle.meaning.specs.Cut.{End}

-- a part of a line as it stands: behind CONT and a space where it continues a line
abbrev pub lead : (continues : Bool) → List ℕ → List ℕ
lead continues p = choose continues (cont ++ p) p

-- whole physical lines that begin a cut: so many logical lines are complete behind them, and the next physical line has
-- to continue one or not
pub data Begun (mark : ℕ) : (complete : ℕ) (continues : Bool) → List ℕ → Type 0 where
  none : Begun mark 0 false []
  last : {n : ℕ} {k : Bool} {f e : List ℕ} (p : List ℕ) → Begun mark n k f → all_permitted p ≡ true
      → ends mark p ≡ false → End e → Begun mark (n + 1) false (f ++ (lead k p ++ e))
  more : {n : ℕ} {k : Bool} {f e : List ℕ} (p : List ℕ) → Begun mark n k f → all_permitted p ≡ true → End e
      → Begun mark n true (f ++ (lead k p ++ (mark ∷ e)))

-- no LF
abbrev pub WithoutLF : List ℕ → Type 0
WithoutLF x = every (λ b. not (eqb b 0x0a)) x ≡ true

-- these bytes are the physical line x and its line end: "A physical line ends in LF; one CR directly before it belongs
-- to the end"
pub data Ended : (x bytes : List ℕ) → Type 0 where
  lf : {x : List ℕ} → WithoutLF x → ends 0x0d x ≡ false → Ended x (x ++ (0x0a ∷ []))
  crlf : {x : List ℕ} → WithoutLF x → Ended x (x ++ (0x0d ∷ 0x0a ∷ []))

-- "Unfolding goes by physical line: 3, then 5 judged at the line that should continue, then 4". The first fault of a
-- file, and its logical line: behind the physical lines f, which begin a cut, the next one is
--   unended       without an LF: 3
--   marked        the last one, and ends in the mark: 3
--   uncontinued   without CONT and a space, where it has to continue a line: 5
--   unpermitted   with a byte that is not permitted: 4
pub data FirstFault (mark : ℕ) : List ℕ → (number line : ℕ) → Type 0 where
  unended : {n : ℕ} {k : Bool} (f x : List ℕ) → Begun mark n k f → WithoutLF x → 0 < length x
      → FirstFault mark (f ++ x) 3 (n + 1)
  marked : {n : ℕ} {k : Bool} {x b : List ℕ} (f : List ℕ) → Begun mark n k f → Ended x b → ends mark x ≡ true
      → FirstFault mark (f ++ b) 3 (n + 1)
  uncontinued : {n : ℕ} {x b : List ℕ} (f others : List ℕ) → Begun mark n true f → Ended x b
      → (others ≡ [] → ends mark x ≡ false) → prefix cont x ≡ false → FirstFault mark (f ++ (b ++ others)) 5 (n + 1)
  unpermitted : {n : ℕ} {k : Bool} {b : List ℕ} (f p others : List ℕ) → Begun mark n k f → Ended (lead k p) b
      → (others ≡ [] → ends mark (lead k p) ≡ false) → all_permitted p ≡ false
      → FirstFault mark (f ++ (b ++ others)) 4 (n + 1)
