-- What the judge's tests of cells and stretches say. Assumes nothing.
use Prim.Native.Nat.{ℕ, ◌+◌, ◌≤◌}
use native.Mathlib.Omega.{arith}
use mathlib.Core.Path.{◌≡◌, refl, sym, ap, ◌∙◌}
use mathlib.Core.Bool.{Bool, true, false, not, ◌||◌, false≢true}
use mathlib.Core.List.{List, [], ◌∷◌}
use lib.Dec.{ltb, eqb}
use lib.IntN.{ℤ, pos, negsuc, nat_abs}
use lib.Signed.{lt_z}
use lib.ListN.{length, drop, length-take, length-drop}
use borrow.Author.Tests.{ltb-false, le-ltb, leb-true, le-leb, eqb-true, not-true}
use Rattle.meaning.specs.Bytes.{choose, all_of, separator, text_byte, every}
use Rattle.meaning.specs.Reading.{stretch}
use Rattle.meaning.specs.Writing.{stretch_bytes}
use Rattle.meaning.specs.Judge.{cell_is, judge_stretch}
use Rattle.meaning.proofs.Tests.Refuse.{both, holds}
use Rattle.meaning.proofs.Reading.Fields.{solid, Solid}
use Rattle.meaning.proofs.Values.Numerals.{Defined}
use Rattle.meaning.proofs.Reading.Stretches.{stretch_pos}

-- ## Cells

pub cell_is_lem : (a : ℤ) (n : ℕ) → cell_is a n ≡ true → a ≡ pos n
unfolding cell_is
cell_is_lem (pos x) n h =
    let r = both (not (ltb x n)) (not (ltb n x)) h in
    let e : x ≡ n = omega (arith, ltb-false x n (not-true _ r.0), ltb-false n x (not-true _ r.1)) in
    ap pos e
cell_is_lem (negsuc x) n h = absurd (false≢true h)

pub is_cell : (n : ℕ) → cell_is (pos n) n ≡ true
unfolding cell_is
is_cell n = rw (le-ltb n n (omega arith))

pub cell_not : (x n : ℕ) → (x ≡ n → ⊥) → cell_is (pos x) n ≡ false
cell_not x n h = go (cell_is (pos x) n) refl
  where
    go : (t : Bool) → cell_is (pos x) n ≡ t → cell_is (pos x) n ≡ false
    go true e = let p : pos x ≡ pos n = cell_is_lem (pos x) n e in let q : x ≡ n = cc in absurd (h q)
    go false e = e

-- a cell that is no less than a number
pub record AtLeast (n : ℕ) (a : ℤ) : Type 0 where
  pub is : a ≡ pos (nat_abs a)
  pub low : n ≤ nat_abs a

pub at_least : (a : ℤ) (n : ℕ) → not (lt_z a (pos n)) ≡ true → AtLeast n a
at_least (pos x) n h = record { is = refl; low = ltb-false x n (not-true _ h) }
at_least (negsuc x) n h = absurd (false≢true h)

pub no_less : (x n : ℕ) → n ≤ x → not (lt_z (pos x) (pos n)) ≡ true
no_less x n h = rw (le-ltb x n h)

-- ## Stretches

text_solid : (b : ℕ) → text_byte b ≡ true → solid b ≡ true
unfolding text_byte solid separator
text_solid b h = go (eqb b 0x20) (eqb b 0x09) refl refl
  where
    go : (x y : Bool) → eqb b 0x20 ≡ x → eqb b 0x09 ≡ y → not (x || y) ≡ true
    go false false p q = refl
    go true y p q = absurd (false≢true (rw (eqb-true b 0x20 p) at h))
    go false true p q = absurd (false≢true (rw (eqb-true b 0x09 q) at h))

texts_solid : (s : List ℕ) → every text_byte s ≡ true → every solid s ≡ true
unfolding every
texts_solid [] h = refl
texts_solid (b ∷ s) h = let r = both (text_byte b) _ h in rw (text_solid b r.0, texts_solid s r.1)

pub text_field : (s : List ℕ) → 1 ≤ length s → every text_byte s ≡ true → Solid s
text_field [] l h = absurd (omega arith)
text_field (b ∷ s) l h = texts_solid (b ∷ s) h

pub solid_size : (s : List ℕ) → Solid s → 1 ≤ length s
solid_size [] h = absurd h
solid_size (b ∷ s) h = omega arith

-- a stretch that lies in the text has its size
pub stretch_size : (text : List ℕ) (start size : ℕ) → start + size ≤ length text → length (stretch_bytes text (pos start) size) ≡ size
stretch_size text start size h = rw (stretch_pos text start size, length-take size (drop start text), length-drop start text) (omega arith)

-- a stretch with as many bytes as its size says, one at least, lies in the text
pub stretch_lies : (text : List ℕ) (start : ℤ) (size : ℕ) → length (stretch_bytes text start size) ≡ size → 1 ≤ size → (not (lt_z start (pos 0)) ≡ true) × (nat_abs start + size ≤ length text)
unfolding stretch_bytes choose
stretch_lies text (pos start) size e l =
    let z : length (stretch text start size) ≡ size = ap length (sym (stretch_pos text start size)) ∙ e in
    (no_less start 0 (omega arith), omega (arith, length-take size (drop start text), length-drop start text))
stretch_lies text (negsuc start) size e l = absurd (omega arith)

pub record StretchOk (u : ℕ) (text : List ℕ) (start : ℤ) (size : ℕ) : Type 0 where
  pub whole : length (stretch_bytes text start size) ≡ size
  pub field : Defined u (stretch_bytes text start size)
  pub bytes : every text_byte (stretch_bytes text start size) ≡ true

pub stretch_judged : (u : ℕ) (text : List ℕ) (start : ℤ) (size : ℕ) → 1 ≤ size → judge_stretch u text start size ≡ true → StretchOk u text start size
unfolding judge_stretch
stretch_judged u text start size l h =
    let a = at_least start 0 (holds _ 0 h) in
    let e : length (stretch_bytes text start size) ≡ size = rw a.is (stretch_size text (nat_abs start) size (leb-true _ _ (holds _ 1 h))) in
    record {
      whole = e;
      field = record { solid = text_field (stretch_bytes text start size) (omega arith) (holds _ 2 h); one = not-true _ (holds _ 3 h); two = not-true _ (holds _ 4 h) };
      bytes = holds _ 2 h;
    }

pub judged_stretch : (u : ℕ) (text : List ℕ) (start : ℤ) (size : ℕ) → StretchOk u text start size → judge_stretch u text start size ≡ true
unfolding judge_stretch all_of
judged_stretch u text start size o =
    let l : 1 ≤ length (stretch_bytes text start size) = solid_size (stretch_bytes text start size) o.field.solid in
    let e = o.whole in
    let r = stretch_lies text start size o.whole (omega arith) in
    rw (r.0, le-leb _ _ r.1, o.bytes, o.field.one, o.field.two)
