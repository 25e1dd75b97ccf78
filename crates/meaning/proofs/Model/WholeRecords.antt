-- From bytes to records: bytes begin with a whole record, which is read, or their first record overruns them.
-- Assumes nothing.
use Prim.Native.Nat.{ℕ, zero, suc, ◌+◌, ◌/◌, ◌%◌, ◌≤◌, ◌<◌}
use native.Mathlib.Omega.{arith}
use mathlib.Core.Path.{◌≡◌, refl, sym, ap, ◌∙◌, subst}
use mathlib.Core.Bool.{Bool, true, false}
use mathlib.Core.List.{List, [], ◌∷◌, ◌++◌, append_assoc}
use lib.Dec.{ltb, leb}
use lib.ListN.{length, take, drop, length-append, length-take, length-drop, take-append-drop}
use lib.Seq.{length-take-le, drop-drop, take-append_seam, drop-append_seam, take_at, drop_at}
use borrow.Author.Tests.{ltb-true, leb-true, leb-false}
use Rattle.meaning.specs.Bytes.{every, byte_at, u16_at}
use Rattle.meaning.specs.Model.{overrun, entry, records_from}
use Rattle.meaning.specs.ModelBytes.{u16_bytes, record_bytes}
use Rattle.meaning.specs.ModelClaims.{AreBytes, Whole}
use Rattle.meaning.proofs.Tests.Refuse.{both}
use Rattle.meaning.proofs.Lists.{drop_next}
use Rattle.meaning.proofs.Values.Digits.{every_take, every_drop}
use Rattle.meaning.proofs.Model.Records.{first_overrun}
use Rattle.meaning.proofs.Model.RecordBytes.{record_length, record_first}

-- ## Bytes

pub byte_below : (b : List ℕ) (i : ℕ) → AreBytes b → byte_at b i < 256
unfolding every
byte_below [] i h = omega arith
byte_below (x ∷ b) zero h = ltb-true x 256 (both (ltb x 256) _ h).0
byte_below (x ∷ b) (suc i) h = byte_below b i (both (ltb x 256) _ h).1

-- the first of them and those behind
pub front_bytes : (b f r : List ℕ) → AreBytes b → b ≡ f ++ r → AreBytes f
front_bytes b f r h e = subst AreBytes (ap (take (length f)) e ∙ take-append_seam f r) (every_take _ (length f) b h)

pub behind_bytes : (b f r : List ℕ) → AreBytes b → b ≡ f ++ r → AreBytes r
behind_bytes b f r h e = subst AreBytes (ap (drop (length f)) e ∙ drop-append_seam f r) (every_drop _ (length f) b h)

pub two_bytes : (b : List ℕ) (at : ℕ) → at + 2 ≤ length b → drop at b ≡ byte_at b at ∷ byte_at b (at + 1) ∷ drop (at + 2) b
two_bytes b at l = let e : at + 1 + 1 ≡ at + 2 = omega arith in rw (drop_next b at 0 (omega arith), drop_next b (at + 1) 0 (omega arith), e)

-- the two bytes of the number that they make
pub u16_written : (b : List ℕ) (at : ℕ) → AreBytes b → at + 2 ≤ length b → drop at b ≡ u16_bytes (u16_at b at) ++ drop (at + 2) b
unfolding u16_bytes
u16_written b at h l =
    let x = byte_below b at h in
    let p : u16_at b at % 256 ≡ byte_at b at = omega arith in
    let q : u16_at b at / 256 ≡ byte_at b (at + 1) = omega arith in
    rw (p, q, two_bytes b at l)

-- ## The first record

-- the bytes of the record that they begin with, where it fits
record_written : (b : List ℕ) → AreBytes b → u16_at b 0 + 4 ≤ length b → b ≡ record_bytes (u16_at b 2) (take (u16_at b 0) (drop 4 b)) ++ drop (4 + u16_at b 0) b
unfolding record_bytes
record_written b h l =
    let size : ℕ = u16_at b 0 in
    let n : length (take size (drop 4 b)) ≡ size = length-take-le size (drop 4 b) (rw (length-drop 4 b) (omega arith)) in
    let r : take size (drop 4 b) ++ drop (4 + size) b ≡ drop 4 b = rw (← (drop-drop size 4 b)) (take-append-drop size (drop 4 b)) in
    let f : b ≡ u16_bytes size ++ drop 2 b = u16_written b 0 h (omega arith) in
    let g : drop 2 b ≡ u16_bytes (u16_at b 2) ++ drop 4 b = u16_written b 2 h (omega arith) in
    f ∙ ap (λ (t : List ℕ). u16_bytes size ++ t) g ∙ simp (append_assoc, n, r)

-- a whole record: its length, and its first two bytes
whole_size_lem : (b : List ℕ) (w : Whole b) → (u16_at b 0 ≡ length w.payload) × (4 + length w.payload ≤ length b)
unfolding record_bytes u16_bytes
whole_size_lem b w = (ap (λ (s : List ℕ). u16_at s 0) w.is ∙ omega arith, omega (arith, ap length w.is, length-append w.payload w.others))

-- its payload and what is behind it are bytes
pub payload_bytes : (b : List ℕ) (w : Whole b) → AreBytes b → AreBytes w.payload
unfolding record_bytes u16_bytes
payload_bytes b w h = front_bytes (drop 4 b) w.payload w.others (every_drop _ 4 b h) (ap (drop 4) w.is)

pub others_bytes : (b : List ℕ) (w : Whole b) → AreBytes b → AreBytes w.others
others_bytes b w h = behind_bytes b (record_bytes w.kind w.payload) w.others h w.is

-- fewer bytes are behind it
pub whole_rest : (b : List ℕ) (w : Whole b) → length w.others < length b
whole_rest b w = omega (arith, ap length w.is, length-append (record_bytes w.kind w.payload) w.others, record_length w.kind w.payload)

-- a whole record is read, and the others behind it
pub whole_read : (at : ℕ) (b : List ℕ) (w : Whole b) → records_from 0 at b ≡ entry at w.kind w.payload (records_from 0 (at + 4 + length w.payload) w.others)
whole_read at b w = ap (records_from 0 at) w.is ∙ record_first at w.kind w.payload w.others

-- the first record of bytes that begin at the byte `at`: it overruns them, or is whole
pub data First (at : ℕ) (b : List ℕ) : Type 0 where
  over : records_from 0 at b ≡ overrun at → (Whole b → ⊥) → First at b
  whole : Whole b → First at b

pub first : (at : ℕ) (b : List ℕ) → AreBytes b → 0 < length b → First at b
first at b h l = go (leb (u16_at b 0 + 4) (length b)) refl
  where
    go : (x : Bool) → leb (u16_at b 0 + 4) (length b) ≡ x → First at b
    go true e =
        let fits = leb-true (u16_at b 0 + 4) (length b) e in
        whole record {
          kind = u16_at b 2;
          payload = take (u16_at b 0) (drop 4 b);
          others = drop (4 + u16_at b 0) b;
          size = omega (arith, byte_below b 0 h, byte_below b 1 h, length-take (u16_at b 0) (drop 4 b));
          kinds = omega (arith, byte_below b 2 h, byte_below b 3 h);
          is = record_written b h fits;
        }
    go false e =
        let more = leb-false (u16_at b 0 + 4) (length b) e in
        over (first_overrun at b l more) (λ w. let z = whole_size_lem b w in omega arith)

-- ## Bytes begin with one record only

pub one_record : (kind kind' : ℕ) (p p' rest rest' : List ℕ) → record_bytes kind p ++ rest ≡ record_bytes kind' p' ++ rest' → (kind ≡ kind') × (p ≡ p') × (rest ≡ rest')
unfolding record_bytes u16_bytes
one_record kind kind' p p' rest rest' e =
    let n : length p ≡ length p' = omega (arith, ap (λ (s : List ℕ). u16_at s 0) e) in
    let k : kind ≡ kind' = omega (arith, ap (λ (s : List ℕ). u16_at s 2) e) in
    let q : p ++ rest ≡ p' ++ rest' = ap (drop 4) e in
    let f : p ≡ p' = sym (take_at p rest (length p) refl) ∙ ap (take (length p)) q ∙ take_at p' rest' (length p) (sym n) in
    let r : rest ≡ rest' = sym (drop_at p rest (length p) refl) ∙ ap (drop (length p)) q ∙ drop_at p' rest' (length p) (sym n) in
    (k, f, r)
