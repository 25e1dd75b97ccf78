-- A table that is fine is read from its own lines. Assumes nothing.
use Prim.Native.Nat.{ℕ, ◌≤◌}
use native.Mathlib.Omega.{arith}
use mathlib.Core.Path.{◌≡◌, refl}
use mathlib.Core.Bool.{Bool, true, false, not, ◌&&◌, ◌||◌, false≢true}
use mathlib.Core.List.{List, [], ◌∷◌}
use lib.Dec.{eqb, leb}
use lib.ListN.{length}
use borrow.Author.Tests.{ne_eqb, eqb-true, leb-true}
use Rattle.meaning.specs.Bytes.{refuse, separator, digit, letter, every}
use Rattle.meaning.specs.Unfold.{unfolded_text}
use Rattle.meaning.specs.Model.{Model}
use Rattle.meaning.specs.Check.{special, name_byte, is_name, GoodModel}
use Rattle.meaning.specs.Reading.{nothing, is_complete, Content, State, start_of, Rooms}
use Rattle.meaning.specs.Lines.{ran, run, at_end, read_lines}
use Rattle.meaning.specs.Writing.{field_lines, lines_bytes, lines_of}
use Rattle.meaning.specs.Readback.{is_run_as, reads_as}
use Rattle.meaning.proofs.Tests.Refuse.{both, holds}
use Rattle.meaning.proofs.Reading.Fields.{solid, Solid}
use Rattle.meaning.proofs.Judge.Valid.{Valid}
use Rattle.meaning.proofs.Writing.OwnLines.{Reads, Ends}
use Rattle.meaning.proofs.Writing.Tables.{AllRead, table_reads}
use Rattle.meaning.proofs.Writing.OwnReferences.{all_same}

-- ## Names and special bytes are no separators

pub special_solid : (u : ℕ) → special u ≡ true → Solid (u ∷ [])
unfolding special every solid separator
special_solid u h = let low : 0x21 ≤ u = leb-true 0x21 u (holds _ 0 h) in rw (ne_eqb u 0x20 (omega arith), ne_eqb u 0x09 (omega arith))

pub name_byte_solid : (b : ℕ) → name_byte b ≡ true → solid b ≡ true
unfolding name_byte letter digit solid separator
name_byte_solid b h = go (eqb b 0x20) (eqb b 0x09) refl refl
  where
    go : (x y : Bool) → eqb b 0x20 ≡ x → eqb b 0x09 ≡ y → not (x || y) ≡ true
    go false false p q = refl
    go true y p q = absurd (false≢true (rw (eqb-true b 0x20 p) at h))
    go false true p q = absurd (false≢true (rw (eqb-true b 0x09 q) at h))

name_bytes_solid : (s : List ℕ) → every name_byte s ≡ true → every solid s ≡ true
unfolding every
name_bytes_solid [] h = refl
name_bytes_solid (b ∷ s) h = let r = both (name_byte b) _ h in rw (name_byte_solid b r.0, name_bytes_solid s r.1)

pub name_solid : (longest : ℕ) (s : List ℕ) → is_name longest s ≡ true → Solid s
unfolding is_name letter
name_solid longest [] h = absurd (false≢true h)
name_solid longest (b ∷ s) h =
    let r = both (letter b && every name_byte (b ∷ s)) (leb (length (b ∷ s)) longest) h in
    name_bytes_solid (b ∷ s) (both (letter b) _ r.0).1

-- ## Reading

at_end_lem : (s : State) → s.due ≡ nothing → at_end s ≡ ran s
unfolding at_end is_complete refuse
at_end_lem s e = rw e

pub read_to_end : (m : Model) (rooms : Rooms) (own : List ℕ) (s final : State) (ls : List (List ℕ)) → run m rooms own s ls ≡ ran final → final.due ≡ nothing → read_lines m rooms own s ls ≡ ran final
unfolding read_lines
read_to_end m rooms own s final ls e d = rw e (at_end_lem final d)

-- a table that is fine: its own lines read as it
pub valid_reads : (m : Model) (text : List ℕ) (c : Content) → GoodModel m → Valid m text c → reads_as m (lines_of m text c) text c ≡ true
unfolding reads_as is_run_as lines_of start_of Reads
valid_reads m text c good valid =
    let own : List ℕ = unfolded_text (lines_bytes (field_lines m text c)) in
    let rooms : Rooms = record { text = 0; marks = 0; rows = length c.rows; cells = length c.cells; points = length c.points } in
    let e : Ends m rooms own (AllRead m text c own) (start_of m) (field_lines m text c) =
    table_reads m text c rooms own (special_solid m.undefined good.undefined) (omega arith) (omega arith)
    (name_solid 63 m.transfer good.transfer) (name_solid 63 m.name good.name) (omega arith) valid 1 0 refl in
    rw (read_to_end m rooms own (start_of m) e.final (lines_bytes (field_lines m text c)) e.runs e.complete) (all_same m text c own e.final.content valid e.good)
