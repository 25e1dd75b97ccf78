-- What writing leaves in its room, and the width of what is written. Assumes nothing.
use Prim.Native.Nat.{ℕ, ◌+◌, ◌-◌, ◌≤◌, ◌<◌}
use native.Mathlib.Omega.{arith}
use mathlib.Core.Path.{◌≡◌, refl, subst}
use mathlib.Core.Bool.{true, ◌||◌}
use mathlib.Core.List.{List, [], ◌∷◌, ◌++◌, append_assoc}
use lib.Dec.{ltb}
use lib.ListN.{length, take, drop, replicate, length-replicate, length-take}
use lib.Seq.{drop-append_seam}
use borrow.Author.Tests.{ltb-false, lt-ltb, le-leb, ne_eqb}
use Rattle.meaning.specs.Bytes.{choose, permitted, every, all_permitted, cont}
use Rattle.meaning.specs.Cut.{Mark, Permitted}
use Rattle.meaning.specs.Model.{Model}
use Rattle.meaning.specs.Check.{Checked, good, bad, check_model, GoodModel}
use Rattle.meaning.specs.Answer.{accepted, refusal}
use Rattle.meaning.specs.Writing.{Lent, content_of, lines_of}
use Rattle.meaning.specs.Width.{goes_whole, cut_line, cut_lines, Written, writing_refused, write_bytes, write_checked, write}
use Rattle.meaning.specs.WritingClaims.{RoomUsed, fits_width}
use Rattle.meaning.proofs.Tests.Refuse.{refuse_keeps, both, neither}
use Rattle.meaning.proofs.Model.Marks.{good_mark}
use Rattle.meaning.proofs.Tests.Unequal.{not_refused, not_accepted}
use Rattle.meaning.proofs.Values.Digits.{every_take, every_drop}
use Rattle.meaning.proofs.Unfolding.TextLeft.{filled_length}
use Rattle.meaning.proofs.Unfolding.Widths.{by_cuts_of_line, whole_exactly}
use Rattle.meaning.proofs.Model.GoodModels.{checked_good}
use Rattle.meaning.proofs.Judge.Unwritable.{table_permitted}
use Rattle.meaning.proofs.Writing.RoundTrip.{written_as}
use Rattle.meaning.proofs.Unfolding.Cuts.{not_lf}

-- ## The room of writing

pub record Left (room : ℕ) (w : Written) : Type 0 where
  pub zeroes : (number first second : ℕ) → w.answer ≡ refusal number first second → w.output ≡ replicate room 0
  pub keeps : length w.output ≡ room
  pub used : (n : ℕ) → w.answer ≡ accepted n 0 0 → RoomUsed room n w.output

refused_left : (room number at : ℕ) → Left room (writing_refused room number at)
refused_left room number at = record { zeroes = λ k f s h. refl; keeps = length-replicate room 0; used = λ n h. absurd (not_accepted number at 0 n 0 0 h) }

bytes_left : (room : ℕ) (file : List ℕ) → Left room (write_bytes room file)
unfolding write_bytes
bytes_left room file = refuse_keeps (Left room) (ltb room (length file) || ltb 16777216 (length file)) _ _ (refused_left room 21 0) (λ h.
    let fits : length file ≤ room = ltb-false room (length file) (neither _ _ h).0 in
    record {
      zeroes = λ k f s e. absurd (not_refused (length file) 0 0 k f s e);
      keeps = filled_length room file fits;
      used = λ n e. let same : length file ≡ n = cc in record { fits = rw (← same) fits; behind = rw (← same) (drop-append_seam file _) };
    })

pub writing_left : (model : List ℕ) (t : Lent) (width room : ℕ) → Left room (write model t width room)
unfolding write write_checked
writing_left model t width room = go (check_model model)
  where
    go : (c : Checked) → Left room (write_checked t width room c)
    go (bad at) = refused_left room 2 at
    go (good m) =
        refuse_keeps (Left room) _ _ _ (refused_left room 20 0) (λ _.
        refuse_keeps (Left room) _ _ _ (refused_left room 19 0) (λ _.
        bytes_left room _))

-- ## The width

module _ (width : ℕ) where
  -- a byte that is no LF, where the line has room for it
  byte_fits : (b column : ℕ) (s : List ℕ) → permitted b ≡ true → column < width → fits_width width (column + 1) s ≡ true → fits_width width column (b ∷ s) ≡ true
  unfolding fits_width choose
  byte_fits b column s p h k = rw (not_lf b p, lt-ltb column width h, k)

  -- so many bytes
  bytes_fit : (l : List ℕ) (column : ℕ) (s : List ℕ) → all_permitted l ≡ true → column + length l ≤ width → fits_width width (column + length l) s ≡ true → fits_width width column (l ++ s) ≡ true
  unfolding every
  bytes_fit [] column s p h k = subst (λ (n : ℕ). fits_width width n s ≡ true) (omega arith) k
  bytes_fit (b ∷ l) column s p h k =
      let q = both (permitted b) _ p in
      byte_fits b column (l ++ s) q.0 (omega arith) (bytes_fit l (column + 1) s q.1 (omega arith) (subst (λ (n : ℕ). fits_width width n s ≡ true) (omega arith) k))

  -- a line's end
  end_fits : (column : ℕ) (s : List ℕ) → fits_width width 0 s ≡ true → fits_width width column (0x0a ∷ s) ≡ true
  unfolding fits_width choose
  end_fits column s k = k

  module _ (mark : ℕ) (least : 16 ≤ width) (p : permitted mark ≡ true) where
    -- a mark, a line's end, and the continuation
    cut_fits : (column : ℕ) (s : List ℕ) → column < width → fits_width width 5 s ≡ true → fits_width width column (mark ∷ 0x0a ∷ (cont ++ s)) ≡ true
    unfolding every permitted
    cut_fits column s h k = byte_fits mark column _ p h (end_fits (column + 1) _ (bytes_fit cont 0 s refl (omega arith) k))

    -- a rest goes out whole
    whole_fits : (room : ℕ) (l s : List ℕ) → goes_whole mark room l ≡ true → fits_width width 0 s ≡ true
        → (column : ℕ) → column + room ≡ width → all_permitted l ≡ true → fits_width width column ((l ++ (0x0a ∷ [])) ++ s) ≡ true
    whole_fits room l s e k column h q =
        let short : length l ≤ room = ((whole_exactly mark room l).0 e).0 in
        rw (append_assoc l (0x0a ∷ []) s) (bytes_fit l column (0x0a ∷ s) q (omega arith) (end_fits _ s k))

    -- as many bytes as fit before a mark
    part_fits : (room : ℕ) (l out s : List ℕ) → 1 ≤ room → (all_permitted (drop (room - 1) l) ≡ true → fits_width width 5 (out ++ s) ≡ true)
        → (column : ℕ) → column + room ≡ width → all_permitted l ≡ true → fits_width width column ((take (room - 1) l ++ (mark ∷ 0x0a ∷ (cont ++ out))) ++ s) ≡ true
    part_fits room l out s some others column h q =
        let n : ℕ = room - 1 in
        let size = length-take n l in
        rw (append_assoc (take n l) (mark ∷ 0x0a ∷ (cont ++ out)) s)
        (bytes_fit (take n l) column _ (every_take permitted n l q) (omega arith) (cut_fits _ (out ++ s) (omega arith) (others (every_drop permitted n l q))))

    line_fits : (l s : List ℕ) → all_permitted l ≡ true → fits_width width 0 s ≡ true → fits_width width 0 (cut_line mark width l ++ s) ≡ true
    line_fits l s q k =
        by_cuts_of_line mark width least (λ room l out. (column : ℕ) → column + room ≡ width → all_permitted l ≡ true → fits_width width column (out ++ s) ≡ true)
        (λ room l e. whole_fits room l s e k) (λ room l out r e others. part_fits room l out s (omega arith) (others 5 (omega arith)))
        l 0 (omega arith) q

    lines_fit : (ls : List (List ℕ)) → Permitted ls → fits_width width 0 (cut_lines mark width ls) ≡ true
    unfolding cut_lines fits_width
    lines_fit [] q = refl
    lines_fit (l ∷ ls) q = line_fits l (cut_lines mark width ls) q.0 (lines_fit ls q.1)

mark_permitted : (mark : ℕ) → Mark mark → permitted mark ≡ true
unfolding permitted
mark_permitted mark h = rw (ne_eqb mark 0x09 (λ e. omega (arith, h.low)), le-leb 0x20 mark (omega (arith, h.low)), le-leb mark 0x7e h.high)

pub written_fits : (model : List ℕ) (m : Model) (t : Lent) (width room n : ℕ) → check_model model ≡ good m → (write model t width room).answer ≡ accepted n 0 0
    → fits_width width 0 (take n (write model t width room).output) ≡ true
written_fits model m t width room n e h =
    let g : GoodModel m = checked_good model m e in
    let w = written_as model m t width room n e h in
    let ls : List (List ℕ) = lines_of m t.text (content_of m t) in
    rw w.bytes (lines_fit width m.mark w.wide (mark_permitted m.mark (good_mark model m e)) ls (table_permitted m g t w.table))
