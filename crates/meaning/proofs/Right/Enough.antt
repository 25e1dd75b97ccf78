-- Rooms that suffice for every file. Assumes nothing.
use Prim.Native.Nat.{ℕ, ◌+◌, ◌*◌, ◌/◌, ◌≤◌}
use native.Mathlib.Nat.{mul-le-mul_left}
use native.Mathlib.Omega.{arith}
use mathlib.Core.Path.{◌≡◌, refl, sym, subst, ◌∙◌}
use mathlib.Core.Bool.{Bool, false, not, true≢false}
use mathlib.Core.List.{List, [], ◌∷◌, ◌++◌}
use lib.ListN.{length}
use borrow.Author.Tests.{not-true}
use Rattle.meaning.specs.Bytes.{every}
use Rattle.meaning.specs.Unfold.{unfolded_text}
use Rattle.meaning.specs.Model.{Model}
use Rattle.meaning.specs.Check.{good, check_model}
use Rattle.meaning.specs.Reading.{Rooms}
use Rattle.meaning.specs.Table.{read}
use Rattle.meaning.specs.Right.{with_starts}
use Rattle.meaning.specs.Reasons as reasons
use Rattle.meaning.specs.Reasons.{Place, Gain, Follows, used_with, cells_with, points_with, Reached, Within}
use Rattle.meaning.specs.RightClaims.{Opened, line_behind, First, too_large, bad_model, bad_unfolding, no_room, bad_line, full_line, line_missing, object_missing}
use Rattle.meaning.specs.RoomClaims.{is_one_of, NoLess, HadRoom, longest_row, rooms_for, SomeRoomIsEnough}
use Rattle.meaning.proofs.Unfolding.Cuts as cuts
use Rattle.meaning.proofs.Model.GoodModels as models
use Rattle.meaning.proofs.Right.Claims.{refusal_is_first}
use Rattle.meaning.proofs.Right.Numbers.{each, fault_numbers, fault_fine, line_numbers, reason_fine}
use Rattle.meaning.proofs.Right.Lengths.{bytes_in, bytes_behind, bytes_text, text_begins}
use Rattle.meaning.proofs.Right.Spends.{Spends, reached_spends}

-- is a number one for want of room?
unfoldable pub wants_room : ℕ → Bool
wants_room n = is_one_of n (6 ∷ 16 ∷ [])

-- what takes bytes of a file has room in the rooms for it
spends_within : (m : Model) (n : ℕ) (rooms : Rooms) {k : ℕ} {used : List (List ℕ)} {cells points : ℕ} → NoLess (rooms_for m n) rooms → k ≤ n → Spends m k used cells points → Within rooms used cells points
spends_within m n rooms {used = used} enough short s =
    let few : length used ≤ n / 7 = omega (arith, short, s.for_rows) in
    let rows : n / 7 ≤ rooms.rows = enough.rows in
    let cells : longest_row m.tables * (n / 7) ≤ rooms.cells = enough.cells in
    let points : 4 * (n / 9) ≤ rooms.points = enough.points in
    record {
      for_rows = omega (arith, few, rows);
      for_cells = omega (arith, s.for_cells, mul-le-mul_left (longest_row m.tables) few, cells);
      for_points = omega (arith, short, s.fours, s.for_points, points);
    }

module _ (model file : List ℕ) (rooms : Rooms) (suffice : (m : Model) → check_model model ≡ good m → NoLess (rooms_for m (length file)) rooms) where
  -- the lines of a file are no longer than the file
  text_short : {m : Model} {ls : List (List ℕ)} → Opened model file m ls → length (unfolded_text ls) ≤ length file
  text_short {m} {ls} o = cuts.cut_long o.cut

  -- what lines deliver has room
  line_within : {m : Model} {x y : Place} {used : List (List ℕ)} {cells points : ℕ} {g : Gain} (before : List (List ℕ)) (l : List ℕ) (after : List (List ℕ)) → Opened model file m (before ++ (l ∷ after))
      → Reached m (with_starts 0 before) x used cells points → Follows m used x (line_behind before l) y g → Within rooms (used_with g used) (cells_with g cells) (points_with g points)
  line_within {m} before l after o r f =
      let spent = (reached_spends (models.checked_good model m o.is_good) (reasons.Reached.more r f)).spends in
      let bytes : bytes_in (with_starts 0 before ++ (line_behind before l ∷ [])) ≡ bytes_in (with_starts 0 before) + (length l + 1) = bytes_behind (with_starts 0 before) (line_behind before l) in
      let short : bytes_in (with_starts 0 before ++ (line_behind before l ∷ [])) ≤ length file = omega (arith, bytes, bytes_text 0 before, text_begins before l after, text_short o) in
      spends_within m (length file) rooms (suffice m o.is_good) short spent

  -- so no first refusal is one for want of room
  first_had : {number first second : ℕ} → First model file rooms number first second → wants_room number ≡ false
  unfolding wants_room is_one_of every
  first_had (too_large l) = refl
  first_had (bad_model short e) = refl
  first_had (bad_unfolding {number = number} short e f) = not-true (wants_room number) (each (λ k. not (wants_room k)) number fault_numbers refl (fault_fine f).0)
  first_had (no_room {m = m} o h) = let s = suffice m o.is_good in absurd (h (record { text = omega (arith, text_short o, s.text); marks = s.marks }))
  first_had (bad_line {number = number} before l after o room c r) = not-true (wants_room number) (each (λ k. not (wants_room k)) number line_numbers refl (reason_fine 1 (omega arith) r).0)
  first_had (full_line before l after o room c f h) = absurd (h (line_within before l after o c.reached f))
  first_had (line_missing o room c h) = refl
  first_had (object_missing o f u e r) = refl

  had_room : HadRoom (read model file rooms).answer
  unfolding wants_room is_one_of
  had_room first second =
      (λ e. true≢false (first_had (refusal_is_first model file rooms 6 first second e)), λ e. true≢false (first_had (refusal_is_first model file rooms 16 first second e)))

pub some_room_is_enough : SomeRoomIsEnough
some_room_is_enough model file m rooms e enough = had_room model file rooms suffice
  where
    suffice : (m' : Model) → check_model model ≡ good m' → NoLess (rooms_for m' (length file)) rooms
    suffice m' e' =
        let q : good m ≡ good m' = sym e ∙ e' in
        let same : m ≡ m' = cc in
        subst (λ (k : Model). NoLess (rooms_for k (length file)) rooms) same enough
