-- Lines cut to a width: how many cuts, where they lie, and a line moved to its places. Assumes nothing.
use Prim.Native.Nat.{ℕ, zero, suc, ◌+◌, ◌*◌, ◌-◌, ◌<◌, ◌≤◌, min}
use native.Mathlib.Nat.{suc-mul}
use native.Mathlib.Numerals.{add-one}
use native.Mathlib.Omega.{arith}
use mathlib.Core.Path.{◌≡◌, refl, sym, ap, ◌∙◌}
use mathlib.Core.Bool.{Bool, true, false}
use mathlib.Core.List.{List, [], ◌∷◌, ◌++◌, append_assoc}
use lib.Dec.{leb}
use lib.ListN.{length, take, drop, set, length-set, take-append-drop, length-append, length-drop, drop_of_length-le}
use lib.Seq.{sets, sets-eq, paste, length-sets, take-take, take_all, drop-drop}
use borrow.Rule.Slice.PartMut.{put_mid}
use borrow.Author.Tests.{le-leb, lt-leb, leb-true, leb-false}
use Rattle.meaning.specs.Bytes.{choose, ends, cont}
use Rattle.meaning.specs.Width.{goes_whole, cut_line}
use Rattle.base.proofs.Scan.{and_false}
use Rattle.write_lines.specs.Cuts.{cut_bytes, cut_rest, with_cuts, last_room}
use Rattle.write_lines.proofs.Runs.{between, length_between, between_drop, between_same, take_sets, drop_run, sets_before}
use Rattle.write_lines.proofs.Puts.{copied}
use Rattle.meaning.proofs.Lists.{drop-take}
use Rattle.meaning.proofs.Unfolding.Widths.{by_cuts_of_line}

-- ## Which line goes out whole

ends_drop : (b k : ℕ) (l : List ℕ) → k < length l → ends b (drop k l) ≡ ends b l
unfolding ends
ends_drop b k [] h = absurd (omega arith)
ends_drop b zero (x ∷ l) h = refl
ends_drop b (suc k) (x ∷ []) h = absurd (omega arith)
ends_drop b (suc k) (x ∷ (y ∷ l)) h = ends_drop b k (y ∷ l) (omega arith)

module _ (mark room : ℕ) where
  pub goes_whole_lem : (l : List ℕ) → length l ≤ last_room mark room l → goes_whole mark room l ≡ true
  unfolding goes_whole last_room choose ends
  goes_whole_lem [] h = rw (le-leb 0 room (omega arith))
  goes_whole_lem (x ∷ l) h = go (ends mark (x ∷ l)) refl h
    where
      go : (t : Bool) → ends mark (x ∷ l) ≡ t → length (x ∷ l) ≤ last_room mark room (x ∷ l) → goes_whole mark room (x ∷ l) ≡ true
      go true e k = let z : suc (length l) ≤ 0 = rw e at k in absurd (omega arith)
      go false e k = let z : suc (length l) ≤ room = rw e at k in rw (e, le-leb (suc (length l)) room z)

  pub goes_cut : (l : List ℕ) → last_room mark room l < length l → goes_whole mark room l ≡ false
  unfolding goes_whole last_room choose
  goes_cut l h = go (ends mark l) refl h
    where
      go : (t : Bool) → ends mark l ≡ t → last_room mark room l < length l → goes_whole mark room l ≡ false
      go true e k = rw e (and_false (leb (length l) room) refl)
      go false e k = let z : room < length l = rw e at k in rw (lt-leb (length l) room z)

  pub room_by : (l : List ℕ) (ended : Bool) → ends mark l ≡ ended → last_room mark room l ≡ choose ended 0 room
  unfolding last_room
  room_by l ended h = rw h

  room_drop : (k : ℕ) (l : List ℕ) → k < length l → last_room mark room (drop k l) ≡ last_room mark room l
  unfolding last_room
  room_drop k l h = rw (ends_drop mark k l h)

pub room_most : (ended : Bool) (room : ℕ) → choose ended 0 room ≤ room
unfolding choose
room_most true room = omega arith
room_most false room = omega arith

-- ## What stands behind a cut

-- a rest for which there is room for so many bytes: whole, or cut byte by byte
abbrev pub whole_or_cut : (mark width room : ℕ) → List ℕ → List ℕ
whole_or_cut mark width room l = choose (goes_whole mark room l) (l ++ (0x0a ∷ [])) (cut_rest mark width (room - 1) l)

-- the rest of a line behind a cut
abbrev behind_cut : (mark width : ℕ) → List ℕ → List ℕ
behind_cut mark width l = whole_or_cut mark width (width - 5) l

module _ (mark width : ℕ) (wide : 16 ≤ width) where
  cut_first : (p : ℕ) (l : List ℕ) → cut_rest mark width p l ≡ take p l ++ (cut_bytes mark ++ behind_cut mark width (drop p l))
  unfolding cut_rest choose
  cut_first zero [] = rw (goes_whole_lem mark (width - 5) [] (omega arith))
  cut_first (suc p) [] = rw (goes_whole_lem mark (width - 5) [] (omega arith))
  cut_first zero (b ∷ l) = let z : width - 5 - 1 ≡ suc (width - 7) = omega arith in rw z
  cut_first (suc p) (b ∷ l) = ap (λ (t : List ℕ). b ∷ t) (cut_first p l)

  behind_last : (l : List ℕ) → length l ≤ last_room mark (width - 5) l → behind_cut mark width l ≡ l ++ (0x0a ∷ [])
  unfolding choose
  behind_last l h = rw (goes_whole_lem mark (width - 5) l h)

  behind_more : (l : List ℕ) → last_room mark (width - 5) l < length l → behind_cut mark width l ≡ cut_rest mark width (width - 6) l
  unfolding choose
  behind_more l h = let z : width - 5 - 1 ≡ width - 6 = omega arith in rw (goes_cut mark (width - 5) l h, z)

  -- a line cut to a width goes out whole, or it is cut byte by byte
  pub line_whole_or_cut : (l : List ℕ) → cut_line mark width l ≡ whole_or_cut mark width width l
  unfolding choose
  line_whole_or_cut =
      by_cuts_of_line mark width wide (λ room l out. out ≡ whole_or_cut mark width room l)
      (λ room l e. rw e)
      (λ room l out r e others. rw (e, others) (sym (cut_first (room - 1) l)))

-- ## Counting the cuts

-- a line with its first cuts made, and the rest of it behind the last of them
pub cut_on : (mark width count last : ℕ) → List ℕ → List ℕ
cut_on mark width zero last l = []
cut_on mark width (suc count) last l = with_cuts mark (width - 6) count (last - (width - 6)) (take last l) (cut_bytes mark ++ behind_cut mark width (drop last l))

module _ (mark width : ℕ) (l : List ℕ) (wide : 16 ≤ width) where
  pub count_first : cut_rest mark width (width - 1) l ≡ cut_on mark width 1 (width - 1) l
  unfolding cut_on with_cuts
  count_first = cut_first mark width wide (width - 1) l

  pub count_turn : (count last : ℕ) → 0 < count → last + last_room mark (width - 5) l < length l → cut_on mark width count last l ≡ cut_on mark width (count + 1) (last + (width - 6)) l
  unfolding cut_on with_cuts
  count_turn zero last h more = absurd (omega arith)
  count_turn (suc count) last h more =
      let step : ℕ = width - 6 in
      let z : last + step - step ≡ last = omega arith in
      let d : last + step - last ≡ step = omega arith in
      let room = room_drop mark (width - 5) last l (omega arith) in
      let rest : behind_cut mark width (drop last l) ≡ take step (drop last l) ++ (cut_bytes mark ++ behind_cut mark width (drop (last + step) l)) =
      behind_more mark width wide (drop last l) (omega (arith, room, length-drop last l)) ∙ cut_first mark width wide step (drop last l) ∙ rw (drop-drop step last l) in
      rw (rest, add-one (suc count), z, take-take last (last + step) l (omega arith), drop-take last (last + step) l, d)

  pub count_end : (count last : ℕ) → 0 < count → length l ≤ last + last_room mark (width - 5) l → cut_on mark width count last l ≡ with_cuts mark (width - 6) count last l (0x0a ∷ [])
  unfolding cut_on with_cuts
  count_end zero last h all = absurd (omega arith)
  count_end (suc count) last h all = rw (behind_last mark width wide (drop last l) (go (leb (length l) last) refl))
    where
      go : (t : Bool) → leb (length l) last ≡ t → length (drop last l) ≤ last_room mark (width - 5) (drop last l)
      go true e = omega (arith, leb-true (length l) last e, length-drop last l)
      go false e = let h = leb-false (length l) last e in omega (arith, room_drop mark (width - 5) last l (omega arith), length-drop last l)

-- the last cut lies where the cuts before it say
pub placed_next : (count step : ℕ) → 5 + count * step + step ≡ 5 + (count + 1) * step
placed_next count step = omega (arith, suc-mul count step)

pub placed_before : (count step last : ℕ) → 0 < count → last ≡ 5 + count * step → (step ≤ last) × (last - step ≡ 5 + (count - 1) * step)
placed_before zero step last h e = absurd (omega arith)
placed_before (suc count) step last h e =
    let z : suc count - 1 ≡ count = omega arith in
    let m = suc-mul count step in
    (omega arith, rw z (omega arith))

-- ## Cuts and their bytes

module _ (mark step : ℕ) where
  pub cuts_length : (count last : ℕ) (l behind : List ℕ) → length (with_cuts mark step count last l behind) ≡ length l + 7 * count + length behind
  unfolding with_cuts
  cuts_length zero last l behind = length-append l behind ∙ omega arith
  cuts_length (suc count) last l behind =
      let t = length-append (take last l) (drop last l) in
      let e = ap (λ (k : List ℕ). length k) (take-append-drop last l) in
      cuts_length count (last - step) (take last l) (cut_bytes mark ++ (drop last l ++ behind)) ∙ omega (arith, length-append (drop last l) behind)

  pub cuts_append : (count last : ℕ) (l behind rest : List ℕ) → with_cuts mark step count last l (behind ++ rest) ≡ with_cuts mark step count last l behind ++ rest
  unfolding with_cuts
  cuts_append zero last l behind rest = sym (append_assoc l behind rest)
  cuts_append (suc count) last l behind rest = rw (← append_assoc (drop last l) behind rest) (cuts_append count (last - step) (take last l) (cut_bytes mark ++ (drop last l ++ behind)) rest)

-- the bytes between two places moved behind a cut that is put
pub cut_stored : (mark from to at : ℕ) (out : List ℕ) → to ≤ length out → at + 7 + (to - from) ≤ length out
    → put_mid (at + 1) (at + 7 - (at + 1)) (set (paste out (at + 7) (drop from out) (to - from)) at mark) (0x0a ∷ cont) ≡ sets out at (cut_bytes mark ++ between from to out)
cut_stored mark from to at out room fits =
    let part : List ℕ = between from to out in
    let n : length part ≡ to - from = length_between from to out room in
    let moved : paste out (at + 7) (drop from out) (to - from) ≡ sets out (at + 7) part = sym (sets-eq part out (at + 7) (omega (arith, n)) ∙ rw n) in
    let size : length (set (sets out (at + 7) part) at mark) ≡ length out = length-set (sets out (at + 7) part) at mark ∙ length-sets out (at + 7) part in
    let z : at + 7 - (at + 1) ≡ at + 1 + 6 - (at + 1) = omega arith in
    rw (moved, z) (copied (at + 1) (set (sets out (at + 7) part) at mark) (0x0a ∷ cont) (omega (arith, size)) ∙ rw (add-one at) (sets_before (cut_bytes mark) out at part))

-- ## A line moved to its places, from its last part to its first

-- the room once the cuts that are left are made in the line between two places
abbrev pub cut_room : (mark step start to left last : ℕ) → List ℕ → List ℕ
cut_room mark step start to left last out = take start out ++ with_cuts mark step left last (between start to out) (drop (to + 7 * left) out)

-- the place of the last cut of the line between two places
module _ (start to last o : ℕ) (out : List ℕ) (order : start ≤ to) (room : to ≤ length out) (place : o ≡ min (start + last) to) where
  part_before : between start o out ≡ take last (between start to out)
  part_before = go (leb (start + last) to) refl
    where
      go : (t : Bool) → leb (start + last) to ≡ t → between start o out ≡ take last (between start to out)
      go true e =
          let h = leb-true (start + last) to e in
          let z : o - start ≡ last = omega arith in
          rw (z, take-take last (to - start) (drop start out) (omega arith))
      go false e =
          let h = leb-false (start + last) to e in
          let z : o ≡ to = omega arith in
          rw (z, take_all last (between start to out) (omega (arith, length_between start to out room)))

  part_behind : between o to out ≡ drop last (between start to out)
  part_behind = go (leb (start + last) to) refl
    where
      go : (t : Bool) → leb (start + last) to ≡ t → between o to out ≡ drop last (between start to out)
      go true e =
          let h = leb-true (start + last) to e in
          let z : o ≡ start + last = omega arith in
          let y : to - (start + last) ≡ to - start - last = omega arith in
          rw (drop-take last (to - start) (drop start out), drop-drop last start out, z, y)
      go false e =
          let h = leb-false (start + last) to e in
          let z : to - o ≡ 0 = omega arith in
          rw (z, drop_of_length-le (between start to out) {i = last} (omega (arith, length_between start to out room)))

  module _ (mark step left : ℕ) (ahead : 0 < left) (fits : to + 7 * left ≤ length out) where
    cut_turn : cut_room mark step start o (left - 1) (last - step) (sets out (o + 7 * (left - 1)) (cut_bytes mark ++ between o to out)) ≡ cut_room mark step start to left last out
    unfolding with_cuts
    cut_turn = go left refl
      where
        go : (k : ℕ) → k ≡ left → cut_room mark step start o (k - 1) (last - step) (sets out (o + 7 * (k - 1)) (cut_bytes mark ++ between o to out)) ≡ cut_room mark step start to k last out
        go zero e = absurd (omega arith)
        go (suc k) e =
            let z : suc k - 1 ≡ k = omega arith in
            let part : List ℕ = cut_bytes mark ++ between o to out in
            let size : length part ≡ 7 + (to - o) = omega (arith, length_between o to out room) in
            let end : o + 7 * k + length part ≡ to + 7 * suc k = omega arith in
            let a : take start (sets out (o + 7 * k) part) ≡ take start out = take_sets start out (o + 7 * k) part (omega arith) in
            let b : between start o (sets out (o + 7 * k) part) ≡ take last (between start to out) = between_same start o _ out (take_sets o out (o + 7 * k) part (omega arith)) ∙ part_before in
            let d : drop (o + 7 * k) (sets out (o + 7 * k) part) ≡ part ++ drop (to + 7 * suc k) out = drop_run out (o + 7 * k) part (omega arith) ∙ rw end in
            rw (z, a, b, d, part_behind)

    -- a turn of the loop that makes them
    pub cut_made : (next : List ℕ) → next ≡ sets out (o + 7 * (left - 1)) (cut_bytes mark ++ between o to out)
        → (length next ≡ length out) × (cut_room mark step start o (left - 1) (last - step) next ≡ cut_room mark step start to left last out)
    cut_made next e = (rw e (length-sets out (o + 7 * (left - 1)) (cut_bytes mark ++ between o to out)), rw e cut_turn)

-- all cuts are made
pub cut_all : (mark step start to last : ℕ) (out : List ℕ) → start ≤ to → cut_room mark step start to 0 last out ≡ out
unfolding with_cuts
cut_all mark step start to last out h = let z : to + 7 * 0 ≡ to = omega arith in rw (z, between_drop start to out h) (take-append-drop start out)
