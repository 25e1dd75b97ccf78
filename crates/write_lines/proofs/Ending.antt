-- Lines put into a room and ended, whole or cut. Assumes nothing.
use Prim.Native.Nat.{ℕ, ◌+◌, ◌*◌, ◌-◌, ◌<◌, ◌≤◌, min}
use native.Mathlib.Omega.{arith}
use mathlib.Core.Path.{◌≡◌, refl, sym, ◌∙◌}
use mathlib.Core.List.{List, [], ◌∷◌, ◌++◌, append_assoc}
use lib.Dec.{eqb}
use lib.ListN.{length, take, drop, set, length-append, length-take, length-drop}
use lib.Seq.{sets, sets-eq, take-set-le, take_at}
use Rattle.meaning.specs.Bytes.{choose, ends}
use Rattle.meaning.specs.Width.{cut_line}
use Rattle.meaning.proofs.Unfolding.Widths.{by_cuts_of_line}
use Rattle.write_lines.specs.declared.Put.{Put}
use Rattle.write_lines.specs.Cuts.{cut_bytes, cut_rest, with_cuts, last_room, CutsCounted}
use Rattle.write_lines.specs.Puts.{last_in, Puts}
use Rattle.write_lines.proofs.Runs.{between, between_same, sets_over, drop_run}
use Rattle.write_lines.proofs.Puts.{then, last_append}
use Rattle.write_lines.proofs.Cutting.{goes_whole_lem, goes_cut, line_whole_or_cut, room_by, cut_room, cuts_length, cuts_append}

-- ## The last byte of a line

-- whether a line ends in the mark shows in its last byte
pub ends_last : (d b : ℕ) (l : List ℕ) → 1 ≤ length l → ends b l ≡ eqb (last_in d l) b
unfolding ends last_in
ends_last d b [] h = absurd (omega arith)
ends_last d b (x ∷ []) h = refl
ends_last d b (x ∷ (y ∷ l)) h = ends_last x b (y ∷ l) (omega arith)

last_whole : (d : ℕ) (l : List ℕ) → last_in d (l ++ (0x0a ∷ [])) ≡ 0x0a
unfolding last_in
last_whole d l = last_append d l (0x0a ∷ [])

module _ (mark width : ℕ) (wide : 16 ≤ width) where
  last_line : (d : ℕ) (l : List ℕ) → last_in d (cut_line mark width l) ≡ 0x0a
  last_line d l =
      by_cuts_of_line mark width wide (λ room l out. (d : ℕ) → last_in d out ≡ 0x0a) (λ room l e d. last_whole d l)
      (λ room l out r e h d. last_append d (take (room - 1) l) (cut_bytes mark ++ out) ∙ (last_append _ (cut_bytes mark) out ∙ h _)) l d

  -- ## A line is longer with its end

  line_longer : (l : List ℕ) → length l < length (cut_line mark width l)
  line_longer =
      by_cuts_of_line mark width wide (λ room l out. length l < length out) (λ room l e. omega (arith, length-append l (0x0a ∷ [])))
      (λ room l out r e h. omega (arith, length-append (take (room - 1) l) (cut_bytes mark ++ out), length-take (room - 1) l, length-drop (room - 1) l))

-- ## A line put, and then ended

module _ (mark width : ℕ) (line : List ℕ) (before put : Put) (e entry : List ℕ) (p : Puts line before e entry put) where
  -- what its last part has room for, by the last byte that was put
  pub last_room_of : 1 ≤ length line → last_room mark width line ≡ choose (eqb put.last mark) 0 width
  last_room_of some = room_by mark width line (eqb put.last mark) (rw p.last (ends_last before.last mark line some))

  -- its bytes are more than are counted
  pub ended_above : 16 ≤ width → 4294967295 ≤ put.count → Puts (cut_line mark width line) before e entry (record { count = 4294967295; last = 0x0a })
  ended_above wide h = record {
    count = omega (arith, p.count, line_longer mark width wide line);
    last = sym (last_line mark width wide before.last line);
    room = p.room;
    bytes = λ a b. absurd (omega (arith, p.count, line_longer mark width wide line));
  }

  pub ended_whole : (exit : List ℕ) (r : Put) → 16 ≤ width → length line ≤ last_room mark width line → Puts (0x0a ∷ []) put entry exit r → Puts (cut_line mark width line) before e exit r
  unfolding choose
  ended_whole exit r wide h q = rw (line_whole_or_cut mark width wide line, goes_whole_lem mark width line h) (then line (0x0a ∷ []) before put r e entry exit p q)

  pub ended_cut : (exit : List ℕ) (r : Put) → 16 ≤ width → last_room mark width line < length line → Puts (cut_rest mark width (width - 1) line) before e exit r → Puts (cut_line mark width line) before e exit r
  unfolding choose
  ended_cut exit r wide h q = rw (line_whole_or_cut mark width wide line, goes_cut mark width line h) q

  module _ (start count last : ℕ) (r : Put) (at : before.count ≡ start) (some : 1 ≤ length line) (low : put.count < 4294967295)
      (cuts : CutsCounted width (put.count - start) (eqb put.last mark) count last)
      (counted : r.count ≡ min 4294967295 (put.count + (7 * count + 1))) (end : r.last ≡ 0x0a) where
    behind : put.count ≡ start + length line
    behind = omega (arith, p.count)

    cut : cut_rest mark width (width - 1) line ≡ with_cuts mark (width - 6) count last line (0x0a ∷ [])
    cut = cuts.cut mark line (omega (arith, behind)) (rw p.last (ends_last before.last mark line some))

    rest_last : (d : ℕ) → last_in d (cut_rest mark width (width - 1) line) ≡ 0x0a
    rest_last d = rw (cut, cuts_append mark (width - 6) count last line [] (0x0a ∷ [])) (last_whole d (with_cuts mark (width - 6) count last line []))

    rest_size : start + length (cut_rest mark width (width - 1) line) ≡ put.count + 7 * count + 1
    rest_size = rw cut (omega (arith, behind, cuts_length mark (width - 6) count last line (0x0a ∷ [])))

    -- there is no room for its cuts
    pub cut_none : length entry ≤ put.count + 7 * count → Puts (cut_rest mark width (width - 1) line) before e entry r
    cut_none h = record {
      count = omega (arith, rest_size);
      last = end ∙ sym (rest_last before.last);
      room = p.room;
      bytes = λ a b. absurd (omega (arith, rest_size, p.room));
    }

    -- it is cut once the end of its last part stands
    line_cut : put.count + 7 * count < length entry → between start put.count entry ≡ line
        → cut_room mark (width - 6) start put.count count last (set entry (put.count + 7 * count) 0x0a) ≡ sets entry start (cut_rest mark width (width - 1) line)
    line_cut room there =
        let n : ℕ = put.count in
        let to : ℕ = n + 7 * count in
        let a : take start (set entry to 0x0a) ≡ take start entry = take-set-le start entry to 0x0a (omega (arith, behind)) in
        let b : between start n (set entry to 0x0a) ≡ line = between_same start n (set entry to 0x0a) entry (take-set-le n entry to 0x0a (omega arith)) ∙ there in
        let d : drop to (set entry to 0x0a) ≡ (0x0a ∷ []) ++ drop (to + 1) entry = drop_run entry to (0x0a ∷ []) (omega arith) in
        rw (a, b, d, cuts_append mark (width - 6) count last line (0x0a ∷ []) (drop (to + 1) entry), ← cut, sets-eq (cut_rest mark width (width - 1) line) entry start (omega (arith, rest_size)), rest_size)
        (sym (append_assoc (take start entry) (cut_rest mark width (width - 1) line) (drop (to + 1) entry)))

    pub cut_stands : (exit : List ℕ) → length exit ≡ length entry → put.count + 7 * count < length entry
        → exit ≡ cut_room mark (width - 6) start put.count count last (set entry (put.count + 7 * count) 0x0a)
        → Puts (cut_rest mark width (width - 1) line) before e exit r
    cut_stands exit same room made = record {
      count = omega (arith, rest_size);
      last = end ∙ sym (rest_last before.last);
      room = same ∙ p.room;
      bytes = λ h f.
          let rest : List ℕ = cut_rest mark width (width - 1) line in
          let stands : entry ≡ sets e start line = rw at at (p.bytes (omega (arith, rest_size, behind)) f) in
          let size : put.count - start ≡ length line = omega (arith, behind) in
          let there : between start put.count entry ≡ line =
          rw (size, stands, drop_run e start line (omega (arith, rest_size, behind))) (take_at line (drop (start + length line) e) (length line) refl) in
          made ∙ line_cut room there ∙ rw (at, stands) (sets_over line rest e start (omega (arith, rest_size, behind)) (omega arith));
    }
