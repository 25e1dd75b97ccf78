-- Reading, by what unfolding answers. Assumes nothing.
use Prim.Native.Nat.{ℕ, ◌+◌, ◌≤◌}
use mathlib.Core.Path.{◌≡◌, refl, sym, ap, subst, ◌∙◌}
use mathlib.Core.Bool.{Bool, true, false}
use mathlib.Core.List.{List}
use native.Mathlib.Omega.{arith}
use lib.Dec.{ltb}
use lib.IntN.{ℤ}
use lib.ListN.{length, take}
use lib.Seq.{take_at}
use borrow.Author.Tests.{le-ltb, ltb-false}
use Rattle.meaning.specs.Bytes.{refuse}
use Rattle.meaning.specs.Unfold.{Unfolded, lines, fault, unfold_file, unfolded_text}
use Rattle.meaning.specs.Cut.{Mark, Permitted}
use Rattle.meaning.specs.Answer.{accepted, refusal, filled, text_unfolded}
use Rattle.meaning.specs.Model.{Model}
use Rattle.meaning.specs.Reading.{start_of, Rooms}
use Rattle.meaning.specs.Lines.{read_lines}
use Rattle.meaning.specs.Table.{Result, refused_with, read_run, read_text, read_unfolded}
use Rattle.meaning.proofs.Unfolding.Cuts.{unfolds_cut}
use Rattle.read_text.specs.Text.{lines_of}
use Rattle.std.proofs.Common.{Ok, Err}
use Rattle.read_text.specs.Outcomes as reader
use Rattle.read_text.specs.Outcomes.{MarksRead, ReadInto}
use Rattle.read_text.proofs.TextLines.{lines_back}

module _ (m : Model) (rooms : Rooms) where
  -- 3 to 6
  pub refused_read : (u : Unfolded) (number line : ℕ) → refusal number line 0 ≡ (text_unfolded rooms.text u).answer → read_unfolded m rooms u ≡ refused_with rooms number line 0
  unfolding text_unfolded read_unfolded read_text refuse
  refused_read (fault k n) number line e = let a : k ≡ number = cc in let b : n ≡ line = cc in rw (a, b)
  refused_read (lines ls) number line e = go (ltb rooms.text (length (unfolded_text ls))) refl
    where
      go : (t : Bool) → ltb rooms.text (length (unfolded_text ls)) ≡ t → read_text m rooms ls ≡ refused_with rooms number line 0
      go true q =
          let g : refusal 6 0 0 ≡ refusal number line 0 = sym (rw q at e) in
          let a : 6 ≡ number = cc in
          let b : 0 ≡ line = cc in
          rw (q, a, b)
      go false q = let g : refusal number line 0 ≡ accepted (length (unfolded_text ls)) 0 0 = rw q at e in let z : ◌≡◌ {A = ℕ} 0 1 = cc in absurd (omega arith)

-- the unfolded text stands in the room
pub record Stands (size : ℕ) (u : Unfolded) (used : ℕ) (room : List ℕ) : Type 0 where
  pub logical : List (List ℕ)
  pub is : u ≡ lines logical
  pub used_is : used ≡ length (unfolded_text logical)
  pub fits : length (unfolded_text logical) ≤ size
  pub room_is : room ≡ filled 0 size (unfolded_text logical)

pub stands : (size : ℕ) (u : Unfolded) (used : ℕ) (room : List ℕ) → accepted used 0 0 ≡ (text_unfolded size u).answer → room ≡ (text_unfolded size u).text → Stands size u used room
unfolding text_unfolded refuse
stands size (fault k n) used room e r = let z : ◌≡◌ {A = ℕ} 0 1 = cc in absurd (omega arith)
stands size (lines ls) used room e r = go (ltb size (length (unfolded_text ls))) refl
  where
    go : (t : Bool) → ltb size (length (unfolded_text ls)) ≡ t → Stands size (lines ls) used room
    go true q = let g : accepted used 0 0 ≡ refusal 6 0 0 = rw q at e in let z : ◌≡◌ {A = ℕ} 0 1 = cc in absurd (omega arith)
    go false q =
        let g : accepted used 0 0 ≡ accepted (length (unfolded_text ls)) 0 0 = rw q at e in
        record { logical = ls; is = refl; used_is = cc; fits = ltb-false size (length (unfolded_text ls)) q; room_is = rw q at r }

pub stands_in : (size : ℕ) (u : Unfolded) (used : ℕ) → accepted used 0 0 ≡ (text_unfolded size u).answer → used ≤ size
stands_in size u used e = let s = stands size u used _ e refl in omega (arith, s.used_is, s.fits)

module _ (m : Model) (rooms : Rooms) where
  -- the text's own lines are those that were unfolded
  text_result : (ls : List (List ℕ)) → Permitted ls → length (unfolded_text ls) ≤ rooms.text
      → refuse (ltb rooms.marks (length m.topics + length m.tables)) (refused_with rooms 6 0 0) (read_run m rooms (unfolded_text ls) (read_lines m rooms (unfolded_text ls) (start_of m) (lines_of (unfolded_text ls)))) ≡ read_text m rooms ls
  unfolding read_text
  text_result ls h f = rw (le-ltb rooms.text (length (unfolded_text ls)) f, lines_back ls h)

  unfinished : (q : Result) (used room marks rows : List ℕ) (cells points : List ℤ) (a : reader.Answer) → room ≡ filled 0 rooms.text used → MarksRead q rooms used marks rows cells points a → ReadInto q rooms room marks rows cells points a
  unfinished q used room marks rows cells points (Ok u) e h = record { used = used; is = h; text_is = e }
  unfinished q used room marks rows cells points (Err f) e h = h

  -- the exact text stands before the zeros behind it
  pub text_read : Mark m.mark → (file : List ℕ) (used : ℕ) (room marks rows : List ℕ) (cells points : List ℤ) (a : reader.Answer) → Stands rooms.text (unfold_file m.mark file) used room
      → MarksRead (refuse (ltb rooms.marks (length m.topics + length m.tables)) (refused_with rooms 6 0 0) (read_run m rooms (take used room) (read_lines m rooms (take used room) (start_of m) (lines_of (take used room))))) rooms (take used room) marks rows cells points a
      → ReadInto (read_unfolded m rooms (unfold_file m.mark file)) rooms room marks rows cells points a
  unfolding read_unfolded
  text_read k file used room marks rows cells points a s h =
      let ls = s.logical in
      let text : take used room ≡ unfolded_text ls = ap (take used) s.room_is ∙ take_at (unfolded_text ls) _ used (sym s.used_is) in
      let read : read_unfolded m rooms (unfold_file m.mark file) ≡ read_text m rooms ls = ap (read_unfolded m rooms) s.is in
      let fine : Permitted ls = (unfolds_cut m.mark k ls file s.is).1 in
      let now : MarksRead (read_text m rooms ls) rooms (unfolded_text ls) marks rows cells points a =
      subst (λ (q : Result). MarksRead q rooms (unfolded_text ls) marks rows cells points a) (text_result ls fine s.fits)
      (subst (λ (t : List ℕ). MarksRead (refuse (ltb rooms.marks (length m.topics + length m.tables)) (refused_with rooms 6 0 0) (read_run m rooms t (read_lines m rooms t (start_of m) (lines_of t)))) rooms t marks rows cells points a) text h) in
      unfinished (read_unfolded m rooms (unfold_file m.mark file)) (unfolded_text ls) room marks rows cells points a s.room_is
      (subst (λ (q : Result). MarksRead q rooms (unfolded_text ls) marks rows cells points a) (sym read) now)
