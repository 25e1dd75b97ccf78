-- The second number of an answer of reading is small. Assumes nothing.
use Prim.Native.Nat.{ℕ, ◌+◌, ◌≤◌}
use native.Mathlib.Omega.{arith}
use mathlib.Core.List.{List}
use lib.ListN.{length}
use borrow.Author.Tests.{ltb-false}
use Rattle.meaning.specs.Unfold.{Unfolded, lines, fault, unfolded_text}
use Rattle.meaning.specs.Model.{Model}
use Rattle.meaning.specs.Check.{Checked, good, bad, check_model}
use Rattle.meaning.specs.Reading.{Content, Rooms}
use Rattle.meaning.specs.Lines.{Run, ran, stopped}
use Rattle.meaning.specs.Table.{Resolved, resolved, unresolved, Result, refused_with, accepted_with, read_resolved, read_run, read_text, read_unfolded, read_checked, read}
use Rattle.meaning.proofs.Model.Bounds.{BadBelow, bad_below}
use Rattle.meaning.proofs.Tests.Refuse.{refuse_keeps}
use Rattle.meaning.specs.Answer.{first_of}
use Rattle.meaning.proofs.Reading.LineCounts.{Bounded, file_bounded}
use Rattle.meaning.proofs.Reading.RowCounts.{Ran, lines_few, Place, resolve_place}

-- the number of objects, or the first place number, is small
unfoldable pub Small : Result → Type 0
Small r = first_of r.answer ≤ 16777217

refused_small : (rooms : Rooms) (number first second : ℕ) → first ≤ 16777217 → Small (refused_with rooms number first second)
unfolding Small refused_with
refused_small rooms number first second h = h

module _ (m : Model) (rooms : Rooms) where
  resolved_small : (text : List ℕ) (c : Content) (r : Resolved) → length c.rows ≤ 16777217 → Place 16777217 r → Small (read_resolved rooms text c r)
  unfolding Small read_resolved refused_with accepted_with Place
  resolved_small text c (resolved cs) h p = h
  resolved_small text c (unresolved object field) h p = p

  run_small : (text : List ℕ) (r : Run) → Ran 16777217 r → Small (read_run m rooms text r)
  unfolding read_run Ran
  run_small text (ran s) h = resolved_small text s.content _ (omega arith) (resolve_place m text s.content 16777217 (omega arith))
  run_small text (stopped number line field) h = refused_small rooms number line field h

  ran_more : (last more : ℕ) (r : Run) → last ≤ more → Ran last r → Ran more r
  unfolding Ran
  ran_more last more (ran s) h g = (g.0, omega arith)
  ran_more last more (stopped number line field) h g = omega arith

  text_small : (ls : List (List ℕ)) → length ls ≤ 16777216 → Small (read_text m rooms ls)
  unfolding read_text
  text_small ls h =
      refuse_keeps Small _ _ _ (refused_small rooms 6 0 0 (omega arith)) (λ _.
      run_small (unfolded_text ls) _ (ran_more (1 + length ls) 16777217 _ (omega arith) (lines_few m rooms (unfolded_text ls) ls)))

  unfolded_small : (n : ℕ) (u : Unfolded) → n ≤ 16777216 → Bounded n (n + 1) u → Small (read_unfolded m rooms u)
  unfolding read_unfolded Bounded
  unfolded_small n (fault number line) h b = refused_small rooms number line 0 (omega arith)
  unfolded_small n (lines ls) h b = text_small ls (omega arith)

checked_small : (file : List ℕ) (rooms : Rooms) (c : Checked) → length file ≤ 16777216 → BadBelow 65536 c → Small (read_checked file rooms c)
unfolding read_checked
checked_small file rooms (bad at) h b = refused_small rooms 2 at 0 (omega arith)
checked_small file rooms (good m) h b = unfolded_small m rooms (length file) _ h (file_bounded m.mark file)

pub read_small : (b file : List ℕ) (rooms : Rooms) → first_of (read b file rooms).answer ≤ 16777217
unfolding read Small
read_small b file rooms =
    refuse_keeps Small _ _ _ (refused_small rooms 1 0 0 (omega arith)) (λ e.
    checked_small file rooms (check_model b) (ltb-false 16777216 (length file) e) (bad_below b))
