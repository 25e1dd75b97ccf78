-- Lines behind which one has a reason, or which have not come to the end, are the beginning of none that are right. Assumes nothing.
use Prim.Native.Nat.{ℕ, ◌+◌}
use native.Mathlib.Omega.{arith}
use mathlib.Core.Path.{◌≡◌, refl, sym, ap, ◌∙◌}
use mathlib.Core.List.{List, ◌∷◌, ◌++◌}
use lib.ListN.{length}
use Rattle.meaning.specs.Unfold.{unfolded_text}
use Rattle.meaning.specs.Model.{Model}
use Rattle.meaning.specs.Check.{GoodModel}
use Rattle.meaning.specs.Reading.{nothing, is_complete, State, start_of, Rooms}
use Rattle.meaning.specs.Lines.{ran}
use Rattle.meaning.specs.Right.{DeliveredTopic, objects_of_topics, with_starts, table_of}
use Rattle.meaning.specs.Reasons.{Place, end, Reason, Reached}
use Rattle.meaning.specs.RightClaims.{ComeTo, line_behind}
use Rattle.meaning.specs.ViableClaims.{RightAside}
use Rattle.meaning.proofs.Tests.Unequal.{no_ran}
use Rattle.meaning.proofs.Right.Steps.{RanTo}
use Rattle.meaning.proofs.Right.Content.{content_of}
use Rattle.meaning.proofs.Right.Objects.{lines_stand}
use Rattle.meaning.proofs.Right.Table.{lines_read, room_for}
use Rattle.meaning.proofs.Right.Runs.{passed_then}
use Rattle.meaning.proofs.Right.Behind.{before_stand, at_end_lem, come_run, reason_refuses}

module _ (m : Model) (used : List (List ℕ)) (cells points : ℕ) where
  -- room for what some lines deliver, and for what others do
  abbrev rooms_for : List DeliveredTopic → Rooms
  rooms_for ds = record {
    text = 0;
    marks = 0;
    rows = length used + length (table_of m ds).rows;
    cells = cells + length (table_of m ds).cells;
    points = points + length (table_of m ds).points;
  }

  come : (before : List (List ℕ)) (x : Place) (ds : List DeliveredTopic) → Reached m (with_starts 0 before) x used cells points → ComeTo m (rooms_for ds) before x used cells points
  come before x ds r = record { reached = r; room = record { for_rows = omega arith; for_cells = omega arith; for_points = omega arith } }

  -- lines that are right are read to their end
  read_all : GoodModel m → (ls : List (List ℕ)) (a : RightAside m ls)
      → RanTo m (rooms_for a.delivered) (unfolded_text ls) (start_of m) ls nothing (content_of (table_of m a.delivered).marks (objects_of_topics a.delivered))
  read_all good ls a =
      let ds : List DeliveredTopic = a.delivered in
      lines_read m good (rooms_for ds) ls ds a.file a.unique (room_for m (rooms_for ds) ds (omega arith) (omega arith) (omega arith))

module _ (m : Model) (good : GoodModel m) {x : Place} {used : List (List ℕ)} {cells points : ℕ} where
  pub refused_lost : (before : List (List ℕ)) (l : List ℕ) {n k : ℕ} → Reached m (with_starts 0 before) x used cells points → Reason m used x (line_behind before l) n k
      → (others : List (List ℕ)) → RightAside m (before ++ (l ∷ others)) → ⊥
  refused_lost before l {n} {k} r why others a =
      let rooms : Rooms = rooms_for m used cells points a.delivered in
      let own : List ℕ = unfolded_text (before ++ (l ∷ others)) in
      let stand = before_stand before (l ∷ others) in
      let c = come m used cells points before x a.delivered r in
      let to = come_run m rooms own before stand good c in
      let stops = passed_then m rooms own before others l (start_of m) to.state n k to.runs (reason_refuses m rooms own before stand good c to l n k why) in
      let all = read_all m used cells points good (before ++ (l ∷ others)) a in
      no_ran n _ k all.final (sym stops ∙ all.runs)

  pub missing_lost : (ls : List (List ℕ)) → Reached m (with_starts 0 ls) x used cells points → (x ≡ end → ⊥) → RightAside m ls → ⊥
  unfolding is_complete
  missing_lost ls r other a =
      let own : List ℕ = unfolded_text ls in
      let to = come_run m (rooms_for m used cells points a.delivered) own ls (lines_stand own 0 ls refl) good (come m used cells points ls x a.delivered r) in
      let all = read_all m used cells points good ls a in
      let same : ran to.state ≡ ran all.final = sym to.runs ∙ all.runs in
      let there : to.state ≡ all.final = cc in
      other (at_end_lem to.stands.at (ap is_complete (ap (λ (s : State). s.due) there ∙ all.due)))
