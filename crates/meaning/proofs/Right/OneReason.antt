-- A line has one reason or none, since its step is one: at some place that is due and in some content with these identifications. Assumes nothing.
use Prim.Native.Nat.{ℕ, ◌+◌}
use native.Mathlib.Omega.{arith}
use mathlib.Core.Path.{◌≡◌, refl, sym, ap, ◌∙◌}
use mathlib.Core.List.{List, [], ◌∷◌}
use lib.ListN.{length, take, drop}
use lib.Seq.{take_at}
use Rattle.meaning.specs.Unfold.{unfolded_text}
use Rattle.meaning.specs.Model.{Model}
use Rattle.meaning.specs.Check.{GoodModel}
use Rattle.meaning.specs.Reading.{Due, opening, description, transfer, model_name, topic_from, table_from, object_of, line_of, closing, nothing, Content, Rooms}
use Rattle.meaning.specs.Lines.{no}
use Rattle.meaning.specs.Right.{Delivered, Line, names_of}
use Rattle.meaning.specs.Reasons.{Place, in_description, before_transfer, before_model, topics_from, tables_from, objects_in, line_in, before_end, Gain, Follows, Reason, used_with, cells_with, points_with}
use Rattle.meaning.specs.RightClaims.{ReasonsAlike}
use Rattle.meaning.proofs.Tests.Unequal.{no_go}
use Rattle.meaning.proofs.Reading.Stretches.{text_behind}
use Rattle.meaning.proofs.Right.Steps.{step_at}
use Rattle.meaning.proofs.Right.Places.{At, at_start, at_description, at_transfer, at_model, at_topics, at_tables, at_objects, at_line, at_closing, at_nothing, identifications_in, UsedIn, Goes, on, stops}
use Rattle.meaning.proofs.Right.Content.{content_of, AllNamesStand, objects_names}
use Rattle.meaning.proofs.Right.LineSteps.{underway}
use Rattle.meaning.proofs.Right.Reasoned.{reasoned}
use Rattle.meaning.proofs.Right.Followed.{followed}

-- ## Some content with these identifications

-- objects with these identifications and no attributes, in the text of the identifications as lines
unfoldable objects_with : (start : ℕ) → List (List ℕ) → List Delivered
objects_with start [] = []
objects_with start (i ∷ used) = record { table = 0; identification = record { start = start; bytes = i }; entries = [] } ∷ objects_with (start + length i + 1) used

names_stand : (own : List ℕ) (start : ℕ) (used : List (List ℕ)) → drop start own ≡ unfolded_text used → AllNamesStand own (objects_with start used)
unfolding objects_with unfolded_text
names_stand own start [] e = tt
names_stand own start (i ∷ used) e = (ap (take (length i)) e ∙ take_at i (0x0a ∷ unfolded_text used) (length i) refl, names_stand own (start + length i + 1) used (text_behind own start i used e))

names_are : (start : ℕ) (used : List (List ℕ)) → identifications_in (names_of (objects_with start used)) ≡ used
unfolding objects_with names_of identifications_in
names_are start [] = refl
names_are start (i ∷ used) = ap (λ (is : List (List ℕ)). i ∷ is) (names_are (start + length i + 1) used)

module _ (used : List (List ℕ)) where
  abbrev text_with : List ℕ
  text_with = unfolded_text used

  abbrev content_with : Content
  content_with = content_of [] (objects_with 0 used)

  uses : UsedIn text_with content_with used
  uses = ap identifications_in (objects_names text_with [] (objects_with 0 used) (names_stand text_with 0 used refl)) ∙ names_are 0 used

-- ## What is due at a place

record DueAt (x : Place) : Type 0 where
  due : Due
  at : At due x

due_at_lem : (x : Place) → DueAt x
due_at_lem Place.start = record { due = opening; at = at_start }
due_at_lem in_description = record { due = description; at = at_description }
due_at_lem before_transfer = record { due = transfer; at = at_transfer }
due_at_lem before_model = record { due = model_name; at = at_model }
due_at_lem (topics_from p) = record { due = topic_from p; at = at_topics }
due_at_lem (tables_from p t) = record { due = table_from p t; at = at_tables }
due_at_lem (objects_in t) = record { due = object_of t; at = at_objects }
due_at_lem (line_in t s o forms cs ps) = record { due = line_of (underway t s 0 0 o forms cs 0 ps); at = at_line (underway t s 0 0 o forms cs 0 ps) 0 ps refl }
due_at_lem before_end = record { due = closing; at = at_closing }
due_at_lem Place.end = record { due = nothing; at = at_nothing }

-- ## One reason

-- rooms that are used up by what is added
abbrev rooms_with : (used : List (List ℕ)) → Gain → Rooms
rooms_with used g = record {
  text = 0;
  marks = 0;
  rows = length (used_with g used);
  cells = cells_with g (length (content_with used).cells);
  points = points_with g (length (content_with used).points);
}

module _ (m : Model) (used : List (List ℕ)) (x : Place) (l : Line) (good : GoodModel m) where
  refuses : (rooms : Rooms) (n k : ℕ) → Reason m used x l n k → step_at m rooms (text_with used) (due_at_lem x).due (content_with used) l ≡ no n k
  refuses rooms n k r = reasoned m rooms (text_with used) used (due_at_lem x).due (content_with used) x l good (due_at_lem x).at (uses used) n k r

  goes : (rooms : Rooms) (y : Place) (g : Gain) → Follows m used x l y g → Goes m rooms (text_with used) used (due_at_lem x).due (content_with used) x l y g
  goes rooms y g f = followed m rooms (text_with used) used (due_at_lem x).due (content_with used) x l good (due_at_lem x).at (uses used) y g f

  alike : (n k n' k' : ℕ) → no n k ≡ no n' k' → (n ≡ n') × (k ≡ k')
  alike n k n' k' e = (cc, cc)

  not_both : (y : Place) (g : Gain) (n k : ℕ) → Goes m (rooms_with used g) (text_with used) used (due_at_lem x).due (content_with used) x l y g → Reason m used x l n k → ⊥
  not_both y g n k (on d b e at effect) r = no_go n k d b (sym (refuses (rooms_with used g) n k r) ∙ e)
  not_both y g n k (stops e full) r = full (record { for_rows = omega arith; for_cells = omega arith; for_points = omega arith })

pub reasons_alike : ReasonsAlike
reasons_alike m used x l good = record {
  alike = λ n k n' k' r s. alike m used x l good n k n' k' (sym (refuses m used x l good (rooms_with used Gain.nothing) n k r) ∙ refuses m used x l good (rooms_with used Gain.nothing) n' k' s);
  none = λ y g n k f r. not_both m used x l good y g n k (goes m used x l good (rooms_with used g) y g f) r;
}
