-- Where lines have come to: they are read, with room, exactly where each may follow the ones before it. Assumes nothing.
use Prim.Native.Nat.{ℕ}
use native.Mathlib.Omega.{arith}
use mathlib.Core.Path.{◌≡◌, refl, sym, ◌∙◌}
use mathlib.Core.List.{List, [], ◌∷◌, ◌++◌, append_assoc, append-nil}
use lib.ListN.{length, length-append}
use Rattle.meaning.specs.Model.{Model}
use Rattle.meaning.specs.Check.{GoodModel}
use Rattle.meaning.specs.Field.{fields_of}
use Rattle.meaning.specs.Reading.{Due, opening, Content, nothing_read, Rooms, objects_of}
use Rattle.meaning.specs.Lines.{go}
use Rattle.meaning.specs.Right.{Line}
use Rattle.meaning.specs.Reasons.{Place, start, Gain, nothing, object, point, Follows, used_with, cells_with, points_with, Reached, Within}
use Rattle.meaning.specs.Reasons as reasons
use Rattle.meaning.proofs.Reading.Stretches.{AllStand}
use Rattle.meaning.proofs.Reading.PointsRead.{told_of}
use Rattle.meaning.proofs.Right.Steps.{step_at, steps, step_on, steps_on, first_of}
use Rattle.meaning.proofs.Right.Places.{At, at_start, identifications_in, UsedIn, Effect, Goes, on, stops}
use Rattle.meaning.proofs.Right.Objects.{LinesStand, stand_left, stand_right}
use Rattle.meaning.proofs.Right.StepLines.{went}
use Rattle.meaning.proofs.Right.Followed.{followed}
use Rattle.meaning.proofs.Right.Kept.{Kept, kept_step, used_on, cells_on, points_on}

-- there is room for what was there before
room_before : (rooms : Rooms) (g : Gain) (used : List (List ℕ)) (cells points : ℕ) → Within rooms (used_with g used) (cells_with g cells) (points_with g points) → Within rooms used cells points
unfolding used_with cells_with points_with
room_before rooms nothing used cells points r = r
room_before rooms (object i n) used cells points r =
    record { for_rows = omega (arith, length-append used (i ∷ []), r.for_rows); for_cells = omega (arith, r.for_cells); for_points = r.for_points }
room_before rooms point used cells points r = record { for_rows = r.for_rows; for_cells = r.for_cells; for_points = omega (arith, r.for_points) }

module _ (m : Model) (rooms : Rooms) (own : List ℕ) where
  -- what is due and the table so far are those of a place
  pub record StandsAt (x : Place) (used : List (List ℕ)) (due : Due) (c : Content) : Type 0 where
    pub at : At due x
    pub names : UsedIn own c used
    pub kept : Kept due c

  none_stand : StandsAt start [] opening (nothing_read m)
  unfolding nothing_read objects_of identifications_in
  none_stand = record { at = at_start; names = refl; kept = record { cell = 0; rows = tt; within = omega arith; lines = tt } }

  stand_on : {x y : Place} {used : List (List ℕ)} {due d : Due} {c b : Content} {l : Line} {g : Gain} → StandsAt x used due c → AllStand own (fields_of l.start l.bytes) → step_at m rooms own due c l ≡ go d b
      → Follows m used x l y g → At d y → Effect g c b → StandsAt y (used_with g used) d b
  stand_on {used = used} {due = due} {d = d} {c = c} {b = b} {l = l} s stand e f at effect =
      let k = kept_step m rooms own c l due d b s.kept stand e in
      record { at = at; names = used_on m own used f effect k.named s.names; kept = k.kept }

  -- ## Lines that were read

  -- some lines have come to a place, with room
  pub record Come (ls : List Line) (due : Due) (c : Content) : Type 0 where
    pub place : Place
    pub used : List (List ℕ)
    pub reached : Reached m ls place used (length c.cells) (length c.points)
    pub room : Within rooms used (length c.cells) (length c.points)
    pub stands : StandsAt place used due c

  come_none : Come [] opening (nothing_read m)
  unfolding nothing_read
  come_none = record { place = start; used = []; reached = reasons.Reached.none; room = record { for_rows = omega arith; for_cells = omega arith; for_points = omega arith }; stands = none_stand }

  -- one line more
  come_on : {ls : List Line} {due d : Due} {c b : Content} (l : Line) → Come ls due c → AllStand own (fields_of l.start l.bytes) → step_at m rooms own due c l ≡ go d b → Come (ls ++ (l ∷ [])) d b
  come_on {ls = ls} {due = due} {d = d} {c = c} {b = b} l k stand e =
      let s = k.stands in
      let w = went m rooms own k.used due c k.place l s.at s.names k.room d b e in
      let cells = sym (cells_on w.effect) in
      let points = sym (points_on w.effect) in
      record {
        place = w.place;
        used = used_with w.gain k.used;
        reached = rw (cells, points) at (reasons.Reached.more k.reached w.follows);
        room = rw (cells, points) at w.room;
        stands = stand_on s stand e w.follows w.at w.effect;
      }

  come_all : (done : List Line) (due : Due) (c : Content) → Come done due c → (ls : List Line) → LinesStand own ls → (d : Due) (b : Content) → steps m rooms own due c ls ≡ go d b → Come (done ++ ls) d b
  unfolding steps
  come_all done due c k [] h d b e = rw (append-nil done) (told_of (Come done) due d c b e k)
  come_all done due c k (l ∷ ls) h d b e =
      let f = first_of m rooms own due d c b l ls e in
      let r = come_all (done ++ (l ∷ [])) f.due' f.content (come_on l k h.0 f.goes) ls h.1 d b f.others in
      rw (append_assoc done (l ∷ []) ls) at r

  pub lines_come : (ls : List Line) → LinesStand own ls → (d : Due) (b : Content) → steps m rooms own opening (nothing_read m) ls ≡ go d b → Come ls d b
  lines_come ls h d b e = come_all [] opening (nothing_read m) come_none ls h d b e

  -- ## Lines that may follow one another

  -- some lines lead to what stands at a place
  pub record LeadTo (ls : List Line) (x : Place) (used : List (List ℕ)) (cells points : ℕ) : Type 0 where
    pub due : Due
    pub content : Content
    pub goes : steps m rooms own opening (nothing_read m) ls ≡ go due content
    pub stands : StandsAt x used due content
    pub cell_count : length content.cells ≡ cells
    pub point_cells : length content.points ≡ points

  lead_on : {ls : List Line} {x y : Place} {used : List (List ℕ)} {cells points : ℕ} {g : Gain} (l : Line) → GoodModel m → LeadTo ls x used cells points → AllStand own (fields_of l.start l.bytes) → Follows m used x l y g
      → Within rooms (used_with g used) (cells_with g cells) (points_with g points) → LeadTo (ls ++ (l ∷ [])) y (used_with g used) (cells_with g cells) (points_with g points)
  unfolding steps
  lead_on {ls = ls} {x = x} {y = y} {used = used} {cells = cells} {points = points} {g = g} l good k stand f room =
      by (followed m rooms own used k.due k.content x l good k.stands.at k.stands.names y g f)
    where
      by : Goes m rooms own used k.due k.content x l y g → LeadTo (ls ++ (l ∷ [])) y (used_with g used) (cells_with g cells) (points_with g points)
      by (stops e full) = absurd (full (rw (k.cell_count, k.point_cells) room))
      by (on d b e at effect) = record {
        due = d;
        content = b;
        goes = steps_on m rooms own ls opening k.due (nothing_read m) k.content (l ∷ []) (go d b) k.goes (step_on m rooms own k.due d k.content b l [] (go d b) e refl);
        stands = stand_on k.stands stand e f at effect;
        cell_count = cells_on effect ∙ rw k.cell_count;
        point_cells = points_on effect ∙ rw k.point_cells;
      }

  pub reached_lead : GoodModel m → {ls : List Line} {x : Place} {used : List (List ℕ)} {cells points : ℕ} → Reached m ls x used cells points → LinesStand own ls → Within rooms used cells points → LeadTo ls x used cells points
  unfolding steps nothing_read
  reached_lead good reasons.Reached.none h room = record { due = opening; content = nothing_read m; goes = refl; stands = none_stand; cell_count = refl; point_cells = refl }
  reached_lead good (reasons.Reached.more {ls = ls} {l = l} {used = used} {cells = cells} {points = points} {g = g} r f) h room =
      lead_on l good (reached_lead good r (stand_left own ls (l ∷ []) h) (room_before rooms g used cells points room)) (stand_right own ls (l ∷ []) h).0 f room
