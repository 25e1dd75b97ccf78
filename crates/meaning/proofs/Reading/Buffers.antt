-- What reading leaves in the buffers: zeros where it refuses, and else the table, which fits its rooms, and zeros. Assumes nothing.
use Prim.Native.Nat.{ℕ, ◌+◌, ◌*◌, ◌-◌, ◌/◌, ◌≤◌, ◌<◌}
use native.Mathlib.Omega.{arith}
use mathlib.Core.Path.{◌≡◌, refl, ap, ◌∙◌}
use mathlib.Core.Bool.{Bool, false}
use mathlib.Core.List.{List, [], ◌∷◌, ◌++◌}
use lib.Dec.{leb, ltb}
use lib.IntN.{ℤ, pos}
use lib.ListN.{length, drop, replicate, length-append, length-take, length-set, length-replicate}
use lib.Seq.{drop-append_seam}
use borrow.Author.Tests.{ltb-false, leb-false}
use Rattle.meaning.specs.Bytes.{choose, refuse}
use Rattle.meaning.specs.Unfold.{Unfolded, lines, fault, unfolded_text}
use Rattle.meaning.specs.Model.{Found, found, missing, target_of, Table, Model}
use Rattle.meaning.specs.Check.{Checked, good, bad}
use Rattle.meaning.specs.Answer.{Answer, accepted, refusal, filled}
use Rattle.meaning.specs.Field.{Field, fields_of, field_at, more_than}
use Rattle.meaning.specs.Row.{Pair, OfAttribute, OfComponent, OfLine, Cells, cells, refused, point_cells}
use Rattle.meaning.specs.Reading.{Move, unexpected, undefined_line, ended, point, Underway, Due, opening, description, transfer, model_name, topic_from, table_from, object_of, line_of, closing, nothing, Content, State, nothing_read, start_of, with_mark, with_row, with_point, point_count, with_line, Rooms, find_topic, find_table, mandatory_between, Object}
use Rattle.meaning.specs.Lines.{Step, go, no, after_found, bare, named, opening_line, description_line, transfer_line, model_line, topic_line, topic_end, table_line, store_row, object_fields, behind_objects, object_line, store_point, attribute_line, closing_line, line_due, step_of, Run, ran, stopped, after_step, after_run, run, at_end, read_lines}
use Rattle.meaning.specs.Table.{Resolved, resolved, unresolved, after_resolved, put_reference, resolve_pair, resolve_pairs, resolve_rows, resolve, Result, refused_with, accepted_with, read_resolved, read_run, read_text, read_unfolded, read_checked, read}
use Rattle.meaning.specs.Claims.{Zeroed, Kept, UsedBy}
use Rattle.meaning.proofs.Tests.Refuse.{refuse_keeps, choose_keeps, neither}

-- "A point is four cells"
pub point_length : (kind : ℕ) (vs : List ℤ) → length (point_cells kind vs) ≡ 4
unfolding point_cells
point_length kind vs = simp (length-take, length-append) (omega arith)

-- ## The table fits its rooms, line by line

-- a table so far that fits the rooms, with a mark per topic and table and four cells per point
pub record Fits (m : Model) (rooms : Rooms) (c : Content) : Type 0 where
  pub marks : length c.marks ≡ length m.topics + length m.tables
  pub rows : length c.rows ≤ rooms.rows
  pub cells : length c.cells ≤ rooms.cells
  pub points : length c.points ≤ rooms.points
  pub fours : 4 * point_count c ≡ length c.points

module _ (m : Model) (rooms : Rooms) where
  -- what a line goes on with fits
  unfoldable Goes : Step → Type 0
  Goes (go due c) = Fits m rooms c
  Goes (no number field) = Unit {0}

  goes_refuse : (t : Bool) (number field : ℕ) (next : Step) → (t ≡ false → Goes next) → Goes (refuse t (no number field) next)
  unfolding Goes
  goes_refuse t number field next h = refuse_keeps Goes t (no number field) next tt h

  goes_choose : (t : Bool) (a b : Step) → Goes a → Goes b → Goes (choose t a b)
  goes_choose t a b h k = choose_keeps Goes t a b (λ _. h) (λ _. k)

  goes_found : (f : Found) (number field : ℕ) (next : ℕ → Step) → ((n : ℕ) → Goes (next n)) → Goes (after_found f (no number field) next)
  unfolding Goes
  goes_found (found n) number field next h = h n
  goes_found missing number field next h = tt

  goes_bare : (fs : List Field) (next : Step) → Goes next → Goes (bare fs next)
  unfolding bare
  goes_bare fs next h = goes_refuse _ _ _ _ (λ _. h)

  goes_named : (name : List ℕ) (fs : List Field) (next : Step) → Goes next → Goes (named name fs next)
  unfolding named
  goes_named name fs next h = goes_refuse _ _ _ _ (λ _. goes_refuse _ _ _ _ (λ _. goes_refuse _ _ _ _ (λ _. h)))

  goes_no : (number field : ℕ) → Goes (no number field)
  unfolding Goes
  goes_no number field = tt

  goes_on : (due : Due) (c : Content) → Fits m rooms c → Goes (go due c)
  unfolding Goes
  goes_on due c h = h

  -- ### What a line adds

  fits_mark : (n : ℕ) (c : Content) → Fits m rooms c → Fits m rooms (with_mark n c)
  fits_mark n c h = record { marks = length-set c.marks n 1 ∙ h.marks; rows = h.rows; cells = h.cells; points = h.points; fours = h.fours }

  fits_row : (row : List ℤ) (c : Content) → Fits m rooms c → length c.rows < rooms.rows → length c.cells + length row ≤ rooms.cells → Fits m rooms (with_row row c)
  fits_row row c h r k = record {
    marks = h.marks;
    rows = rw (length-append c.rows (length c.cells ∷ [])) (omega arith);
    cells = rw (length-append c.cells row) k;
    points = h.points;
    fours = h.fours;
  }

  fits_point : (four : List ℤ) (c : Content) → Fits m rooms c → length four ≡ 4 → length c.points + 4 ≤ rooms.points → Fits m rooms (with_point four c)
  fits_point four c h e k =
      let long : length (c.points ++ four) ≡ length c.points + 4 = length-append c.points four ∙ ap (λ (n : ℕ). length c.points + n) e in
      let fours : 4 * (length c.points / 4) ≡ length c.points = h.fours in
      record { marks = h.marks; rows = h.rows; cells = h.cells; points = rw long k; fours = rw long (omega arith) }

  fits_line : (w : Underway) (c : Content) → Fits m rooms c → Fits m rooms (with_line w c)
  unfolding with_line
  fits_line w c h = record { marks = h.marks; rows = h.rows; cells = simp length-set h.cells; points = h.points; fours = h.fours }

  module _ (text : List ℕ) where
    -- ### Each line

    row_fits : (t : ℕ) (i : Field) (c : Content) → Fits m rooms c → (k : Cells) → Goes (store_row m rooms text t i c k)
    unfolding store_row
    row_fits t i c h (refused number field) = goes_no _ _
    row_fits t i c h (cells pairs) =
        goes_refuse _ _ _ _ (λ e.
        let free = neither (leb rooms.rows (length c.rows)) _ e in
        goes_on _ _ (fits_row _ c h (leb-false rooms.rows (length c.rows) free.0) (ltb-false rooms.cells _ free.1)))

    point_fits : (kind : ℕ) (w : Underway) (c : Content) → Fits m rooms c → (k : Cells) → Goes (store_point m rooms text kind w c k)
    unfolding store_point
    point_fits kind w c h (refused number field) = goes_no _ _
    point_fits kind w c h (cells values) =
        goes_refuse _ _ _ _ (λ e. goes_on _ _ (fits_point _ c h (point_length kind values) (ltb-false rooms.points (length c.points + 4) e)))

    opening_fits : (fs : List Field) (c : Content) → Fits m rooms c → Goes (opening_line m rooms text fs c)
    unfolding opening_line
    opening_fits fs c h = goes_refuse _ _ _ _ (λ _. goes_bare fs _ (goes_on _ c h))

    description_fits : (l : List ℕ) (fs : List Field) (c : Content) → Fits m rooms c → Goes (description_line m rooms text l fs c)
    unfolding description_line
    description_fits l fs c h = goes_choose _ _ _ (goes_on _ c h) (goes_refuse _ _ _ _ (λ _. goes_bare fs _ (goes_on _ c h)))

    transfer_fits : (fs : List Field) (c : Content) → Fits m rooms c → Goes (transfer_line m rooms text fs c)
    unfolding transfer_line
    transfer_fits fs c h = goes_refuse _ _ _ _ (λ _. goes_refuse _ _ _ _ (λ _. goes_named _ fs _ (goes_on _ c h)))

    model_fits : (fs : List Field) (c : Content) → Fits m rooms c → Goes (model_line m rooms text fs c)
    unfolding model_line
    model_fits fs c h = goes_refuse _ _ _ _ (λ _. goes_named _ fs _ (goes_on _ c h))

    topic_fits : (from : ℕ) (fs : List Field) (c : Content) → Fits m rooms c → Goes (topic_line m rooms text from fs c)
    unfolding topic_line
    topic_fits from fs c h =
        goes_choose _ _ _
        (goes_bare fs _ (goes_on _ c h))
        (goes_refuse _ _ _ _ (λ _. goes_refuse _ _ _ _ (λ _.
        goes_found (find_topic from 0 (field_at 2 fs).bytes m.topics) 9 2
        (λ p. refuse (more_than 2 fs) (no 11 3) (go (table_from p 0) (with_mark p c)))
        (λ p. goes_refuse _ _ _ _ (λ _. goes_on _ _ (fits_mark p c h))))))

    topic_end_fits : (p from : ℕ) (fs : List Field) (c : Content) → Fits m rooms c → Goes (topic_end m rooms text p from fs c)
    unfolding topic_end
    topic_end_fits p from fs c h = goes_refuse _ _ _ _ (λ _. goes_bare fs _ (goes_on _ c h))

    table_fits : (p from : ℕ) (fs : List Field) (c : Content) → Fits m rooms c → Goes (table_line m rooms text p from fs c)
    unfolding table_line
    table_fits p from fs c h =
        goes_choose _ _ _
        (topic_end_fits p from fs c h)
        (goes_refuse _ _ _ _ (λ _. goes_refuse _ _ _ _ (λ _.
        goes_found (find_table p from 0 (field_at 2 fs).bytes m.tables) 9 2
        (λ t. refuse (mandatory_between p from t 0 m.tables) (no 10 2) (refuse (more_than 2 fs) (no 11 3) (go (object_of t) (with_mark (length m.topics + t) c))))
        (λ t. goes_refuse _ _ _ _ (λ _. goes_refuse _ _ _ _ (λ _. goes_on _ _ (fits_mark _ c h)))))))

    object_fits : (t : ℕ) (fs : List Field) (c : Content) → Fits m rooms c → Goes (object_line m rooms text t fs c)
    unfolding object_line object_fields behind_objects
    object_fits t fs c h =
        goes_choose _ _ _
        (goes_refuse _ _ _ _ (λ _. goes_refuse _ _ _ _ (λ _. goes_refuse _ _ _ _ (λ _. goes_refuse _ _ _ _ (λ _. row_fits t _ c h _)))))
        (goes_refuse _ _ _ _ (λ _. goes_bare fs _ (goes_on _ c h)))

    attribute_fits : (w : Underway) (fs : List Field) (c : Content) → Fits m rooms c → (v : Move) → Goes (attribute_line m rooms text w fs c v)
    unfolding attribute_line
    attribute_fits w fs c h unexpected = goes_no _ _
    attribute_fits w fs c h undefined_line = goes_refuse _ _ _ _ (λ _. goes_bare fs _ (goes_on _ c h))
    attribute_fits w fs c h ended = goes_bare fs _ (goes_on _ _ (fits_line w c h))
    attribute_fits w fs c h (point kind state) = goes_refuse _ _ _ _ (λ _. point_fits kind _ c h _)

    closing_fits : (fs : List Field) (c : Content) → Fits m rooms c → Goes (closing_line m rooms text fs c)
    unfolding closing_line
    closing_fits fs c h = goes_refuse _ _ _ _ (λ _. goes_bare fs _ (goes_on _ c h))

    line_fits : (due : Due) (l : List ℕ) (fs : List Field) (c : Content) → Fits m rooms c → Goes (line_due m rooms text due l fs c)
    unfolding line_due
    line_fits opening l fs c h = opening_fits fs c h
    line_fits description l fs c h = description_fits l fs c h
    line_fits transfer l fs c h = transfer_fits fs c h
    line_fits model_name l fs c h = model_fits fs c h
    line_fits (topic_from from) l fs c h = topic_fits from fs c h
    line_fits (table_from p from) l fs c h = table_fits p from fs c h
    line_fits (object_of t) l fs c h = object_fits t fs c h
    line_fits (line_of w) l fs c h = attribute_fits w fs c h _
    line_fits closing l fs c h = closing_fits fs c h
    line_fits nothing l fs c h = goes_no _ _

    -- ### The lines in order

    -- what is read behind some lines fits
    unfoldable pub Ran : Run → Type 0
    Ran (ran s) = Fits m rooms s.content
    Ran (stopped number line field) = Unit {0}

    ran_step : (o : Step) (l : List ℕ) (s : State) (next : State → Run) → Goes o → ((s' : State) → Fits m rooms s'.content → Ran (next s')) → Ran (after_step o l s next)
    unfolding Ran Goes
    ran_step (go due c) l s next h k = k _ h
    ran_step (no number field) l s next h k = tt

    ran_run : (r : Run) (next : State → Run) → Ran r → ((s : State) → Fits m rooms s.content → Ran (next s)) → Ran (after_run r next)
    unfolding Ran
    ran_run (ran s) next h k = k s h
    ran_run (stopped number line field) next h k = tt

    run_fits : (ls : List (List ℕ)) (s : State) → Fits m rooms s.content → Ran (run m rooms text s ls)
    unfolding run step_of Ran
    run_fits [] s h = h
    run_fits (l ∷ ls) s h = ran_step _ l s _ (line_fits s.due l (fields_of s.start l) s.content h) (λ s' k. run_fits ls s' k)

    end_fits : (s : State) → Fits m rooms s.content → Ran (at_end s)
    unfolding at_end Ran
    end_fits s h = refuse_keeps Ran _ _ _ tt (λ _. h)

    pub lines_fit : (ls : List (List ℕ)) → Ran (read_lines m rooms text (start_of m) ls)
    unfolding read_lines start_of nothing_read
    lines_fit ls =
        ran_run _ _
        (run_fits ls (start_of m) (record { marks = length-replicate (length m.topics + length m.tables) 0; rows = omega arith; cells = omega arith; points = omega arith; fours = refl }))
        (λ s h. end_fits s h)

-- ## References keep the count of cells

module _ (size : ℕ) where
  -- resolved cells are so many
  unfoldable pub Long : Resolved → Type 0
  Long (resolved cs) = length cs ≡ size
  Long (unresolved object field) = Unit {0}

  long_after : (r : Resolved) (next : List ℤ → Resolved) → Long r → ((cs : List ℤ) → length cs ≡ size → Long (next cs)) → Long (after_resolved r next)
  unfolding Long
  long_after (resolved cs) next h k = k cs h
  long_after (unresolved object field) next h k = tt

  reference_long : (object field cell : ℕ) (cs : List ℤ) → length cs ≡ size → (f : Found) → Long (put_reference object field cell cs f)
  unfolding put_reference Long
  reference_long object field cell cs h (found n) = simp length-set h
  reference_long object field cell cs h missing = tt

  module _ (text : List ℕ) (os : List Object) where
    pair_long : (object field cell : ℕ) (f : Found) (cs : List ℤ) → length cs ≡ size → Long (resolve_pair text os object field cell f cs)
    unfolding resolve_pair Long
    pair_long object field cell missing cs h = h
    pair_long object field cell (found t) cs h = choose_keeps Long _ _ _ (λ _. h) (λ _. reference_long object field cell cs h _)

    pairs_long : (object field cell : ℕ) (ps : List Pair) (cs : List ℤ) → length cs ≡ size → Long (resolve_pairs text os object field cell ps cs)
    unfolding resolve_pairs Long
    pairs_long object field cell [] cs h = h
    pairs_long object field cell (OfAttribute o type ∷ ps) cs h =
        long_after (resolve_pair text os object field cell (target_of type) cs) _ (pair_long object field cell (target_of type) cs h) (λ ds k. pairs_long object (field + 1) (cell + 2) ps ds k)
    pairs_long object field cell (OfComponent c ∷ ps) cs h = pairs_long object (field + 1) (cell + 2) ps cs h
    pairs_long object field cell (OfLine o forms ks ∷ ps) cs h = pairs_long object field (cell + 2) ps cs h

    rows_long : (ts : List Table) (object : ℕ) (rows : List ℕ) (cs : List ℤ) → length cs ≡ size → Long (resolve_rows text os ts object rows cs)
    unfolding resolve_rows Long
    rows_long ts object [] cs h = h
    rows_long ts object (row ∷ rows) cs h = long_after (resolve_pairs text os object 3 (row + 3) _ cs) _ (pairs_long object 3 (row + 3) _ cs h) (λ ds k. rows_long ts (object + 1) rows ds k)

pub resolve_long : (m : Model) (text : List ℕ) (c : Content) → Long (length c.cells) (resolve m text c)
unfolding resolve
resolve_long m text c = rows_long (length c.cells) text _ m.tables 0 c.rows c.cells refl

-- ## What is left in the buffers

-- by the answer
abbrev pub Leaves : Rooms → Result → Answer → Type 0
Leaves rooms r (refusal number first second) = Zeroed rooms r
Leaves rooms r (accepted objects count points) = UsedBy rooms objects count points r

pub record Left (rooms : Rooms) (r : Result) : Type 0 where
  pub kept : Kept rooms r
  pub leaves : Leaves rooms r r.answer

left_refused : (rooms : Rooms) (number first second : ℕ) → Left rooms (refused_with rooms number first second)
unfolding refused_with
left_refused rooms number first second = record {
  kept = record {
    text = length-replicate rooms.text 0;
    marks = length-replicate rooms.marks 0;
    rows = length-replicate rooms.rows 0;
    cells = length-replicate rooms.cells (pos 0);
    points = length-replicate rooms.points (pos 0);
  };
  leaves = record { text = refl; marks = refl; rows = refl; cells = refl; points = refl };
}

-- what fits a room fills it with zeros behind it
length_filled : {A : Type 0} (z : A) (room : ℕ) (xs : List A) → length xs ≤ room → length (filled z room xs) ≡ room
length_filled z room xs h = length-append xs _ ∙ (ap (λ (n : ℕ). length xs + n) (length-replicate (room - length xs) z) ∙ omega arith)

pub behind_filled : {A : Type 0} (z : A) (room : ℕ) (xs : List A) → drop (length xs) (filled z room xs) ≡ replicate (room - length xs) z
behind_filled z room xs = drop-append_seam xs _

left_accepted : (m : Model) (rooms : Rooms) (text : List ℕ) (c : Content) (cs : List ℤ) → length text ≤ rooms.text → length m.topics + length m.tables ≤ rooms.marks
    → Fits m rooms c → length cs ≡ length c.cells → Left rooms (accepted_with rooms text c cs)
unfolding accepted_with
left_accepted m rooms text c cs short marked h e =
    let k : length cs ≤ rooms.cells = rw e h.cells in
    let fours : 4 * (length c.points / 4) ≡ length c.points = h.fours in
    record {
      kept = record {
        text = length_filled 0 rooms.text text short;
        marks = length_filled 0 rooms.marks c.marks (rw h.marks marked);
        rows = length_filled 0 rooms.rows c.rows h.rows;
        cells = length_filled (pos 0) rooms.cells cs k;
        points = length_filled (pos 0) rooms.points c.points h.points;
      };
      leaves = record {
        rows_fit = h.rows;
        cells_fit = k;
        points_fit = rw fours h.points;
        rows = behind_filled 0 rooms.rows c.rows;
        cells = behind_filled (pos 0) rooms.cells cs;
        points = rw fours (behind_filled (pos 0) rooms.points c.points);
      };
    }

module _ (m : Model) (rooms : Rooms) where
  left_resolved : (text : List ℕ) (c : Content) → length text ≤ rooms.text → length m.topics + length m.tables ≤ rooms.marks → Fits m rooms c
      → (r : Resolved) → Long (length c.cells) r → Left rooms (read_resolved rooms text c r)
  unfolding read_resolved Long
  left_resolved text c short marked h (resolved cs) e = left_accepted m rooms text c cs short marked h e
  left_resolved text c short marked h (unresolved object field) e = left_refused rooms 17 object field

  left_run : (text : List ℕ) → length text ≤ rooms.text → length m.topics + length m.tables ≤ rooms.marks
      → (r : Run) → Ran m rooms text r → Left rooms (read_run m rooms text r)
  unfolding read_run Ran
  left_run text short marked (ran s) h = left_resolved text s.content short marked h _ (resolve_long m text s.content)
  left_run text short marked (stopped number line field) h = left_refused rooms number line field

  left_text : (ls : List (List ℕ)) → Left rooms (read_text m rooms ls)
  unfolding read_text
  left_text ls = refuse_keeps (Left rooms) _ _ _ (left_refused rooms 6 0 0) (λ e.
      let room = neither (ltb rooms.text (length (unfolded_text ls))) _ e in
      left_run (unfolded_text ls) (ltb-false rooms.text _ room.0) (ltb-false rooms.marks _ room.1) _ (lines_fit m rooms (unfolded_text ls) ls))

  left_unfolded : (u : Unfolded) → Left rooms (read_unfolded m rooms u)
  unfolding read_unfolded
  left_unfolded (fault number line) = left_refused rooms number line 0
  left_unfolded (lines ls) = left_text ls

left_checked : (file : List ℕ) (rooms : Rooms) (k : Checked) → Left rooms (read_checked file rooms k)
unfolding read_checked
left_checked file rooms (bad at) = left_refused rooms 2 at 0
left_checked file rooms (good m) = left_unfolded m rooms _

pub read_leaves : (model file : List ℕ) (rooms : Rooms) → Left rooms (read model file rooms)
unfolding read
read_leaves model file rooms = refuse_keeps (Left rooms) _ _ _ (left_refused rooms 1 0 0) (λ _. left_checked file rooms _)
