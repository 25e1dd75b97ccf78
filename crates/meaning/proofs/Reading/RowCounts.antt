-- A reading has fewer objects than lines, and each place of a refusal is one of them. Assumes nothing.
use Prim.Native.Nat.{ℕ, ◌+◌, ◌≤◌, ◌<◌}
use native.Mathlib.Omega.{arith}
use mathlib.Core.Path.{◌≡◌, refl}
use mathlib.Core.Bool.{Bool}
use mathlib.Core.List.{List, [], ◌∷◌}
use lib.ListN.{length, length-append}
use lib.IntN.{ℤ}
use Rattle.meaning.specs.Bytes.{choose, refuse}
use Rattle.meaning.specs.Model.{Found, found, missing, target_of, Table, Model}
use Rattle.meaning.specs.Field.{Field, fields_of, field_at, more_than}
use Rattle.meaning.specs.Row.{Pair, OfAttribute, OfComponent, OfLine, Cells, cells, refused}
use Rattle.meaning.specs.Reading.{Move, unexpected, undefined_line, ended, point, Underway, Due, opening, description, transfer, model_name, topic_from, table_from, object_of, line_of, closing, nothing, Content, State, nothing_read, start_of, with_mark, with_line, Rooms, find_topic, find_table, mandatory_between, Object}
use Rattle.meaning.specs.Lines.{Step, go, no, after_found, bare, named, opening_line, description_line, transfer_line, model_line, topic_line, topic_end, table_line, store_row, object_fields, behind_objects, object_line, store_point, attribute_line, closing_line, line_due, step_of, Run, ran, stopped, after_step, after_run, run, at_end, read_lines}
use Rattle.meaning.specs.Table.{Resolved, resolved, unresolved, after_resolved, put_reference, resolve_pair, resolve_pairs, resolve_rows, resolve}
use Rattle.meaning.proofs.Tests.Refuse.{refuse_keeps, choose_keeps}

-- ## Each line adds one object at most

module _ (n : ℕ) where
  -- n objects at most are there behind a line that goes on
  unfoldable Goes : Step → Type 0
  Goes (go due c) = length c.rows ≤ n
  Goes (no number field) = Unit {0}

  goes_no : (number field : ℕ) → Goes (no number field)
  unfolding Goes
  goes_no number field = tt

  goes_on : (due : Due) (c : Content) → length c.rows ≤ n → Goes (go due c)
  unfolding Goes
  goes_on due c h = h

  goes_refuse : (t : Bool) (number field : ℕ) (next : Step) → Goes next → Goes (refuse t (no number field) next)
  goes_refuse t number field next h = refuse_keeps Goes t (no number field) next (goes_no number field) (λ _. h)

  goes_choose : (t : Bool) (a b : Step) → Goes a → Goes b → Goes (choose t a b)
  goes_choose t a b h k = choose_keeps Goes t a b (λ _. h) (λ _. k)

  goes_found : (f : Found) (number field : ℕ) (next : ℕ → Step) → ((k : ℕ) → Goes (next k)) → Goes (after_found f (no number field) next)
  unfolding Goes
  goes_found (found k) number field next h = h k
  goes_found missing number field next h = tt

  goes_bare : (fs : List Field) (next : Step) → Goes next → Goes (bare fs next)
  unfolding bare
  goes_bare fs next h = goes_refuse _ _ _ _ h

  goes_named : (name : List ℕ) (fs : List Field) (next : Step) → Goes next → Goes (named name fs next)
  unfolding named
  goes_named name fs next h = goes_refuse _ _ _ _ (goes_refuse _ _ _ _ (goes_refuse _ _ _ _ h))

  module _ (m : Model) (rooms : Rooms) (text : List ℕ) (c : Content) (h : length c.rows < n) where
    less : length c.rows ≤ n
    less = omega arith

    row_goes : (t : ℕ) (i : Field) (k : Cells) → Goes (store_row m rooms text t i c k)
    unfolding store_row
    row_goes t i (refused number field) = goes_no _ _
    row_goes t i (cells pairs) = goes_refuse _ _ _ _ (goes_on _ _ (rw (length-append c.rows (length c.cells ∷ [])) (omega arith)))

    point_goes : (kind : ℕ) (w : Underway) (k : Cells) → Goes (store_point m rooms text kind w c k)
    unfolding store_point
    point_goes kind w (refused number field) = goes_no _ _
    point_goes kind w (cells values) = goes_refuse _ _ _ _ (goes_on _ _ less)

    topic_goes : (from : ℕ) (fs : List Field) → Goes (topic_line m rooms text from fs c)
    unfolding topic_line
    topic_goes from fs =
        goes_choose _ _ _
        (goes_bare fs _ (goes_on _ c less))
        (goes_refuse _ _ _ _ (goes_refuse _ _ _ _
        (goes_found (find_topic from 0 (field_at 2 fs).bytes m.topics) 9 2
        (λ p. refuse (more_than 2 fs) (no 11 3) (go (table_from p 0) (with_mark p c)))
        (λ p. goes_refuse _ _ _ _ (goes_on _ _ less)))))

    table_goes : (p from : ℕ) (fs : List Field) → Goes (table_line m rooms text p from fs c)
    unfolding table_line topic_end
    table_goes p from fs =
        goes_choose _ _ _
        (goes_refuse _ _ _ _ (goes_bare fs _ (goes_on _ c less)))
        (goes_refuse _ _ _ _ (goes_refuse _ _ _ _
        (goes_found (find_table p from 0 (field_at 2 fs).bytes m.tables) 9 2
        (λ t. refuse (mandatory_between p from t 0 m.tables) (no 10 2) (refuse (more_than 2 fs) (no 11 3) (go (object_of t) (with_mark (length m.topics + t) c))))
        (λ t. goes_refuse _ _ _ _ (goes_refuse _ _ _ _ (goes_on _ _ less))))))

    object_goes : (t : ℕ) (fs : List Field) → Goes (object_line m rooms text t fs c)
    unfolding object_line object_fields behind_objects
    object_goes t fs =
        goes_choose _ _ _
        (goes_refuse _ _ _ _ (goes_refuse _ _ _ _ (goes_refuse _ _ _ _ (goes_refuse _ _ _ _ (row_goes t _ _)))))
        (goes_refuse _ _ _ _ (goes_bare fs _ (goes_on _ c less)))

    attribute_goes : (w : Underway) (fs : List Field) (v : Move) → Goes (attribute_line m rooms text w fs c v)
    unfolding attribute_line with_line
    attribute_goes w fs unexpected = goes_no _ _
    attribute_goes w fs undefined_line = goes_refuse _ _ _ _ (goes_bare fs _ (goes_on _ c less))
    attribute_goes w fs ended = goes_bare fs _ (goes_on _ _ less)
    attribute_goes w fs (point kind state) = goes_refuse _ _ _ _ (point_goes kind _ _)

    line_goes : (due : Due) (l : List ℕ) (fs : List Field) → Goes (line_due m rooms text due l fs c)
    unfolding line_due opening_line description_line transfer_line model_line closing_line
    line_goes opening l fs = goes_refuse _ _ _ _ (goes_bare fs _ (goes_on _ c less))
    line_goes description l fs = goes_choose _ _ _ (goes_on _ c less) (goes_refuse _ _ _ _ (goes_bare fs _ (goes_on _ c less)))
    line_goes transfer l fs = goes_refuse _ _ _ _ (goes_refuse _ _ _ _ (goes_named _ fs _ (goes_on _ c less)))
    line_goes model_name l fs = goes_refuse _ _ _ _ (goes_named _ fs _ (goes_on _ c less))
    line_goes (topic_from from) l fs = topic_goes from fs
    line_goes (table_from p from) l fs = table_goes p from fs
    line_goes (object_of t) l fs = object_goes t fs
    line_goes (line_of w) l fs = attribute_goes w fs _
    line_goes closing l fs = goes_refuse _ _ _ _ (goes_bare fs _ (goes_on _ c less))
    line_goes nothing l fs = goes_no _ _

-- ## The lines in order

-- behind some lines: fewer objects than the next line's number, which is `last` at most; or a refusal in a line up to it
unfoldable pub Ran : (last : ℕ) → Run → Type 0
Ran last (ran s) = (length s.content.rows < s.line) × (s.line ≤ last)
Ran last (stopped number line field) = line ≤ last

module _ (m : Model) (rooms : Rooms) (text : List ℕ) (last : ℕ) where
  ran_step : (o : Step) (l : List ℕ) (s : State) (next : State → Run) → s.line < last → Goes s.line o
      → ((s' : State) → length s'.content.rows < s'.line → s'.line ≡ s.line + 1 → Ran last (next s')) → Ran last (after_step o l s next)
  unfolding Ran Goes
  ran_step (go due c) l s next e h k = k _ (omega arith) refl
  ran_step (no number field) l s next e h k = omega arith

  run_few : (ls : List (List ℕ)) (s : State) → length s.content.rows < s.line → s.line + length ls ≤ last → Ran last (run m rooms text s ls)
  unfolding run step_of Ran
  run_few [] s h e = (h, omega arith)
  run_few (l ∷ ls) s h e = ran_step _ l s _ (omega arith) (line_goes s.line m rooms text s.content h s.due l (fields_of s.start l)) (λ s' k f. run_few ls s' k (omega arith))

  end_few : (s : State) → length s.content.rows < s.line → s.line ≤ last → Ran last (at_end s)
  unfolding at_end Ran
  end_few s h e = refuse_keeps (Ran last) _ _ _ e (λ _. (h, e))

  after_few : (r : Run) → Ran last r → Ran last (after_run r (λ s. at_end s))
  unfolding Ran
  after_few (ran s) h = end_few s h.0 h.1
  after_few (stopped number line field) h = h

pub lines_few : (m : Model) (rooms : Rooms) (text : List ℕ) (ls : List (List ℕ)) → Ran (1 + length ls) (read_lines m rooms text (start_of m) ls)
unfolding read_lines start_of nothing_read
lines_few m rooms text ls = after_few m rooms text (1 + length ls) _ (run_few m rooms text (1 + length ls) ls (start_of m) (omega arith) (omega arith))

-- ## The object of a reference that names none is one of all

module _ (last : ℕ) where
  unfoldable pub Place : Resolved → Type 0
  Place (resolved cs) = Unit {0}
  Place (unresolved object field) = object ≤ last

  place_after : (r : Resolved) (next : List ℤ → Resolved) → Place r → ((cs : List ℤ) → Place (next cs)) → Place (after_resolved r next)
  unfolding Place
  place_after (resolved cs) next h k = k cs
  place_after (unresolved object field) next h k = h

  reference_place : (object field cell : ℕ) (cs : List ℤ) → object ≤ last → (f : Found) → Place (put_reference object field cell cs f)
  unfolding put_reference Place
  reference_place object field cell cs h (found k) = tt
  reference_place object field cell cs h missing = h

  module _ (text : List ℕ) (os : List Object) where
    pair_place : (object field cell : ℕ) (f : Found) (cs : List ℤ) → object ≤ last → Place (resolve_pair text os object field cell f cs)
    unfolding resolve_pair Place
    pair_place object field cell missing cs h = tt
    pair_place object field cell (found t) cs h = choose_keeps Place _ _ _ (λ _. tt) (λ _. reference_place object field cell cs h _)

    pairs_place : (object field cell : ℕ) (ps : List Pair) (cs : List ℤ) → object ≤ last → Place (resolve_pairs text os object field cell ps cs)
    unfolding resolve_pairs Place
    pairs_place object field cell [] cs h = tt
    pairs_place object field cell (OfAttribute o type ∷ ps) cs h =
        place_after (resolve_pair text os object field cell (target_of type) cs) _ (pair_place object field cell (target_of type) cs h) (λ ds. pairs_place object (field + 1) (cell + 2) ps ds h)
    pairs_place object field cell (OfComponent c ∷ ps) cs h = pairs_place object (field + 1) (cell + 2) ps cs h
    pairs_place object field cell (OfLine o forms ks ∷ ps) cs h = pairs_place object field (cell + 2) ps cs h

    rows_place : (ts : List Table) (object : ℕ) (rows : List ℕ) (cs : List ℤ) → object + length rows ≤ last → Place (resolve_rows text os ts object rows cs)
    unfolding resolve_rows Place
    rows_place ts object [] cs h = tt
    rows_place ts object (row ∷ rows) cs h =
        place_after (resolve_pairs text os object 3 (row + 3) _ cs) _ (pairs_place object 3 (row + 3) _ cs (omega arith)) (λ ds. rows_place ts (object + 1) rows ds (omega arith))

pub resolve_place : (m : Model) (text : List ℕ) (c : Content) (last : ℕ) → length c.rows ≤ last → Place last (resolve m text c)
unfolding resolve
resolve_place m text c last h = rows_place last text _ m.tables 0 c.rows c.cells (omega arith)
