-- What lines are read as is a table that is fine. Assumes nothing.
use Prim.Native.Nat.{ℕ, ◌+◌}
use mathlib.Core.Path.{◌≡◌, refl, sym, ap, subst, ◌∙◌}
use mathlib.Core.Bool.{true, not, false≢true}
use mathlib.Core.List.{List, [], append-nil}
use lib.IntN.{ℤ}
use lib.ListN.{length, replicate}
use borrow.Author.Tests.{not-false}
use Rattle.meaning.specs.Unfold.{unfolded_text}
use Rattle.meaning.specs.Model.{Model}
use Rattle.meaning.specs.Check.{GoodModel}
use Rattle.meaning.specs.Reading.{opening, description, transfer, model_name, topic_from, table_from, object_of, line_of, closing, nothing, Due, is_complete, Content, State, nothing_read, start_of, Rooms, Object, objects_of}
use Rattle.meaning.specs.Lines.{Run, ran, stopped, after_run, run, at_end, read_lines}
use Rattle.meaning.specs.Table.{resolved, resolve_rows, resolve}
use Rattle.meaning.specs.WritingClaims.{resolved_table}
use Rattle.meaning.proofs.Tests.Unequal.{no_ran}
use Rattle.meaning.proofs.Tests.Refuse.{passed}
use Rattle.meaning.proofs.Judge.Valid.{lent_objects, topics_from, Rest, Valid}
use Rattle.meaning.proofs.Reading.References.{flat_rows, row_starts, objects_of_rows, objects_flat, lent_flat, nomore, RowsTo, resolved_rows}
use Rattle.meaning.proofs.Reading.TablesRead.{place_of, resolved_starts, resolved_objects, all_begun}

-- ## The lines are complete

complete_due : (due : Due) → is_complete due ≡ true → due ≡ nothing
unfolding is_complete
complete_due opening h = absurd (false≢true h)
complete_due description h = absurd (false≢true h)
complete_due transfer h = absurd (false≢true h)
complete_due model_name h = absurd (false≢true h)
complete_due (topic_from p) h = absurd (false≢true h)
complete_due (table_from p t) h = absurd (false≢true h)
complete_due (object_of t) h = absurd (false≢true h)
complete_due (line_of w) h = absurd (false≢true h)
complete_due closing h = absurd (false≢true h)
complete_due nothing h = refl

pub record ReadTo (m : Model) (rooms : Rooms) (text : List ℕ) (s : State) (ls : List (List ℕ)) (final : State) : Type 0 where
  pub runs : run m rooms text s ls ≡ ran final
  pub complete : final.due ≡ nothing

pub read_to : (m : Model) (rooms : Rooms) (text : List ℕ) (s : State) (ls : List (List ℕ)) (final : State) → read_lines m rooms text s ls ≡ ran final → ReadTo m rooms text s ls final
unfolding read_lines at_end
read_to m rooms text s ls final e = by (run m rooms text s ls) refl e
  where
    by : (r : Run) → run m rooms text s ls ≡ r → after_run r (λ s'. at_end s') ≡ ran final → ReadTo m rooms text s ls final
    by (stopped number line field) p e = absurd (no_ran number line field final e)
    by (ran s') p e =
        let q = passed (not (is_complete s'.due)) _ _ _ (no_ran 7 s'.line 1 final) e in
        let same : s' ≡ final = cc q.1 in
        record { runs = p ∙ ap ran same; complete = ap (λ (x : State). x.due) (sym same) ∙ complete_due s'.due (not-false _ q.0) }

-- ## The table is fine

pub read_valid : (m : Model) → GoodModel m → (rooms : Rooms) (ls : List (List ℕ)) (s : State) (cs : List ℤ) → read_lines m rooms (unfolded_text ls) (start_of m) ls ≡ ran s
    → resolve m (unfolded_text ls) s.content ≡ resolved cs → Valid m (unfolded_text ls) (resolved_table s.content cs)
unfolding start_of nothing_read resolve place_of row_starts flat_rows
read_valid m good rooms ls s cs e r =
    let text : List ℕ = unfolded_text ls in
    let c : Content = s.content in
    let to = read_to m rooms text (start_of m) ls s e in
    let f = all_begun m good rooms text s to.complete cs ls refl to.runs in
    let os : List Object = objects_of text c.cells c.rows in
    let rows : c.rows ≡ row_starts 0 f.rs = f.rows in
    let cells : c.cells ≡ flat_rows f.rs = f.cells in
    let q : RowsTo text os m.tables f.rs [] cs = resolved_rows text os m.tables f.rs 0 [] cs f.long
    (subst (λ (l : List ℤ). resolve_rows text os m.tables 0 (row_starts 0 f.rs) l ≡ resolved cs) cells
    (subst (λ (l : List ℕ). resolve_rows text os m.tables 0 l c.cells ≡ resolved cs) rows r)) in
    let lent : lent_objects text (flat_rows q.qs) (row_starts 0 q.qs) ≡ objects_of_rows text q.qs = rw (append-nil (flat_rows q.qs)) at (lent_flat text q.qs [] []) in
    let read : objects_of text (flat_rows f.rs) (row_starts 0 f.rs) ≡ objects_of_rows text f.rs = rw (append-nil (flat_rows f.rs)) at (objects_flat text f.rs [] []) in
    let same : lent_objects text cs c.rows ≡ os =
    subst (λ (l : List ℤ). lent_objects text l c.rows ≡ os) (sym q.is)
    (subst (λ (l : List ℕ). lent_objects text (flat_rows q.qs) l ≡ os) (resolved_starts text os m.tables 0 q.to ∙ sym rows)
    (lent ∙ (resolved_objects text os m.tables q.to
    ∙ sym (subst (λ (l : List ℤ). objects_of text l c.rows ≡ objects_of_rows text f.rs) (sym cells)
    (subst (λ (l : List ℕ). objects_of text (flat_rows f.rs) l ≡ objects_of_rows text f.rs) (sym rows) read))))) in
    subst (λ (l : List ℕ). Rest m text (resolved_table c cs) (topics_from 0 0 m.topics) (replicate (length m.topics + length m.tables) 0) [] 0 0 l) (sym rows) (f.rest [] q.qs nomore q.to q.is same)
