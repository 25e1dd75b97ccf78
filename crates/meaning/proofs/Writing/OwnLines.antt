-- Reading the lines that are written, line by line from the last one on: `Reads due c ks` says that behind c, where `due` is due, the lines ks are
-- read to their end, and that what is read then has a property. Assumes nothing.
use Prim.Native.Nat.{ℕ, ◌+◌}
use mathlib.Core.Path.{◌≡◌, refl}
use mathlib.Core.Bool.{false}
use mathlib.Core.List.{List, [], ◌∷◌}
use lib.ListN.{length, drop}
use Rattle.meaning.specs.Bytes.{choose, refuse, separator, every, same, prefix}
use Rattle.meaning.specs.Unfold.{unfolded_text}
use Rattle.meaning.specs.Model.{found, Model, table_at}
use Rattle.meaning.specs.Field.{fields_of, has_code, SCNT, slashes, MTID, MODL, TOPI, TABL, ETAB, ETOP, EMOD, ENDE}
use Rattle.meaning.specs.Reading.{Due, opening, description, transfer, model_name, topic_from, table_from, object_of, closing, nothing, Content, State, behind, with_mark, Rooms, find_topic, find_table, mandatory_between}
use Rattle.meaning.specs.Lines.{go, bare, named, opening_line, description_line, transfer_line, model_line, topic_line, topic_end, table_line, behind_objects, object_line, closing_line, line_due, step_of, ran, run}
use Rattle.meaning.specs.Writing.{spaced, line_bytes, lines_bytes}
use Rattle.meaning.proofs.Tests.Same.{same_refl}
use Rattle.meaning.proofs.Reading.Fields.{solid, Solid, AllSolid, placed, fields_spaced}
use Rattle.meaning.proofs.Reading.Stretches.{AllStand, text_behind, line_stands}

module _ (m : Model) (rooms : Rooms) (own : List ℕ) (P : Content → Type 0) where
  -- the lines ks are read to their end from a state on
  pub record Ends (s : State) (ks : List (List (List ℕ))) : Type 0 where
    pub final : State
    pub runs : run m rooms own s (lines_bytes ks) ≡ ran final
    pub complete : final.due ≡ nothing
    pub good : P final.content

  -- from wherever they stand in the text
  unfoldable pub Reads : Due → Content → List (List (List ℕ)) → Type 0
  Reads due c ks = (line start : ℕ) → drop start own ≡ unfolded_text (lines_bytes ks) → Ends (record { line = line; start = start; due = due; content = c }) ks

  -- a line's step, and the lines behind it
  pub record Next (d : Due) (c : Content) (k : List (List ℕ)) (ks : List (List (List ℕ))) (start : ℕ) : Type 0 where
    pub due : Due
    pub content : Content
    pub goes : line_due m rooms own d (line_bytes k) (placed start k) c ≡ go due content
    pub reads : Reads due content ks

  fields_line : (start : ℕ) (f : List ℕ) (fs : List (List ℕ)) → Solid f → AllSolid fs → fields_of start (line_bytes (f ∷ fs)) ≡ placed start (f ∷ fs)
  unfolding line_bytes
  fields_line start f fs h hs = fields_spaced start f fs h hs

  run_step : (s : State) (l : List ℕ) (ls : List (List ℕ)) (due : Due) (c : Content) (final : State) → step_of m rooms own l s ≡ go due c → run m rooms own (behind l due c s) ls ≡ ran final
      → run m rooms own s (l ∷ ls) ≡ ran final
  unfolding run
  run_step s l ls due c final e r = rw e r

  pub reads_line : (d : Due) (c : Content) (f : List ℕ) (fs : List (List ℕ)) (ks : List (List (List ℕ))) → Solid f → AllSolid fs
      → ((start : ℕ) → AllStand own (placed start (f ∷ fs)) → Next d c (f ∷ fs) ks start) → Reads d c ((f ∷ fs) ∷ ks)
  unfolding Reads step_of lines_bytes
  reads_line d c f fs ks h hs next line start at =
      let l : List ℕ = line_bytes (f ∷ fs) in
      let there : fields_of start l ≡ placed start (f ∷ fs) = fields_line start f fs h hs in
      let n = next start (rw there at (line_stands own start l (lines_bytes ks) at)) in
      let e = n.reads (line + 1) (start + length l + 1) (text_behind own start l (lines_bytes ks) at) in
      record {
        final = e.final;
        runs = run_step _ l (lines_bytes ks) n.due n.content e.final (rw there n.goes) e.runs;
        complete = e.complete;
        good = e.good;
      }

  pub reads_nothing : (c : Content) → P c → Reads nothing c []
  unfolding Reads run lines_bytes
  reads_nothing c p line start at = record { final = record { line = line; start = start; due = nothing; content = c }; runs = refl; complete = refl; good = p }

  -- a line whose step does not depend on where it stands
  pub reads_simple : (d : Due) (c : Content) (f : List ℕ) (fs : List (List ℕ)) (ks : List (List (List ℕ))) (due : Due) (c' : Content) → Solid f → AllSolid fs
      → ((start : ℕ) → line_due m rooms own d (line_bytes (f ∷ fs)) (placed start (f ∷ fs)) c ≡ go due c') → Reads due c' ks → Reads d c ((f ∷ fs) ∷ ks)
  reads_simple d c f fs ks due c' h hs goes r = reads_line d c f fs ks h hs (λ start _. record { due = due; content = c'; goes = goes start; reads = r })

  -- ## Lines of a code and a name

  pub reads_opening : (c : Content) (ks : List (List (List ℕ))) → Reads description c ks → Reads opening c ((SCNT ∷ []) ∷ ks)
  unfolding line_due opening_line bare refuse has_code same placed every solid separator
  reads_opening c ks r = reads_simple opening c SCNT [] ks description c refl tt (λ start. refl) r

  pub reads_slashes : (c : Content) (ks : List (List (List ℕ))) → Reads transfer c ks → Reads description c ((slashes ∷ []) ∷ ks)
  unfolding line_due description_line bare refuse choose has_code same placed every solid separator prefix line_bytes spaced
  reads_slashes c ks r = reads_simple description c slashes [] ks transfer c refl tt (λ start. refl) r

  pub reads_transfer : (c : Content) (ks : List (List (List ℕ))) → Solid m.transfer → Reads model_name c ks → Reads transfer c ((MTID ∷ m.transfer ∷ []) ∷ ks)
  unfolding line_due transfer_line named refuse has_code same placed every solid separator
  reads_transfer c ks h r = reads_simple transfer c MTID (m.transfer ∷ []) ks model_name c refl (h, tt) (λ start. rw (same_refl m.transfer)) r

  pub reads_model : (c : Content) (ks : List (List (List ℕ))) → Solid m.name → Reads (topic_from 0) c ks → Reads model_name c ((MODL ∷ m.name ∷ []) ∷ ks)
  unfolding line_due model_line named refuse has_code same placed every solid separator
  reads_model c ks h r = reads_simple model_name c MODL (m.name ∷ []) ks (topic_from 0) c refl (h, tt) (λ start. rw (same_refl m.name)) r

  pub reads_end : (c : Content) (from : ℕ) → P c → Reads (topic_from from) c ((EMOD ∷ []) ∷ (ENDE ∷ []) ∷ [])
  unfolding line_due topic_line closing_line bare refuse choose has_code same placed every solid separator
  reads_end c from p =
      reads_simple (topic_from from) c EMOD [] _ closing c refl tt (λ start. refl) (reads_simple closing c ENDE [] [] nothing c refl tt (λ start. refl) (reads_nothing c p))

  pub reads_topic : (from p : ℕ) (name : List ℕ) (c : Content) (ks : List (List (List ℕ))) → Solid name → find_topic from 0 name m.topics ≡ found p
      → Reads (table_from p 0) (with_mark p c) ks → Reads (topic_from from) c ((TOPI ∷ name ∷ []) ∷ ks)
  unfolding line_due topic_line refuse choose has_code same placed every solid separator
  reads_topic from p name c ks h f r = reads_simple (topic_from from) c TOPI (name ∷ []) ks (table_from p 0) (with_mark p c) refl (h, tt) (λ start. rw f) r

  pub reads_topic_end : (p from : ℕ) (c : Content) (ks : List (List (List ℕ))) → mandatory_between p from (length m.tables) 0 m.tables ≡ false
      → Reads (topic_from (p + 1)) c ks → Reads (table_from p from) c ((ETOP ∷ []) ∷ ks)
  unfolding line_due table_line topic_end bare refuse choose has_code same placed every solid separator
  reads_topic_end p from c ks g r = reads_simple (table_from p from) c ETOP [] ks (topic_from (p + 1)) c refl tt (λ start. rw g) r

  pub reads_table : (p from t : ℕ) (name : List ℕ) (c : Content) (ks : List (List (List ℕ))) → Solid name → find_table p from 0 name m.tables ≡ found t
      → mandatory_between p from t 0 m.tables ≡ false → Reads (object_of t) (with_mark (length m.topics + t) c) ks → Reads (table_from p from) c ((TABL ∷ name ∷ []) ∷ ks)
  unfolding line_due table_line refuse choose has_code same placed every solid separator
  reads_table p from t name c ks h f g r =
      reads_simple (table_from p from) c TABL (name ∷ []) ks (object_of t) (with_mark (length m.topics + t) c) refl (h, tt) (λ start. rw (f, g)) r

  pub reads_table_end : (t : ℕ) (c : Content) (ks : List (List (List ℕ))) → Reads (table_from (table_at m.tables t).topic (t + 1)) c ks → Reads (object_of t) c ((ETAB ∷ []) ∷ ks)
  unfolding line_due object_line behind_objects bare refuse choose has_code same placed every solid separator
  reads_table_end t c ks r = reads_simple (object_of t) c ETAB [] ks (table_from (table_at m.tables t).topic (t + 1)) c refl tt (λ start. refl) r
