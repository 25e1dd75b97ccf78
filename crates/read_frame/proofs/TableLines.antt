-- Lines that begin a table, end one or end a topic. Assumes nothing.
use Prim.Native.Nat.{ℕ, ◌+◌, ◌≤◌, ◌<◌}
use native.Mathlib.Omega.{arith}
use mathlib.Core.Path.{◌≡◌}
use mathlib.Core.Bool.{true, false}
use mathlib.Core.List.{List, [], ◌∷◌}
use lib.ListN.{length, take, drop}
use Rattle.base.specs.declared.reasons.Reason.TheVariants.{OtherCode, NameWrong, FieldCount}
use Rattle.base.specs.declared.reasons.Reason.TheVariants as reasons
use Rattle.meaning.specs.Bytes.{choose, refuse}
use Rattle.meaning.specs.Model.{Model, missing, table_at}
use Rattle.meaning.specs.Field.{Field, fields_of, more_than, has_code, TABL, ETAB, ETOP}
use Rattle.meaning.specs.Reading.{Content, Rooms, find_table, mandatory_between}
use Rattle.meaning.specs.Lines.{bare, table_line, topic_end, behind_objects}
use Rattle.base.specs.Fields.{FirstField}
use Rattle.read_state.specs.declared.FrameDue.TheVariants as frame
use Rattle.read_state.specs.declared.Due.TheVariants.{Frame, Object}
use Rattle.base.specs.declared.reasons.Refusal.{Refusal}
use Rattle.read_state.specs.declared.Due.{Due}
use Rattle.std.proofs.Common.{Result, Ok}
use Rattle.read_state.specs.Meaning.{frame_due_of, due_of, topic_marked_by, marked_by, next_due_of, marked_of}
use Rattle.read_frame.specs.declared.codes.Head.{Head}
use Rattle.read_frame.specs.Codes.{place_or_0}
use Rattle.read_frame.specs.Heads.{HeadOf}
use Rattle.read_frame.specs.Moves.{refused, end_in, alone_in, NextDueHolds}
use Rattle.read_frame.specs.Finds.{TableAt, TableSkipped, table_in, topic_end_in}
use Rattle.read_frame.proofs.Moves.{marked_refuse, holds_refuse, behind_more, behind_at, some_field, alone_moved, alone_holds, has_code_lem, has_not}

-- ## The fields behind TABL

module _ (m : Model) (b : List ℕ) (p from : ℕ) (rest : List ℕ) (c : Content) where
  pub table_no_name : ((s : ℕ) → fields_of s rest ≡ []) → (s : ℕ) → marked_of b (length m.topics) (refused FieldCount 2) c ≡ table_in m p from (fields_of s rest) c
  unfolding table_in refuse
  table_no_name e s = rw (e s)

  module _ (start len : ℕ) (f : FirstField rest start len) where
    pub table_missing : find_table p from 0 (take len (drop start rest)) m.tables ≡ missing → (s : ℕ) → marked_of b (length m.topics) (refused NameWrong 2) c ≡ table_in m p from (fields_of s rest) c
    unfolding table_in refuse
    table_missing e s = rw (some_field rest start len f s, f.first s, e)

    pub table_skipped : TableSkipped m p from (take len (drop start rest)) → (s : ℕ) → marked_of b (length m.topics) (refused reasons.TableSkipped 2) c ≡ table_in m p from (fields_of s rest) c
    unfolding table_in refuse
    table_skipped e s = rw (some_field rest start len f s, f.first s, e.at.found, e.at.owed)

    pub table_begun : (r : Result Due Refusal) (t : ℕ) → TableAt m p from (take len (drop start rest)) t false → ((s : ℕ) → r ≡ end_in 3 (fields_of s (drop (start + len) rest)) (Object t))
        → (s : ℕ) → marked_of b (length m.topics) r c ≡ table_in m p from (fields_of s rest) c
    unfolding table_in end_in due_of marked_by refuse
    table_begun r t h g s =
        let k = fields_of (s + start + len) (drop (start + len) rest) in
        rw (some_field rest start len f s, f.first s, h.found, h.owed, behind_more (record { start = s + start; bytes = take len (drop start rest) } ∷ k) 0 (omega arith), g (s + start + len))
        (marked_refuse b c (length m.topics) (more_than 0 k) (refused FieldCount 3) (Ok (Object t)))

pub table_holds : (m : Model) (b : List ℕ) (t : ℕ) → t < length m.tables → (r : Result Due Refusal) (fs : List Field) → r ≡ end_in 3 fs (Object t) → NextDueHolds m b r
unfolding end_in
table_holds m b t l r fs e = rw e (holds_refuse m b _ _ _ tt (λ rows n used points. l))

-- ## The fields behind ETOP

module _ (m : Model) (b : List ℕ) (p from : ℕ) (fs : List Field) where
  pub topic_owes : (c : Content) → mandatory_between p from (length m.tables) 0 m.tables ≡ true → marked_of b (length m.topics) (refused reasons.TableSkipped 1) c ≡ topic_end_in m p from fs c
  unfolding topic_end_in refuse
  topic_owes c e = rw e

  module _ (r : Result Due Refusal) (g : r ≡ end_in 2 fs (Frame (frame.Topic (p + 1)))) where
    pub topic_ended : (c : Content) → mandatory_between p from (length m.tables) 0 m.tables ≡ false → marked_of b (length m.topics) r c ≡ topic_end_in m p from fs c
    unfolding topic_end_in end_in frame_due_of due_of topic_marked_by marked_by refuse
    topic_ended c e = rw (e, g) (marked_refuse b c (length m.topics) (more_than 0 fs) (refused FieldCount 2) (Ok (Frame (frame.Topic (p + 1)))))

    pub ended_holds : p < length m.topics → NextDueHolds m b r
    unfolding end_in
    ended_holds l = rw g (holds_refuse m b _ _ _ tt (λ rows n used points. omega arith))

-- ## TABL or ETOP

module _ (m : Model) (rooms : Rooms) (text b : List ℕ) (p from : ℕ) (l : List ℕ) (h : Head) (o : HeadOf l h) (r : Result Due Refusal) (c : Content) (s : ℕ) where
  pub topic_closed : place_or_0 h.code ≡ 14 → ((s : ℕ) (c : Content) → marked_of b (length m.topics) r c ≡ topic_end_in m p from (fields_of s (drop h.behind l)) c)
      → marked_of b (length m.topics) r c ≡ table_line m rooms text p from (fields_of s l) c
  unfolding table_line topic_end topic_end_in bare choose
  topic_closed e g =
      let x : has_code ETOP (fields_of s l) ≡ true = has_code_lem l h o 13 (omega arith) s e in
      let k : 1 ≤ length (fields_of s l) = o.some (omega arith) s in
      rw (x, behind_more (fields_of s l) 0 k, o.others s) (g (s + h.behind) c)

  pub table_opened : place_or_0 h.code ≡ 7 → ((s : ℕ) (c : Content) → marked_of b (length m.topics) r c ≡ table_in m p from (fields_of s (drop h.behind l)) c)
      → marked_of b (length m.topics) r c ≡ table_line m rooms text p from (fields_of s l) c
  unfolding table_line table_in choose refuse
  table_opened e g =
      let x : has_code ETOP (fields_of s l) ≡ false = has_not l h o 13 (omega arith) s (λ q. absurd (omega arith)) in
      let y : has_code TABL (fields_of s l) ≡ true = has_code_lem l h o 6 (omega arith) s e in
      let k : 1 ≤ length (fields_of s l) = o.some (omega arith) s in
      rw (x, y, behind_more (fields_of s l) 0 k, behind_more (fields_of s l) 1 k, behind_at (fields_of s l) k, o.others s) (g (s + h.behind) c)

  pub table_other : (place_or_0 h.code ≡ 14 → ⊥) → (place_or_0 h.code ≡ 7 → ⊥) → marked_of b (length m.topics) (refused OtherCode 1) c ≡ table_line m rooms text p from (fields_of s l) c
  unfolding table_line choose refuse
  table_other e f =
      let x : has_code ETOP (fields_of s l) ≡ false = has_not l h o 13 (omega arith) s e in
      let y : has_code TABL (fields_of s l) ≡ false = has_not l h o 6 (omega arith) s f in
      rw (x, y)

-- ## ETAB

-- a later table of topic p, which is that of table t, is due
module _ (m : Model) (b : List ℕ) (p t : ℕ) (fs : List Field) (c : Content) where
  pub table_closed : p ≡ (table_at m.tables t).topic → (rooms : Rooms) (text : List ℕ) → next_due_of b (alone_in ETAB fs (Frame (frame.Table p (t + 1)))) c ≡ behind_objects m rooms text t fs c
  unfolding behind_objects frame_due_of due_of
  table_closed e rooms text = rw (← e) (alone_moved b c ETAB fs (Frame (frame.Table p (t + 1))))

  pub closed_holds : p < length m.topics → t < length m.tables → NextDueHolds m b (alone_in ETAB fs (Frame (frame.Table p (t + 1))))
  closed_holds l k = alone_holds b c ETAB fs (Frame (frame.Table p (t + 1))) m (λ rows n used points. (l, omega arith))
