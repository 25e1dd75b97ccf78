-- Lines that name the transfer, the model or a topic, and the line that ends the model. Assumes nothing.
use Prim.Native.Nat.{ℕ, ◌+◌, ◌≤◌}
use native.Mathlib.Omega.{arith}
use mathlib.Core.Path.{◌≡◌}
use mathlib.Core.Bool.{true, false}
use mathlib.Core.List.{List, [], ◌∷◌}
use lib.ListN.{length, take, drop}
use Rattle.base.specs.declared.reasons.Reason.TheVariants.{OtherCode, MotrForMtid, NameWrong, FieldCount}
use Rattle.meaning.specs.Bytes.{choose, refuse}
use Rattle.meaning.specs.Model.{Model, found, missing}
use Rattle.meaning.specs.Field.{Field, fields_of, more_than, has_code, MTID, MOTR, MODL, TOPI, EMOD}
use Rattle.meaning.specs.Reading.{Content, Rooms, find_topic}
use Rattle.meaning.specs.Lines.{bare, transfer_line, model_line, topic_line}
use Rattle.base.specs.Fields.{FirstField}
use Rattle.read_state.specs.declared.FrameDue.TheVariants as frame
use Rattle.read_state.specs.declared.Due.TheVariants.{Frame}
use Rattle.base.specs.declared.reasons.Refusal.{Refusal}
use Rattle.read_state.specs.declared.Due.{Due}
use Rattle.std.proofs.Common.{Result, Ok}
use Rattle.read_state.specs.Meaning.{frame_due_of, due_of, topic_marked_by, marked_by, next_due_of, marked_of}
use Rattle.read_frame.specs.declared.codes.Head.{Head}
use Rattle.read_frame.specs.Codes.{place_or_0}
use Rattle.read_frame.specs.Heads.{HeadOf}
use Rattle.read_frame.specs.Moves.{refused, end_in, named_in, NextDueHolds}
use Rattle.read_frame.specs.Finds.{topic_in}
use Rattle.read_frame.proofs.Moves.{marked_refuse, holds_refuse, behind_more, behind_at, some_field, named_moved, has_code_lem, has_not}
use Rattle.read_frame.proofs.Finds.{topic_inside}

-- ## The fields behind TOPI

module _ (m : Model) (b : List ℕ) (from : ℕ) (rest : List ℕ) (c : Content) where
  pub topic_no_name : ((s : ℕ) → fields_of s rest ≡ []) → (s : ℕ) → marked_of b (length m.topics) (refused FieldCount 2) c ≡ topic_in m from (fields_of s rest) c
  unfolding topic_in refuse
  topic_no_name e s = rw (e s)

  module _ (start len : ℕ) (f : FirstField rest start len) where
    pub topic_missing : find_topic from 0 (take len (drop start rest)) m.topics ≡ missing → (s : ℕ) → marked_of b (length m.topics) (refused NameWrong 2) c ≡ topic_in m from (fields_of s rest) c
    unfolding topic_in refuse
    topic_missing e s = rw (some_field rest start len f s, f.first s, e)

    pub topic_begun : (r : Result Due Refusal) (p : ℕ) → find_topic from 0 (take len (drop start rest)) m.topics ≡ found p
        → ((s : ℕ) → r ≡ end_in 3 (fields_of s (drop (start + len) rest)) (Frame (frame.Table p 0))) → (s : ℕ) → marked_of b (length m.topics) r c ≡ topic_in m from (fields_of s rest) c
    unfolding topic_in end_in frame_due_of due_of topic_marked_by marked_by refuse
    topic_begun r p e g s =
        let k = fields_of (s + start + len) (drop (start + len) rest) in
        rw (some_field rest start len f s, f.first s, e, behind_more (record { start = s + start; bytes = take len (drop start rest) } ∷ k) 0 (omega arith), g (s + start + len))
        (marked_refuse b c (length m.topics) (more_than 0 k) (refused FieldCount 3) (Ok (Frame (frame.Table p 0))))

pub topic_holds : (m : Model) (b : List ℕ) (from : ℕ) (name : List ℕ) (p : ℕ) (r : Result Due Refusal) (fs : List Field) → find_topic from 0 name m.topics ≡ found p
    → r ≡ end_in 3 fs (Frame (frame.Table p 0)) → NextDueHolds m b r
unfolding end_in
topic_holds m b from name p r fs t e =
    let l = topic_inside from name 0 m.topics p t in
    rw e (holds_refuse m b _ _ _ tt (λ rows n used points. (omega (arith, l), omega arith)))

-- ## TOPI or EMOD

module _ (m : Model) (rooms : Rooms) (text b : List ℕ) (from : ℕ) (l : List ℕ) (h : Head) (o : HeadOf l h) (r : Result Due Refusal) (c : Content) (s : ℕ) where
  pub model_closed : place_or_0 h.code ≡ 15 → ((s : ℕ) → r ≡ end_in 2 (fields_of s (drop h.behind l)) (Frame frame.Closing)) → marked_of b (length m.topics) r c ≡ topic_line m rooms text from (fields_of s l) c
  unfolding topic_line bare end_in frame_due_of due_of topic_marked_by marked_by choose
  model_closed e g =
      let x : has_code EMOD (fields_of s l) ≡ true = has_code_lem l h o 14 (omega arith) s e in
      let k : 1 ≤ length (fields_of s l) = o.some (omega arith) s in
      rw (x, behind_more (fields_of s l) 0 k, o.others s, g (s + h.behind)) (marked_refuse b c (length m.topics) _ (refused FieldCount 2) (Ok (Frame frame.Closing)))

  pub topic_opened : place_or_0 h.code ≡ 6 → ((s : ℕ) (c : Content) → marked_of b (length m.topics) r c ≡ topic_in m from (fields_of s (drop h.behind l)) c)
      → marked_of b (length m.topics) r c ≡ topic_line m rooms text from (fields_of s l) c
  unfolding topic_line topic_in choose refuse
  topic_opened e g =
      let x : has_code EMOD (fields_of s l) ≡ false = has_not l h o 14 (omega arith) s (λ q. absurd (omega arith)) in
      let y : has_code TOPI (fields_of s l) ≡ true = has_code_lem l h o 5 (omega arith) s e in
      let k : 1 ≤ length (fields_of s l) = o.some (omega arith) s in
      rw (x, y, behind_more (fields_of s l) 0 k, behind_more (fields_of s l) 1 k, behind_at (fields_of s l) k, o.others s) (g (s + h.behind) c)

  pub topic_other : (place_or_0 h.code ≡ 15 → ⊥) → (place_or_0 h.code ≡ 6 → ⊥) → marked_of b (length m.topics) (refused OtherCode 1) c ≡ topic_line m rooms text from (fields_of s l) c
  unfolding topic_line choose refuse
  topic_other e f =
      let x : has_code EMOD (fields_of s l) ≡ false = has_not l h o 14 (omega arith) s e in
      let y : has_code TOPI (fields_of s l) ≡ false = has_not l h o 5 (omega arith) s f in
      rw (x, y)

-- ## MTID and MODL

module _ (m : Model) (rooms : Rooms) (text b : List ℕ) (l : List ℕ) (h : Head) (o : HeadOf l h) (r : Result Due Refusal) (c : Content) (s : ℕ) where
  pub transfer_named : place_or_0 h.code ≡ 3 → ((s : ℕ) → r ≡ named_in m.transfer (fields_of s (drop h.behind l)) (Frame frame.ModelName)) → next_due_of b r c ≡ transfer_line m rooms text (fields_of s l) c
  unfolding transfer_line frame_due_of due_of refuse
  transfer_named e g =
      let x : has_code MOTR (fields_of s l) ≡ false = has_not l h o 3 (omega arith) s (λ q. absurd (omega arith)) in
      let y : has_code MTID (fields_of s l) ≡ true = has_code_lem l h o 2 (omega arith) s e in
      let k : 1 ≤ length (fields_of s l) = o.some (omega arith) s in
      rw (x, y, g (s + h.behind), ← o.others s) (named_moved b c m.transfer (fields_of s l) (Frame frame.ModelName) k)

  pub transfer_motr : place_or_0 h.code ≡ 4 → next_due_of b (refused MotrForMtid 1) c ≡ transfer_line m rooms text (fields_of s l) c
  unfolding transfer_line refuse
  transfer_motr e = let x : has_code MOTR (fields_of s l) ≡ true = has_code_lem l h o 3 (omega arith) s e in rw x

  pub transfer_other : (place_or_0 h.code ≡ 3 → ⊥) → (place_or_0 h.code ≡ 4 → ⊥) → next_due_of b (refused OtherCode 1) c ≡ transfer_line m rooms text (fields_of s l) c
  unfolding transfer_line refuse
  transfer_other e f =
      let x : has_code MOTR (fields_of s l) ≡ false = has_not l h o 3 (omega arith) s f in
      let y : has_code MTID (fields_of s l) ≡ false = has_not l h o 2 (omega arith) s e in
      rw (x, y)

  pub model_named : place_or_0 h.code ≡ 5 → ((s : ℕ) → r ≡ named_in m.name (fields_of s (drop h.behind l)) (Frame (frame.Topic 0)))
      → next_due_of b r c ≡ model_line m rooms text (fields_of s l) c
  unfolding model_line frame_due_of due_of refuse
  model_named e g =
      let y : has_code MODL (fields_of s l) ≡ true = has_code_lem l h o 4 (omega arith) s e in
      let k : 1 ≤ length (fields_of s l) = o.some (omega arith) s in
      rw (y, g (s + h.behind), ← o.others s) (named_moved b c m.name (fields_of s l) (Frame (frame.Topic 0)) k)

  pub model_other : (place_or_0 h.code ≡ 5 → ⊥) → next_due_of b (refused OtherCode 1) c ≡ model_line m rooms text (fields_of s l) c
  unfolding model_line refuse
  model_other e = let y : has_code MODL (fields_of s l) ≡ false = has_not l h o 4 (omega arith) s e in rw y
