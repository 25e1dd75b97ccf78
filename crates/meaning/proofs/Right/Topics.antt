-- Tables, topics and the lines around them that are right are read. Assumes nothing.
use Prim.Native.Nat.{ℕ, ◌+◌}
use native.Mathlib.Omega.{arith}
use mathlib.Core.Path.{◌≡◌, refl, ap, ◌∙◌}
use mathlib.Core.Bool.{true, false}
use mathlib.Core.List.{List, [], ◌∷◌, ◌++◌, append_assoc, append-nil}
use lib.ListN.{length, set}
use Rattle.meaning.specs.Bytes.{choose, refuse, same, prefix}
use Rattle.meaning.specs.Model.{found, Model, table_at}
use Rattle.meaning.specs.Check.{GoodModel}
use Rattle.meaning.specs.Field.{Field, has_code, SCNT, slashes, MTID, MODL, TOPI, TABL, ETAB, ETOP, EMOD, ENDE}
use Rattle.meaning.specs.Reading.{opening, description, transfer, model_name, topic_from, table_from, object_of, closing, nothing, Content, with_mark, Rooms, find_topic, find_table, mandatory_between}
use Rattle.meaning.specs.Lines.{Step, go, bare, named, opening_line, description_line, transfer_line, model_line, topic_line, topic_end, table_line, behind_objects, object_line, closing_line, line_due}
use Rattle.meaning.specs.Right.{Delivered, DeliveredTable, DeliveredTopic, objects_of_tables, objects_of_topics, Line, Coded, Alone, Tables, Topics, Description, File, file, Unique, mark_tables, mark_topics}
use Rattle.meaning.specs.Right as right
use Rattle.meaning.proofs.Tests.Same.{same_refl}
use Rattle.meaning.proofs.Right.Steps.{step_at, steps, step_on, steps_on}
use Rattle.meaning.proofs.Right.Content.{content_of, AllNamesStand, names_stand_append}
use Rattle.meaning.proofs.Right.Points.{coded_fields}
use Rattle.meaning.proofs.Right.Objects.{LinesStand, stand_left, stand_right, unique_left, RoomFor, room_left, AllRead, read_append, read_names, objects_read, objects_run}
use Rattle.meaning.proofs.Right.Names.{find_topic_lem, find_table_lem, optional_passes}

-- ## What is read of them

module _ (m : Model) (own : List ℕ) where
  pub tables_read : (p : ℕ) {from : ℕ} {ls : List Line} {ds : List DeliveredTable} → Tables m p from ls ds → LinesStand own ls → AllRead m own (objects_of_tables ds)
  unfolding objects_of_tables
  tables_read p (right.Tables.none o) h = tt
  tables_read p (right.Tables.more {t = t} {e = e} {ls = ls} {others = others} {os = os} {ds = ds} a b c d f s objects g r) h =
      let behind = stand_right own ls (e ∷ others) h.1 in
      read_append m own os (objects_of_tables ds) (objects_read m own t b objects (stand_left own ls (e ∷ others) h.1)) (tables_read p r behind.1)

  pub topics_read : {from : ℕ} {ls : List Line} {ds : List DeliveredTopic} → Topics m from ls ds → LinesStand own ls → AllRead m own (objects_of_topics ds)
  unfolding objects_of_topics
  topics_read right.Topics.none h = tt
  topics_read (right.Topics.more {p = p} {e = e} {ls = ls} {others = others} {ts = ts} {ds = ds} a b f s tables g r) h =
      let behind = stand_right own ls (e ∷ others) h.1 in
      read_append m own (objects_of_tables ts) (objects_of_topics ds) (tables_read p tables (stand_left own ls (e ∷ others) h.1)) (topics_read r behind.1)

  pub file_read : {ls : List Line} {ds : List DeliveredTopic} → File m ls ds → LinesStand own ls → AllRead m own (objects_of_topics ds)
  file_read (file {modl = modl} {emod = emod} {ende = ende} {ds = ds} {ls = ls} a d b bt c ct t e n) h =
      topics_read t (stand_left own ls (emod ∷ ende ∷ []) (stand_right own ds _ h.1).1.1)

-- ## Lines of one code

module _ (m : Model) (rooms : Rooms) (own : List ℕ) where
  pub etab_step : (t : ℕ) (l : Line) (c : Content) → Alone ETAB l → step_at m rooms own (object_of t) c l ≡ go (table_from (table_at m.tables t).topic (t + 1)) c
  unfolding line_due object_line behind_objects has_code same choose refuse bare
  etab_step t l c h = rw (coded_fields ETAB l [] h)

  pub etop_step : (p from : ℕ) (l : Line) (c : Content) → Alone ETOP l → mandatory_between p from (length m.tables) 0 m.tables ≡ false → step_at m rooms own (table_from p from) c l ≡ go (topic_from (p + 1)) c
  unfolding line_due table_line topic_end has_code same choose refuse bare
  etop_step p from l c h e = rw (coded_fields ETOP l [] h, e)

  pub tabl_step : (p from t : ℕ) (l : Line) (f : Field) (c : Content) → Coded TABL l (f ∷ []) → find_table p from 0 f.bytes m.tables ≡ found t → mandatory_between p from t 0 m.tables ≡ false
      → step_at m rooms own (table_from p from) c l ≡ go (object_of t) (with_mark (length m.topics + t) c)
  unfolding line_due table_line has_code same choose refuse
  tabl_step p from t l f c h e g = rw (coded_fields TABL l (f ∷ []) h, e, g)

  pub topi_step : (from p : ℕ) (l : Line) (f : Field) (c : Content) → Coded TOPI l (f ∷ []) → find_topic from 0 f.bytes m.topics ≡ found p
      → step_at m rooms own (topic_from from) c l ≡ go (table_from p 0) (with_mark p c)
  unfolding line_due topic_line has_code same choose refuse
  topi_step from p l f c h e = rw (coded_fields TOPI l (f ∷ []) h, e)

  pub emod_step : (from : ℕ) (l : Line) (c : Content) → Alone EMOD l → step_at m rooms own (topic_from from) c l ≡ go closing c
  unfolding line_due topic_line has_code same choose refuse bare
  emod_step from l c h = rw (coded_fields EMOD l [] h)

  pub ende_step : (l : Line) (c : Content) → Alone ENDE l → step_at m rooms own closing c l ≡ go nothing c
  unfolding line_due closing_line has_code same refuse bare
  ende_step l c h = rw (coded_fields ENDE l [] h)

  pub scnt_step : (l : Line) (c : Content) → Alone SCNT l → step_at m rooms own opening c l ≡ go description c
  unfolding line_due opening_line has_code same refuse bare
  scnt_step l c h = rw (coded_fields SCNT l [] h)

  pub slashes_step : (l : Line) (c : Content) → prefix slashes l.bytes ≡ true → Alone slashes l → step_at m rooms own description c l ≡ go transfer c
  unfolding line_due description_line has_code same choose refuse bare
  slashes_step l c e h = rw (e, coded_fields slashes l [] h)

  pub described_step : (l : Line) (c : Content) → prefix slashes l.bytes ≡ false → step_at m rooms own description c l ≡ go description c
  unfolding line_due description_line choose
  described_step l c e = rw e

  pub mtid_step : (l : Line) (f : Field) (c : Content) → Coded MTID l (f ∷ []) → f.bytes ≡ m.transfer → step_at m rooms own transfer c l ≡ go model_name c
  unfolding line_due transfer_line has_code same refuse named
  mtid_step l f c h e = rw (coded_fields MTID l (f ∷ []) h, e, same_refl m.transfer)

  pub modl_step : (l : Line) (f : Field) (c : Content) → Coded MODL l (f ∷ []) → f.bytes ≡ m.name → step_at m rooms own model_name c l ≡ go (topic_from 0) c
  unfolding line_due model_line has_code same refuse named
  modl_step l f c h e = rw (coded_fields MODL l (f ∷ []) h, e, same_refl m.name)

  -- ## Tables and topics

  module _ (good : GoodModel m) where
    tables_run : (p : ℕ) {from : ℕ} {ls : List Line} {ds : List DeliveredTable} → Tables m p from ls ds → LinesStand own ls → (marks : List ℕ) (before : List Delivered) → AllNamesStand own before
        → Unique (before ++ objects_of_tables ds) → RoomFor rooms (before ++ objects_of_tables ds) → (e : Line) (ks : List Line) (r : Step) → Alone ETOP e
        → steps m rooms own (topic_from (p + 1)) (content_of (mark_tables (length m.topics) ds marks) (before ++ objects_of_tables ds)) ks ≡ r
        → steps m rooms own (table_from p from) (content_of marks before) (ls ++ (e ∷ ks)) ≡ r
    unfolding objects_of_tables mark_tables
    tables_run p {from} (right.Tables.none o) h marks before stand unique room e ks r end next =
        step_on m rooms own _ (topic_from (p + 1)) _ (content_of marks before) e ks r (etop_step p from e (content_of marks before) end (optional_passes m p from (length m.tables) o)) (rw (append-nil before) at next)
    tables_run p {from} (right.Tables.more {t = t} {l = l} {e = e'} {f = f} {ls = ls} {others = others} {os = os} {ds = ds} a b topic optional coded name objects end' others-right) h marks before stand unique room e ks r end next =
        let n : ℕ = length m.topics in
        let marks' : List ℕ = set marks (n + t) 1 in
        let behind = stand_right own ls (e' ∷ others) h.1 in
        let here = stand_left own ls (e' ∷ others) h.1 in
        let whole : (before ++ os) ++ objects_of_tables ds ≡ before ++ (os ++ objects_of_tables ds) = append_assoc before os (objects_of_tables ds) in
        let unique' : Unique ((before ++ os) ++ objects_of_tables ds) = rw whole unique in
        let room' : RoomFor rooms ((before ++ os) ++ objects_of_tables ds) = rw whole room in
        let stand' : AllNamesStand own (before ++ os) = names_stand_append own before os stand (read_names m own os (objects_read m own t b objects here)) in
        let next' : steps m rooms own (topic_from (p + 1)) (content_of (mark_tables n ds marks') ((before ++ os) ++ objects_of_tables ds)) ks ≡ r = rw whole next in
        let found-t : find_table p from 0 f.bytes m.tables ≡ found t = find_table_lem p from 0 t t f.bytes m.tables (good.names_in_topic p) b (omega arith) a topic name in
        let tail : steps m rooms own (table_from p (t + 1)) (content_of marks' (before ++ os)) (others ++ (e ∷ ks)) ≡ r =
        tables_run p others-right behind.1 marks' (before ++ os) stand' unique' room' e ks r end next' in
        let closed : steps m rooms own (object_of t) (content_of marks' (before ++ os)) (e' ∷ (others ++ (e ∷ ks))) ≡ r =
        step_on m rooms own _ (table_from p (t + 1)) _ _ e' (others ++ (e ∷ ks)) r
        (etab_step t e' (content_of marks' (before ++ os)) end' ∙ ap (λ (x : ℕ). go (table_from x (t + 1)) (content_of marks' (before ++ os))) topic) tail in
        let all : steps m rooms own (object_of t) (content_of marks' before) (ls ++ (e' ∷ (others ++ (e ∷ ks)))) ≡ r =
        steps_on m rooms own ls _ (object_of t) _ (content_of marks' (before ++ os)) (e' ∷ (others ++ (e ∷ ks))) r
        (objects_run m rooms own t objects here marks' before stand (unique_left (before ++ os) (objects_of_tables ds) unique') (room_left rooms (before ++ os) (objects_of_tables ds) room')) closed in
        step_on m rooms own _ (object_of t) _ (content_of marks' before) l ((ls ++ (e' ∷ others)) ++ (e ∷ ks)) r
        (tabl_step p from t l f (content_of marks before) coded found-t (optional_passes m p from t optional)) (rw (append_assoc ls (e' ∷ others) (e ∷ ks)) all)

    topics_run : {from : ℕ} {ls : List Line} {ds : List DeliveredTopic} → Topics m from ls ds → LinesStand own ls → (marks : List ℕ) (before : List Delivered) → AllNamesStand own before
        → Unique (before ++ objects_of_topics ds) → RoomFor rooms (before ++ objects_of_topics ds) → (e : Line) (ks : List Line) (r : Step) → Alone EMOD e
        → steps m rooms own closing (content_of (mark_topics (length m.topics) ds marks) (before ++ objects_of_topics ds)) ks ≡ r
        → steps m rooms own (topic_from from) (content_of marks before) (ls ++ (e ∷ ks)) ≡ r
    unfolding objects_of_topics mark_topics
    topics_run {from} right.Topics.none h marks before stand unique room e ks r end next =
        step_on m rooms own _ closing _ (content_of marks before) e ks r (emod_step from e (content_of marks before) end) (rw (append-nil before) at next)
    topics_run {from} (right.Topics.more {p = p} {l = l} {e = e'} {f = f} {ls = ls} {others = others} {ts = ts} {ds = ds} a b coded name tables end' others-right) h marks before stand unique room e ks r end next =
        let n : ℕ = length m.topics in
        let marks' : List ℕ = set marks p 1 in
        let os : List Delivered = objects_of_tables ts in
        let behind = stand_right own ls (e' ∷ others) h.1 in
        let here = stand_left own ls (e' ∷ others) h.1 in
        let whole : (before ++ os) ++ objects_of_topics ds ≡ before ++ (os ++ objects_of_topics ds) = append_assoc before os (objects_of_topics ds) in
        let unique' : Unique ((before ++ os) ++ objects_of_topics ds) = rw whole unique in
        let room' : RoomFor rooms ((before ++ os) ++ objects_of_topics ds) = rw whole room in
        let stand' : AllNamesStand own (before ++ os) = names_stand_append own before os stand (read_names m own os (tables_read m own p tables here)) in
        let next' : steps m rooms own closing (content_of (mark_topics n ds (mark_tables n ts marks')) ((before ++ os) ++ objects_of_topics ds)) ks ≡ r = rw whole next in
        let found-p : find_topic from 0 f.bytes m.topics ≡ found p = find_topic_lem from 0 p p f.bytes m.topics good.topics b (omega arith) a name in
        let tail : steps m rooms own (topic_from (p + 1)) (content_of (mark_tables n ts marks') (before ++ os)) (others ++ (e ∷ ks)) ≡ r =
        topics_run others-right behind.1 (mark_tables n ts marks') (before ++ os) stand' unique' room' e ks r end next' in
        let all : steps m rooms own (table_from p 0) (content_of marks' before) (ls ++ (e' ∷ (others ++ (e ∷ ks)))) ≡ r =
        tables_run p tables here marks' before stand (unique_left (before ++ os) (objects_of_topics ds) unique') (room_left rooms (before ++ os) (objects_of_topics ds) room') e' (others ++ (e ∷ ks)) r end' tail in
        step_on m rooms own _ (table_from p 0) _ (content_of marks' before) l ((ls ++ (e' ∷ others)) ++ (e ∷ ks)) r
        (topi_step from p l f (content_of marks before) coded found-p) (rw (append_assoc ls (e' ∷ others) (e ∷ ks)) all)

    -- ## The file

    description_run : {ls : List Line} → Description ls → (c : Content) → steps m rooms own description c ls ≡ go transfer c
    unfolding steps
    description_run (right.Description.last {l = l} e h) c = step_on m rooms own _ transfer c c l [] _ (slashes_step l c e h) refl
    description_run (right.Description.more {l = l} {ls = ls} e r) c = step_on m rooms own _ description c c l ls _ (described_step l c e) (description_run r c)

    closing_run : (l : Line) (c : Content) → Alone ENDE l → steps m rooms own closing c (l ∷ []) ≡ go nothing c
    unfolding steps
    closing_run l c h = step_on m rooms own _ nothing c c l [] _ (ende_step l c h) refl

    pub file_run : {ls : List Line} {ds : List DeliveredTopic} → File m ls ds → LinesStand own ls → (marks : List ℕ) → Unique (objects_of_topics ds) → RoomFor rooms (objects_of_topics ds)
        → steps m rooms own opening (content_of marks []) ls ≡ go nothing (content_of (mark_topics (length m.topics) ds marks) (objects_of_topics ds))
    file_run (file {scnt = scnt} {mtid = mtid} {modl = modl} {emod = emod} {ende = ende} {f = f} {g = g} {ds = ds} {ls = ls} {ts = ts} a d b bt c ct topics e z) h marks unique room =
        let c₀ : Content = content_of marks [] in
        let c₁ : Content = content_of (mark_topics (length m.topics) ts marks) (objects_of_topics ts) in
        let end : List Line = emod ∷ ende ∷ [] in
        let stand = stand_left own ls end (stand_right own ds (mtid ∷ modl ∷ (ls ++ end)) h.1).1.1 in
        step_on m rooms own opening description c₀ c₀ scnt (ds ++ (mtid ∷ modl ∷ (ls ++ end))) (go nothing c₁) (scnt_step scnt c₀ a)
        (steps_on m rooms own ds description transfer c₀ c₀ (mtid ∷ modl ∷ (ls ++ end)) (go nothing c₁) (description_run d c₀)
        (step_on m rooms own transfer model_name c₀ c₀ mtid (modl ∷ (ls ++ end)) (go nothing c₁) (mtid_step mtid f c₀ b bt)
        (step_on m rooms own model_name (topic_from 0) c₀ c₀ modl (ls ++ end) (go nothing c₁) (modl_step modl g c₀ c ct)
        (topics_run topics stand marks [] tt unique room emod (ende ∷ []) (go nothing c₁) e (closing_run ende c₁ z)))))
