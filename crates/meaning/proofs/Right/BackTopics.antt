-- Tables, topics and a file that were read are right. Assumes nothing.
use Prim.Native.Nat.{ℕ, zero, suc, ◌+◌, ◌-◌, ◌≤◌, ◌<◌}
use native.Mathlib.Omega.{arith}
use mathlib.Core.Path.{◌≡◌, refl, sym, ap, subst, ◌∙◌}
use mathlib.Core.Bool.{true, false}
use mathlib.Core.List.{List, [], ◌∷◌, ◌++◌, append_assoc, append-nil}
use lib.ListN.{length, get_or, set, length-append}
use Rattle.meaning.specs.Model.{Model, table_at}
use Rattle.meaning.specs.Field.{Field, SCNT, MTID, TOPI, TABL, ETOP, EMOD, ENDE}
use Rattle.meaning.specs.Reading.{Due, opening, description, transfer, model_name, topic_from, table_from, closing, nothing, Content, Rooms, same_name, mandatory_between}
use Rattle.meaning.specs.Lines.{line_due}
use Rattle.meaning.specs.Right.{Delivered, DeliveredTable, DeliveredTopic, objects_of_tables, objects_of_topics, Line, Coded, Alone, Tables, Topics, Description, File, Unique, mark_tables, mark_topics}
use Rattle.meaning.specs.Right as right
use Rattle.meaning.proofs.Tests.Unequal.{no_go}
use Rattle.meaning.proofs.Reading.StepsRead.{topic_found, table_found}
use Rattle.meaning.proofs.Right.Steps.{steps, first_of}
use Rattle.meaning.proofs.Right.Content.{content_of, AllNamesStand, names_stand_append}
use Rattle.meaning.proofs.Right.Objects.{LinesStand, stand_left, stand_right, objects_read, read_names}
use Rattle.meaning.proofs.Right.Topics.{tables_read}
use Rattle.meaning.proofs.Right.Names.{passes_optional}
use Rattle.meaning.proofs.Right.BackLines.{FrameStep, scnt, described, ends, mtid, modl, ende, TopicStep, emod, topi, TableStep, etop, tabl, opening_step, description_step, transfer_step, model_step, closing_step, topic_step, table_step}
use Rattle.meaning.proofs.Right.BackObjects.{Goes, not_done, ObjectsOf, ObjectsAt, objects_of_lem}

module _ (m : Model) (rooms : Rooms) (own : List ℕ) (z : Content) where
  abbrev Reaches : Due → Content → List Line → Type 0
  Reaches due c ls = Goes m rooms own z due c ls

  -- ## Tables

  abbrev topic_count : ℕ
  topic_count = length m.topics

  record TablesOf (p from : ℕ) (marks : List ℕ) (before : List Delivered) (ls : List Line) : Type 0 where
    these : List Line
    ds : List DeliveredTable
    tables : Tables m p from these ds
    e : Line
    others : List Line
    is : ls ≡ these ++ (e ∷ others)
    end : Alone ETOP e
    unique : Unique (before ++ objects_of_tables ds)
    goes : Reaches (topic_from (p + 1)) (content_of (mark_tables topic_count ds marks) (before ++ objects_of_tables ds)) others

  unfoldable TablesAt : ℕ → Type 0
  TablesAt n = (ls : List Line) → length ls ≤ n → (p from : ℕ) (marks : List ℕ) (before : List Delivered) → LinesStand own ls → AllNamesStand own before → Unique before
      → Reaches (table_from p from) (content_of marks before) ls → TablesOf p from marks before ls

  due_table : (p from : ℕ) → table_from p from ≡ nothing → ⊥
  due_table p from h = let y : ◌≡◌ {A = ℕ} 0 1 = cc in omega arith

  -- a table before others
  table_joined : (p from t : ℕ) (marks : List ℕ) (before : List Delivered) (l : Line) (ls : List Line) (f : Field) → from ≤ t → t < length m.tables → (table_at m.tables t).topic ≡ p
      → mandatory_between p from t 0 m.tables ≡ false → Coded TABL l (f ∷ []) → same_name (table_at m.tables t).name f.bytes ≡ true
      → (o : ObjectsOf m rooms own z t (set marks (topic_count + t) 1) before ls) → TablesOf p (t + 1) (set marks (topic_count + t) 1) (before ++ o.os) o.others → TablesOf p from marks before (l ∷ ls)
  unfolding objects_of_tables mark_tables
  table_joined p from t marks before l ls f after below topic optional coded name o r =
      let whole : (before ++ o.os) ++ objects_of_tables r.ds ≡ before ++ (o.os ++ objects_of_tables r.ds) = append_assoc before o.os (objects_of_tables r.ds) in
      record {
        these = l ∷ (o.these ++ (o.e ∷ r.these));
        ds = record { table = t; objects = o.os } ∷ r.ds;
        tables = right.Tables.more after below topic (passes_optional m p from t optional) coded name o.objects o.end r.tables;
        e = r.e;
        others = r.others;
        is = ap (λ (y : List Line). l ∷ y)
            (o.is ∙ (ap (λ (y : List Line). o.these ++ (o.e ∷ y)) r.is ∙ sym (append_assoc o.these (o.e ∷ r.these) (r.e ∷ r.others))));
        end = r.end;
        unique = subst (λ (y : List Delivered). Unique y) whole r.unique;
        goes = subst (λ (y : List Delivered). Reaches (topic_from (p + 1)) (content_of (mark_tables topic_count r.ds (set marks (topic_count + t) 1)) y) r.others) whole r.goes;
      }

  table_by : (n : ℕ) → TablesAt n → (p from : ℕ) (marks : List ℕ) (before : List Delivered) (l : Line) (ls : List Line) → length ls ≤ n → LinesStand own (l ∷ ls) → AllNamesStand own before → Unique before
      → (due : Due) (x : Content) → TableStep m p from l (content_of marks before) due x → Reaches due x ls → TablesOf p from marks before (l ∷ ls)
  unfolding TablesAt ObjectsAt objects_of_tables mark_tables
  table_by n ih p from marks before l ls short h stand unique _ _ (etop e optional) g = record {
    these = [];
    ds = [];
    tables = right.Tables.none (passes_optional m p from (length m.tables) optional);
    e = l;
    others = ls;
    is = refl;
    end = e;
    unique = rw (append-nil before) unique;
    goes = rw (append-nil before) g;
  }
  table_by n ih p from marks before l ls short h stand unique _ _ (tabl t f coded there optional) g =
      let q = table_found p from 0 f.bytes m.tables t there in
      let after : from ≤ t = q.after in
      let size = q.size in
      let same-t : t - 0 ≡ t = omega arith in
      let topic : (table_at m.tables t).topic ≡ p = rw same-t at q.in_topic in
      let name : same_name (table_at m.tables t).name f.bytes ≡ true = rw same-t at q.alike in
      let marks' : List ℕ = set marks (topic_count + t) 1 in
      let o = objects_of_lem m rooms own z (length ls) ls (omega arith) t marks' before h.1 stand unique g in
      let behind : LinesStand own (o.these ++ (o.e ∷ o.others)) = subst (λ (y : List Line). LinesStand own y) o.is h.1 in
      let size' = ap length o.is ∙ length-append o.these (o.e ∷ o.others) in
      let stand' = names_stand_append own before o.os stand (read_names m own o.os (objects_read m own t (omega arith) o.objects (stand_left own o.these (o.e ∷ o.others) behind))) in
      let g' : Reaches (table_from p (t + 1)) (content_of marks' (before ++ o.os)) o.others = subst (λ (y : ℕ). Reaches (table_from y (t + 1)) (content_of marks' (before ++ o.os)) o.others) topic o.goes in
      table_joined p from t marks before l ls f after (omega arith) topic optional coded name o
      (ih o.others (omega arith) p (t + 1) marks' (before ++ o.os) (stand_right own o.these (o.e ∷ o.others) behind).1 stand' o.unique g')

  tables_of_lem : (n : ℕ) → TablesAt n
  unfolding TablesAt
  tables_of_lem zero [] short p from marks before h stand unique g = absurd (not_done m rooms own z (table_from p from) (content_of marks before) (due_table p from) g)
  tables_of_lem zero (l ∷ ls) short p from marks before h stand unique g = absurd (omega arith)
  tables_of_lem (suc n) [] short p from marks before h stand unique g = absurd (not_done m rooms own z (table_from p from) (content_of marks before) (due_table p from) g)
  tables_of_lem (suc n) (l ∷ ls) short p from marks before h stand unique g =
      let f = first_of m rooms own (table_from p from) nothing (content_of marks before) z l ls g in
      table_by n (λ ks k. tables_of_lem n ks k) p from marks before l ls (omega arith) h stand unique f.due' f.content (table_step m rooms own l (content_of marks before) f.due' f.content p from f.goes) f.others

  -- ## Topics

  record TopicsOf (from : ℕ) (marks : List ℕ) (before : List Delivered) (ls : List Line) : Type 0 where
    these : List Line
    ds : List DeliveredTopic
    topics : Topics m from these ds
    e : Line
    others : List Line
    is : ls ≡ these ++ (e ∷ others)
    end : Alone EMOD e
    unique : Unique (before ++ objects_of_topics ds)
    goes : Reaches closing (content_of (mark_topics topic_count ds marks) (before ++ objects_of_topics ds)) others

  unfoldable TopicsAt : ℕ → Type 0
  TopicsAt n = (ls : List Line) → length ls ≤ n → (from : ℕ) (marks : List ℕ) (before : List Delivered) → LinesStand own ls → AllNamesStand own before → Unique before
      → Reaches (topic_from from) (content_of marks before) ls → TopicsOf from marks before ls

  due_topic : (from : ℕ) → topic_from from ≡ nothing → ⊥
  due_topic from h = let y : ◌≡◌ {A = ℕ} 0 1 = cc in omega arith

  -- a topic before others
  topic_joined : (from p : ℕ) (marks : List ℕ) (before : List Delivered) (l : Line) (ls : List Line) (f : Field) → from ≤ p → p < length m.topics → Coded TOPI l (f ∷ [])
      → same_name (get_or m.topics p []) f.bytes ≡ true → (o : TablesOf p 0 (set marks p 1) before ls)
      → TopicsOf (p + 1) (mark_tables topic_count o.ds (set marks p 1)) (before ++ objects_of_tables o.ds) o.others → TopicsOf from marks before (l ∷ ls)
  unfolding objects_of_topics mark_topics
  topic_joined from p marks before l ls f after below coded name o r =
      let os : List Delivered = objects_of_tables o.ds in
      let whole : (before ++ os) ++ objects_of_topics r.ds ≡ before ++ (os ++ objects_of_topics r.ds) = append_assoc before os (objects_of_topics r.ds) in
      record {
        these = l ∷ (o.these ++ (o.e ∷ r.these));
        ds = record { topic = p; tables = o.ds } ∷ r.ds;
        topics = right.Topics.more after below coded name o.tables o.end r.topics;
        e = r.e;
        others = r.others;
        is = ap (λ (y : List Line). l ∷ y)
            (o.is ∙ (ap (λ (y : List Line). o.these ++ (o.e ∷ y)) r.is ∙ sym (append_assoc o.these (o.e ∷ r.these) (r.e ∷ r.others))));
        end = r.end;
        unique = subst (λ (y : List Delivered). Unique y) whole r.unique;
        goes = subst (λ (y : List Delivered). Reaches closing (content_of (mark_topics topic_count r.ds (mark_tables topic_count o.ds (set marks p 1))) y) r.others) whole r.goes;
      }

  topic_by : (n : ℕ) → TopicsAt n → (from : ℕ) (marks : List ℕ) (before : List Delivered) (l : Line) (ls : List Line) → length ls ≤ n → LinesStand own (l ∷ ls) → AllNamesStand own before → Unique before
      → (due : Due) (x : Content) → TopicStep m from l (content_of marks before) due x → Reaches due x ls → TopicsOf from marks before (l ∷ ls)
  unfolding TopicsAt TablesAt objects_of_topics mark_topics
  topic_by n ih from marks before l ls short h stand unique _ _ (emod e) g = record {
    these = [];
    ds = [];
    topics = right.Topics.none;
    e = l;
    others = ls;
    is = refl;
    end = e;
    unique = rw (append-nil before) unique;
    goes = rw (append-nil before) g;
  }
  topic_by n ih from marks before l ls short h stand unique _ _ (topi p f coded there) g =
      let q = topic_found from 0 f.bytes m.topics p there in
      let after : from ≤ p = q.after in
      let size = q.size in
      let same-p : p - 0 ≡ p = omega arith in
      let name : same_name (get_or m.topics p []) f.bytes ≡ true = rw same-p at q.alike in
      let marks' : List ℕ = set marks p 1 in
      let o = tables_of_lem (length ls) ls (omega arith) p 0 marks' before h.1 stand unique g in
      let behind : LinesStand own (o.these ++ (o.e ∷ o.others)) = subst (λ (y : List Line). LinesStand own y) o.is h.1 in
      let size' = ap length o.is ∙ length-append o.these (o.e ∷ o.others) in
      let os : List Delivered = objects_of_tables o.ds in
      let stand' = names_stand_append own before os stand (read_names m own os (tables_read m own p o.tables (stand_left own o.these (o.e ∷ o.others) behind))) in
      topic_joined from p marks before l ls f after (omega arith) coded name o
      (ih o.others (omega arith) (p + 1) (mark_tables topic_count o.ds marks') (before ++ os) (stand_right own o.these (o.e ∷ o.others) behind).1 stand' o.unique o.goes)

  topics_of_lem : (n : ℕ) → TopicsAt n
  unfolding TopicsAt
  topics_of_lem zero [] short from marks before h stand unique g = absurd (not_done m rooms own z (topic_from from) (content_of marks before) (due_topic from) g)
  topics_of_lem zero (l ∷ ls) short from marks before h stand unique g = absurd (omega arith)
  topics_of_lem (suc n) [] short from marks before h stand unique g = absurd (not_done m rooms own z (topic_from from) (content_of marks before) (due_topic from) g)
  topics_of_lem (suc n) (l ∷ ls) short from marks before h stand unique g =
      let f = first_of m rooms own (topic_from from) nothing (content_of marks before) z l ls g in
      topic_by n (λ ks k. topics_of_lem n ks k) from marks before l ls (omega arith) h stand unique f.due' f.content (topic_step m rooms own l (content_of marks before) f.due' f.content from f.goes) f.others

  -- ## The file

  -- no line behind ENDE
  nothing_left : (c : Content) (ls : List Line) → Reaches nothing c ls → (ls ≡ []) × (c ≡ z)
  unfolding steps line_due
  nothing_left c [] g = (refl, cc)
  nothing_left c (l ∷ ls) g =
      let f = first_of m rooms own nothing nothing c z l ls g in
      absurd (no_go 7 1 f.due' f.content f.goes)

  record ClosingOf (c : Content) (ls : List Line) : Type 0 where
    e : Line
    is : ls ≡ e ∷ []
    end : Alone ENDE e
    same : c ≡ z

  closing_of : (c : Content) (ls : List Line) → Reaches closing c ls → ClosingOf c ls
  closing_of c [] g = absurd (not_done m rooms own z closing c (λ h. let y : ◌≡◌ {A = ℕ} 0 1 = cc in omega arith) g)
  closing_of c (l ∷ ls) g =
      let f = first_of m rooms own closing nothing c z l ls g in
      by f.due' f.content (closing_step m rooms own l c f.due' f.content f.goes) f.others
    where
      by : (due : Due) (x : Content) → FrameStep m l c closing due x → Reaches due x ls → ClosingOf c (l ∷ ls)
      by _ _ (ende e) g = let r = nothing_left c ls g in record { e = l; is = ap (λ (y : List Line). l ∷ y) r.0; end = e; same = r.1 }

  -- from MTID on
  record BodyOf (marks : List ℕ) (ls : List Line) : Type 0 where
    ds : List DeliveredTopic
    whole : (scnt : Line) (these : List Line) → Alone SCNT scnt → Description these → File m (scnt ∷ (these ++ ls)) ds
    unique : Unique (objects_of_topics ds)
    same : content_of (mark_topics topic_count ds marks) (objects_of_topics ds) ≡ z

  model_of : (marks : List ℕ) (k : Line) (f : Field) → Coded MTID k (f ∷ []) → f.bytes ≡ m.transfer → (ls : List Line) → LinesStand own ls → Reaches model_name (content_of marks []) ls → BodyOf marks (k ∷ ls)
  unfolding TopicsAt
  model_of marks k f coded name [] h g = absurd (not_done m rooms own z model_name (content_of marks []) (λ e. let y : ◌≡◌ {A = ℕ} 0 1 = cc in omega arith) g)
  model_of marks k f coded name (l ∷ ls) h g =
      let s = first_of m rooms own model_name nothing (content_of marks []) z l ls g in
      by s.due' s.content (model_step m rooms own l (content_of marks []) s.due' s.content s.goes) s.others
    where
      topics : Reaches (topic_from 0) (content_of marks []) ls → TopicsOf 0 marks [] ls
      topics g = topics_of_lem (length ls) ls (omega arith) 0 marks [] h.1 tt (λ i j a b e. omega arith) g

      by : (due : Due) (x : Content) → FrameStep m l (content_of marks []) model_name due x → Reaches due x ls → BodyOf marks (k ∷ (l ∷ ls))
      by _ _ (modl i coded' name') g =
          let t = topics g in
          let c = closing_of (content_of (mark_topics topic_count t.ds marks) (objects_of_topics t.ds)) t.others t.goes in
          let all : ls ≡ t.these ++ (t.e ∷ c.e ∷ []) = t.is ∙ ap (λ (y : List Line). t.these ++ (t.e ∷ y)) c.is in
          record {
            ds = t.ds;
            whole = λ scnt these a d. subst (λ (y : List Line). File m (scnt ∷ (these ++ (k ∷ l ∷ y))) t.ds) (sym all) (right.File.file a d coded name coded' name' t.topics t.end c.end);
            unique = t.unique;
            same = c.same;
          }

  transfer_of : (marks : List ℕ) (ls : List Line) → LinesStand own ls → Reaches transfer (content_of marks []) ls → BodyOf marks ls
  transfer_of marks [] h g = absurd (not_done m rooms own z transfer (content_of marks []) (λ e. let y : ◌≡◌ {A = ℕ} 0 1 = cc in omega arith) g)
  transfer_of marks (l ∷ ls) h g =
      let s = first_of m rooms own transfer nothing (content_of marks []) z l ls g in
      by s.due' s.content (transfer_step m rooms own l (content_of marks []) s.due' s.content s.goes) s.others
    where
      by : (due : Due) (x : Content) → FrameStep m l (content_of marks []) transfer due x → Reaches due x ls → BodyOf marks (l ∷ ls)
      by _ _ (mtid f coded name) g = model_of marks l f coded name ls h.1 g

  -- the description, and what follows it
  record DescribedOf (marks : List ℕ) (ls : List Line) : Type 0 where
    these : List Line
    others : List Line
    is : ls ≡ these ++ others
    description' : Description these
    body : BodyOf marks others

  description_of : (marks : List ℕ) (ls : List Line) → LinesStand own ls → Reaches description (content_of marks []) ls → DescribedOf marks ls
  description_of marks [] h g = absurd (not_done m rooms own z description (content_of marks []) (λ e. let y : ◌≡◌ {A = ℕ} 0 1 = cc in omega arith) g)
  description_of marks (l ∷ ls) h g =
      let s = first_of m rooms own description nothing (content_of marks []) z l ls g in
      by s.due' s.content (description_step m rooms own l (content_of marks []) s.due' s.content s.goes) s.others (description_of marks ls h.1)
    where
      by : (due : Due) (x : Content) → FrameStep m l (content_of marks []) description due x → Reaches due x ls → (Reaches description (content_of marks []) ls → DescribedOf marks ls) → DescribedOf marks (l ∷ ls)
      by _ _ (described e) g ih =
          let r = ih g in
          record { these = l ∷ r.these; others = r.others; is = ap (λ (y : List Line). l ∷ y) r.is; description' = right.Description.more e r.description'; body = r.body }
      by _ _ (ends e a) g ih = record { these = l ∷ []; others = ls; is = refl; description' = right.Description.last e a; body = transfer_of marks ls h.1 g }

  pub record FileOf (marks : List ℕ) (ls : List Line) : Type 0 where
    pub ds : List DeliveredTopic
    pub structure : File m ls ds
    pub unique : Unique (objects_of_topics ds)
    pub same : content_of (mark_topics topic_count ds marks) (objects_of_topics ds) ≡ z

  pub file_of_lem : (marks : List ℕ) (ls : List Line) → LinesStand own ls → Reaches opening (content_of marks []) ls → FileOf marks ls
  file_of_lem marks [] h g = absurd (not_done m rooms own z opening (content_of marks []) (λ e. let y : ◌≡◌ {A = ℕ} 0 1 = cc in omega arith) g)
  file_of_lem marks (l ∷ ls) h g =
      let s = first_of m rooms own opening nothing (content_of marks []) z l ls g in
      by s.due' s.content (opening_step m rooms own l (content_of marks []) s.due' s.content s.goes) s.others
    where
      by : (due : Due) (x : Content) → FrameStep m l (content_of marks []) opening due x → Reaches due x ls → FileOf marks (l ∷ ls)
      by _ _ (scnt a) g =
          let r = description_of marks ls h.1 g in
          let b = r.body in
          record { ds = b.ds; structure = subst (λ (y : List Line). File m (l ∷ y) b.ds) (sym r.is) (b.whole l r.these a r.description'); unique = b.unique; same = b.same }
