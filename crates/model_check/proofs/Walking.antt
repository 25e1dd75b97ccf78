-- The walk over a model's records: what holds at each, and how it is carried over one. Assumes nothing.
use Prim.Native.Nat.{ℕ, ◌+◌, ◌-◌, ◌≤◌, ◌<◌}
use native.Mathlib.Omega.{arith}
use native.Mathlib.Numerals.{add-one}
use mathlib.Core.Path.{◌≡◌, refl, sym, ap, ◌∙◌, subst}
use mathlib.Core.Bool.{Bool, true, false, ◌&&◌}
use mathlib.Core.List.{List, [], ◌∷◌, ◌++◌, append_assoc, append-nil}
use lib.Dec.{leb, eqb}
use lib.ListN.{length, take, drop, set, replicate, length-set}
use lib.Seq.{take-suc-set, take-set-le, length-take-le}
use borrow.Author.Tests.{leb-true, leb-false, ltb-true, eqb-true}
use Rattle.meaning.specs.Bytes.{choose, refuse, u16_at}
use Rattle.meaning.specs.Model.{Records, entry, attribute_of, topics_of, tables_of}
use Rattle.meaning.specs.Check as check
use Rattle.meaning.proofs.Model.Marks.{holds}
use Rattle.meaning.proofs.Model.Records.{entry_at, overrun_at, finish_at}
use Rattle.model_check.specs.Names.{name_of, names_of}
use Rattle.model_check.specs.Records.{name_start}
use Rattle.model_records.specs.Records.{records_at, payload_at, next_at}
use Rattle.model_check.specs.References.{topic_numbers}
use Rattle.model_check.specs.Walk.{seen_of, passes_at, advanced_on, WalkerHolds}
use Rattle.model_check.specs.declared.check.Walker.{Walker}
use Rattle.model_check.proofs.Words.{names_kept, names_more, names_length}
use Rattle.meaning.proofs.Tests.Refuse.{both}

-- ## What holds at each record

pub record Walking (b : List ℕ) (w : Walker) (ts bs cs ps : List ℕ) : Type 0 where
  pub inside : w.at ≤ length b
  pub topic_room : length ts ≡ 65
  pub table_room : length bs ≡ 513
  pub attribute_room : length cs ≡ 65
  pub place_room : length ps ≡ 513
  pub topic_limit : w.topics ≤ 64
  pub attribute_limit : w.attributes ≤ 64
  pub tables_below : w.tables ≤ w.count
  pub table_limit : w.count ≤ 512
  pub same : (rest : check.Checked) → check.check_records w.before (seen_of b w ts bs cs) (records_at b w.at) rest ≡ check.check_records 0 check.nothing_seen (records_at b 0) rest
  pub placed : take w.count ps ++ topic_numbers (tables_of w.topics (records_at b w.at)) ≡ topic_numbers (tables_of 0 (records_at b 0))
  pub counted : w.topics + length (topics_of (records_at b w.at)) ≡ length (topics_of (records_at b 0))

-- a record that passes
check_entry : (before at kind : ℕ) (seen : check.Seen) (p : List ℕ) (others : Records) (rest : check.Checked) → check.follows before kind ≡ true → check.keeps kind p seen ≡ true
    → check.check_records before seen (entry at kind p others) rest ≡ check.check_records kind (check.see kind p seen) others rest
unfolding check.check_records refuse
check_entry before at kind seen p others rest f k = rw (f, k)

module _ (b : List ℕ) (w : Walker) (ts bs cs ps : List ℕ) (i : Walking b w ts bs cs ps) (word : ℕ) where
  -- the record where the walk stands passes, and its name is kept
  pub record Stood (kind next : ℕ) (p : List ℕ) (others : Records) : Type 0 where
    pub is : records_at b w.at ≡ entry w.at kind p others
    pub behind : others ≡ records_at b next
    pub fits : next ≤ length b
    pub follow : check.follows w.before kind ≡ true
    pub keep : check.keeps kind p (seen_of b w ts bs cs) ≡ true
    pub name : name_of b word ≡ drop (name_start kind p) p

  passed : (kind next : ℕ) (p : List ℕ) (others : Records) → Stood kind next p others → (rest : check.Checked)
      → check.check_records kind (check.see kind p (seen_of b w ts bs cs)) (records_at b next) rest ≡ check.check_records 0 check.nothing_seen (records_at b 0) rest
  passed kind next p others h rest =
      ap (λ (rs : Records). check.check_records kind (check.see kind p (seen_of b w ts bs cs)) rs rest) (sym h.behind)
      ∙ sym (check_entry w.before w.at kind (seen_of b w ts bs cs) p others rest h.follow h.keep)
      ∙ ap (λ (rs : Records). check.check_records w.before (seen_of b w ts bs cs) rs rest) (sym h.is)
      ∙ i.same rest

  -- names that are kept cs they were, and one more
  more_topics : names_of b (take (w.topics + 1) (set ts w.topics word)) ≡ names_of b (take w.topics ts) ++ (name_of b word ∷ [])
  more_topics = names_more b ts w.topics word (omega (arith, i.topic_room, i.topic_limit))

  more_tables : names_of b (take (w.tables + 1) (set bs w.tables word)) ≡ names_of b (take w.tables bs) ++ (name_of b word ∷ [])
  more_tables = names_more b bs w.tables word (omega (arith, i.table_room, i.tables_below, i.table_limit))

  more_attributes : names_of b (take (w.attributes + 1) (set cs w.attributes word)) ≡ names_of b (take w.attributes cs) ++ (name_of b word ∷ [])
  more_attributes = names_more b cs w.attributes word (omega (arith, i.attribute_room, i.attribute_limit))

  abbrev Next : (kind next : ℕ) → Type 0
  Next kind next = Walking b (advanced_on kind next w) (set ts w.topics word) (set bs w.tables word) (set cs w.attributes word) (set ps w.count (w.topics - 1))

  topic_step : (next : ℕ) (p : List ℕ) (others : Records) → Stood 3 next p others → Next 3 next
  unfolding advanced_on choose check.see check.keeps check.keeps_topic names_of name_start topics_of tables_of
  topic_step next p others h =
      let few : w.topics < 64 = ltb-true w.topics 64 (rw (names_length b (take w.topics ts), length-take-le w.topics ts (omega (arith, i.topic_room, i.topic_limit))) at (holds _ 1 h.keep)) in
      record {
        inside = h.fits;
        topic_room = length-set ts _ _ ∙ i.topic_room;
        table_room = length-set bs _ _ ∙ i.table_room;
        attribute_room = length-set cs _ _ ∙ i.attribute_room;
        place_room = length-set ps _ _ ∙ i.place_room;
        topic_limit = omega arith;
        attribute_limit = omega arith;
        tables_below = omega arith;
        table_limit = i.table_limit;
        same = λ rest. rw (more_topics, h.name) (passed 3 next p others h rest);
        placed = rw (take-set-le w.count ps w.count (w.topics - 1) (omega arith), ← h.behind) (rw h.is at i.placed);
        counted = rw (← h.behind) (let e = rw h.is at i.counted in omega (arith, e));
      }

  table_step : (next : ℕ) (p : List ℕ) (others : Records) → Stood 4 next p others → Next 4 next
  unfolding advanced_on choose check.see check.keeps check.keeps_table names_of name_start topics_of tables_of topic_numbers
  table_step next p others h =
      let few : w.count < 512 = ltb-true w.count 512 (holds _ 2 h.keep) in
      record {
        inside = h.fits;
        topic_room = length-set ts _ _ ∙ i.topic_room;
        table_room = length-set bs _ _ ∙ i.table_room;
        attribute_room = length-set cs _ _ ∙ i.attribute_room;
        place_room = length-set ps _ _ ∙ i.place_room;
        topic_limit = i.topic_limit;
        attribute_limit = omega arith;
        tables_below = omega (arith, i.tables_below);
        table_limit = omega arith;
        same = λ rest. rw (names_kept b ts w.topics word, more_tables, h.name) (passed 4 next p others h rest);
        placed = rw (add-one w.count, take-suc-set ps w.count (w.topics - 1) (omega (arith, i.place_room)), append_assoc, ← h.behind) (rw h.is at i.placed);
        counted = rw (← h.behind) (rw h.is at i.counted);
      }

  attribute_step : (next : ℕ) (p : List ℕ) (others : Records) → Stood 5 next p others → Next 5 next
  unfolding advanced_on choose check.see check.keeps check.keeps_attribute attribute_of names_of name_start topics_of tables_of
  attribute_step next p others h =
      let few : w.attributes < 64 = ltb-true w.attributes 64 (rw (names_length b (take w.attributes cs), length-take-le w.attributes cs (omega (arith, i.attribute_room, i.attribute_limit))) at (holds _ 3 h.keep)) in
      record {
        inside = h.fits;
        topic_room = length-set ts _ _ ∙ i.topic_room;
        table_room = length-set bs _ _ ∙ i.table_room;
        attribute_room = length-set cs _ _ ∙ i.attribute_room;
        place_room = length-set ps _ _ ∙ i.place_room;
        topic_limit = i.topic_limit;
        attribute_limit = omega arith;
        tables_below = i.tables_below;
        table_limit = i.table_limit;
        same = λ rest. rw (names_kept b ts w.topics word, names_kept b bs w.tables word, more_attributes, h.name) (passed 5 next p others h rest);
        placed = rw (take-set-le w.count ps w.count (w.topics - 1) (omega arith), ← h.behind) (rw h.is at i.placed);
        counted = rw (← h.behind) (rw h.is at i.counted);
      }

  other_step : (kind next : ℕ) (p : List ℕ) (others : Records) → eqb kind 3 ≡ false → eqb kind 4 ≡ false → eqb kind 5 ≡ false → Stood kind next p others → Next kind next
  unfolding advanced_on choose check.see topics_of tables_of
  other_step kind next p others e f g h = rw (e, f, g) (record {
    inside = h.fits;
    topic_room = length-set ts _ _ ∙ i.topic_room;
    table_room = length-set bs _ _ ∙ i.table_room;
    attribute_room = length-set cs _ _ ∙ i.attribute_room;
    place_room = length-set ps _ _ ∙ i.place_room;
    topic_limit = i.topic_limit;
    attribute_limit = i.attribute_limit;
    tables_below = i.tables_below;
    table_limit = i.table_limit;
    same = λ rest. rw (names_kept b ts w.topics word, names_kept b bs w.tables word, names_kept b cs w.attributes word) (rw (e, f, g) at (passed kind next p others h rest));
    placed = rw (take-set-le w.count ps w.count (w.topics - 1) (omega arith), ← h.behind) (rw (h.is, e, f) at i.placed);
    counted = rw (← h.behind) (rw (h.is, e) at i.counted);
  })

  any_step : (kind next : ℕ) (p : List ℕ) (others : Records) → Stood kind next p others → Next kind next
  any_step kind next p others h = go (eqb kind 3) (eqb kind 4) (eqb kind 5) refl refl refl
    where
      go : (x y z : Bool) → eqb kind 3 ≡ x → eqb kind 4 ≡ y → eqb kind 5 ≡ z → Next kind next
      go true y z e f g = subst (λ (k : ℕ). Stood k next p others → Next k next) (sym (eqb-true kind 3 e)) (topic_step next p others) h
      go false true z e f g = subst (λ (k : ℕ). Stood k next p others → Next k next) (sym (eqb-true kind 4 f)) (table_step next p others) h
      go false false true e f g = subst (λ (k : ℕ). Stood k next p others → Next k next) (sym (eqb-true kind 5 g)) (attribute_step next p others) h
      go false false false e f g = other_step kind next p others e f g h

  -- one turn
  pub step : passes_at b w ts bs cs ≡ true → name_of b word ≡ drop (name_start (u16_at b (w.at + 2)) (payload_at b w.at)) (payload_at b w.at) → Next (u16_at b (w.at + 2)) (next_at b w.at)
  step h n =
      let q = both _ _ h in
      let r = both (check.follows w.before (u16_at b (w.at + 2))) _ q.1 in
      let l : next_at b w.at ≤ length b = leb-true _ _ q.0 in
      any_step _ _ _ _ (record { is = entry_at b w.at l; behind = refl; fits = l; follow = r.0; keep = r.1; name = n })

-- ## The first record, a bad one, and the end

pub start : (b : List ℕ) → Walking b (record { at = 0; before = 0; topics = 0; tables = 0; attributes = 0; count = 0 }) (replicate 65 0) (replicate 513 0) (replicate 65 0) (replicate 513 0)
unfolding names_of
start b = record {
  inside = omega arith;
  topic_room = refl;
  table_room = refl;
  attribute_room = refl;
  place_room = refl;
  topic_limit = omega arith;
  attribute_limit = omega arith;
  tables_below = omega arith;
  table_limit = omega arith;
  same = λ rest. refl;
  placed = refl;
  counted = omega arith;
}

module _ (b : List ℕ) (w : Walker) (ts bs cs ps : List ℕ) (i : Walking b w ts bs cs ps) where
  refused : (before at : ℕ) (seen : check.Seen) (rest : check.Checked) → at < length b
      → (leb (next_at b at) (length b) && (check.follows before (u16_at b (at + 2)) && check.keeps (u16_at b (at + 2)) (payload_at b at) seen)) ≡ false
      → check.check_records before seen (records_at b at) rest ≡ check.bad at
  unfolding check.check_records refuse
  refused before at seen rest l h = go (leb (next_at b at) (length b)) refl
    where
      inner : (f k : Bool) → check.follows before (u16_at b (at + 2)) ≡ f → check.keeps (u16_at b (at + 2)) (payload_at b at) seen ≡ k → (f && k) ≡ false
          → check.check_records before seen (entry at (u16_at b (at + 2)) (payload_at b at) (records_at b (next_at b at))) rest ≡ check.bad at
      inner true true e g z = let q : ◌≡◌ {A = Bool} true false = z in cc
      inner true false e g z = rw (e, g)
      inner false k e g z = rw e

      go : (x : Bool) → leb (next_at b at) (length b) ≡ x → check.check_records before seen (records_at b at) rest ≡ check.bad at
      go true e = rw (entry_at b at (leb-true _ _ e)) (inner _ _ refl refl (rw e at h))
      go false e = rw (overrun_at b at l (leb-false _ _ e))

  pub stopped : w.at < length b → passes_at b w ts bs cs ≡ false → (rest : check.Checked) → check.check_records 0 check.nothing_seen (records_at b 0) rest ≡ check.bad w.at
  stopped l h rest = sym (i.same rest) ∙ refused w.before w.at (seen_of b w ts bs cs) rest l h

  pub walked : length b ≤ w.at → WalkerHolds b w ps
  unfolding check.check_records topics_of tables_of topic_numbers
  walked l =
      let f = finish_at b w.at l in
      record {
        room = omega (arith, i.place_room, i.table_limit);
        checked = λ rest. sym (i.same rest) ∙ rw f refl;
        placed = sym i.placed ∙ rw (f, append-nil) refl;
        counted = let e = rw f at i.counted in omega (arith, e);
      }

-- the record where the walk stands fits, and the walk goes on behind it
pub fitting : (b : List ℕ) (w : Walker) (ts bs cs : List ℕ) → passes_at b w ts bs cs ≡ true → next_at b w.at ≤ length b
fitting b w ts bs cs h = leb-true _ _ (both _ _ h).0

pub advanced_at : (kind next : ℕ) (w : Walker) → (advanced_on kind next w).at ≡ next
unfolding advanced_on choose
advanced_at kind next w = go (eqb kind 3) (eqb kind 4) (eqb kind 5) refl refl refl
  where
    go : (x y z : Bool) → eqb kind 3 ≡ x → eqb kind 4 ≡ y → eqb kind 5 ≡ z → (advanced_on kind next w).at ≡ next
    go true y z e f g = rw e
    go false true z e f g = rw (e, f)
    go false false true e f g = rw (e, f, g)
    go false false false e f g = rw (e, f, g)
