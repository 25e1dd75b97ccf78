-- A line that has a reason is refused for it: its step is the reason's number and field. Assumes nothing.
use Prim.Native.Nat.{ℕ}
use native.Mathlib.Omega.{arith}
use mathlib.Core.Path.{◌≡◌, refl, ap, ◌∙◌}
use mathlib.Core.Bool.{Bool, true, false}
use mathlib.Core.List.{List, [], ◌∷◌}
use lib.ListN.{length}
use borrow.Author.Tests.{lt-ltb}
use Rattle.meaning.specs.Bytes.{choose, refuse, same}
use Rattle.meaning.specs.Model.{Component, Found, found, missing, Model}
use Rattle.meaning.specs.Check.{GoodModel}
use Rattle.meaning.specs.Field.{Field, fields_of, more_than, has_code, SCNT, slashes, MTID, MOTR, MODL, TOPI, TABL, OBJE, STPT, LIPT, ARCP, ELIN, ETAB, ETOP, EMOD, ENDE}
use Rattle.meaning.specs.Row.{Pair}
use Rattle.meaning.specs.Reading.{LineState, unstarted, started, in_arc, reached, stpt, lipt, arcp, elin, other, line_code_of, unexpected, move, is_in_arc, is_forbidden, Due, line_of, Content, Rooms, find_topic, find_table, mandatory_between}
use Rattle.meaning.specs.Lines.{no, bare, named, opening_line, description_line, transfer_line, model_line, topic_line, topic_end, table_line, store_row, object_fields, behind_objects, object_line, store_point, attribute_line, closing_line, line_due}
use Rattle.meaning.specs.Right.{Line, Coded, AllOptional}
use Rattle.meaning.specs.Reasons.{Place, in_description, line_in, TopicOf, TableOf, Bare, Titled, behind_start, behind_point, codes_at, NoneOf, NeedsField, Reason}
use Rattle.meaning.specs.Reasons as reasons
use Rattle.meaning.proofs.Tests.Refuse.{no_true, no_false}
use Rattle.meaning.proofs.Tests.Same.{same_refl, same_not}
use Rattle.meaning.proofs.Right.Steps.{step_at}
use Rattle.meaning.proofs.Right.Places.{At, at_start, at_description, at_transfer, at_model, at_topics, at_tables, at_objects, at_line, at_closing, at_nothing, UsedIn}
use Rattle.meaning.proofs.Right.Points.{coded_fields, lipt_code, arcp_code, elin_code}
use Rattle.meaning.proofs.Right.Names.{find_topic_lem, find_table_lem, optional_passes, passes_optional}
use Rattle.meaning.proofs.Right.FieldReasons.{not_defined, reason_cells, reason_values}
use Rattle.meaning.proofs.Right.StepNames.{topic_of_lem, table_of, used_before, not_before}
use Rattle.meaning.proofs.Right.LineSteps.{no_code, underway, at_line_lem, pointed_step, object_fields_lem}

-- ## Names

-- a topic or table of a name is found
pub topic_finds : {m : Model} {from q : ℕ} {name : List ℕ} → GoodModel m → TopicOf m from name q → find_topic from 0 name m.topics ≡ found q
topic_finds {m} {from} {q} {name} good t = find_topic_lem from 0 q q name m.topics good.topics t.within (omega arith) t.later t.named

pub table_finds : {m : Model} {p from q : ℕ} {name : List ℕ} → GoodModel m → TableOf m p from name q → find_table p from 0 name m.tables ≡ found q
table_finds {m} {p} {from} {q} {name} good t = find_table_lem p from 0 q q name m.tables (good.names_in_topic p) t.within (omega arith) t.later t.topic t.named

-- where there is none, none is found
not_found : (f : Found) → ((q : ℕ) → f ≡ found q → ⊥) → f ≡ missing
not_found missing h = refl
not_found (found q) h = absurd (h q refl)

no_topic_lem : (m : Model) (from : ℕ) (name : List ℕ) → ((q : ℕ) → TopicOf m from name q → ⊥) → find_topic from 0 name m.topics ≡ missing
no_topic_lem m from name h = not_found _ (λ q e. h q (topic_of_lem m from name q e))

no_table_lem : (m : Model) (p from : ℕ) (name : List ℕ) → ((q : ℕ) → TableOf m p from name q → ⊥) → find_table p from 0 name m.tables ≡ missing
no_table_lem m p from name h = not_found _ (λ q e. h q (table_of m p from name q e))

skips : (m : Model) (p from to : ℕ) → (AllOptional m p from to → ⊥) → mandatory_between p from to 0 m.tables ≡ true
skips m p from to h = no_false _ (λ e. h (passes_optional m p from to e))

-- ## Reasons

module _ (m : Model) (rooms : Rooms) (own : List ℕ) (c : Content) (l : Line) where
  abbrev Refuses : Due → (number field : ℕ) → Type 0
  Refuses due n k = step_at m rooms own due c l ≡ no n k

  -- no line of a line attribute: its code leads nowhere
  no_move : (s : LineState) (t forms : ℕ) (o : Bool) (cs : List Component) (ps : List Pair) → NoneOf (codes_at (line_in t s o forms cs ps)) l → move s (line_code_of (fields_of l.start l.bytes)) ≡ unexpected
  unfolding codes_at move line_code_of choose
  no_move unstarted t forms o cs ps h = rw (no_code STPT l h.0, no_code ELIN l h.1.0) (by (has_code LIPT _) (has_code ARCP _))
    where
      by : (a b : Bool) → move unstarted (choose a lipt (choose b arcp other)) ≡ unexpected
      by true b = refl
      by false true = refl
      by false false = refl
  no_move started t forms o cs ps h = rw (no_code LIPT l h.0, no_code ARCP l h.1.0) (by (has_code STPT _) (has_code ELIN _))
    where
      by : (a b : Bool) → move started (choose a stpt (choose b elin other)) ≡ unexpected
      by true b = refl
      by false true = refl
      by false false = refl
  no_move in_arc t forms o cs ps h = rw (no_code LIPT l h.0) (by (has_code STPT _) (has_code ARCP _) (has_code ELIN _))
    where
      by : (a b d : Bool) → move in_arc (choose a stpt (choose b arcp (choose d elin other))) ≡ unexpected
      by true b d = refl
      by false true d = refl
      by false false true = refl
      by false false false = refl
  no_move reached t forms o cs ps h = rw (no_code LIPT l h.0, no_code ARCP l h.1.0, no_code ELIN l h.1.1.0) (by (has_code STPT _))
    where
      by : (a : Bool) → move reached (choose a stpt other) ≡ unexpected
      by true = refl
      by false = refl

  other_code_lem : {due : Due} {x : Place} → At due x → (x ≡ in_description → ⊥) → NoneOf (codes_at x) l → Refuses due 7 1
  unfolding codes_at line_due opening_line transfer_line model_line topic_line table_line object_line behind_objects attribute_line closing_line choose refuse
  other_code_lem at_start d h = rw (no_code SCNT l h.0)
  other_code_lem at_description d h = absurd (d refl)
  other_code_lem at_transfer d h = rw (no_code MOTR l h.1.0, no_code MTID l h.0)
  other_code_lem at_model d h = rw (no_code MODL l h.0)
  other_code_lem at_topics d h = rw (no_code EMOD l h.1.0, no_code TOPI l h.0)
  other_code_lem at_tables d h = rw (no_code ETOP l h.1.0, no_code TABL l h.0)
  other_code_lem at_objects d h = rw (no_code OBJE l h.0, no_code ETAB l h.1.0)
  other_code_lem (at_line w cell ps e) d h = rw (no_move w.state w.table w.attribute.forms w.attribute.optional w.attribute.components ps h)
  other_code_lem at_closing d h = rw (no_code ENDE l h.0)
  other_code_lem at_nothing d h = refl

  -- a field has to follow the code
  no_field : {due : Due} {x : Place} {code : List ℕ} → NeedsField x code → At due x → Coded code l [] → Refuses due 11 2
  unfolding line_due transfer_line model_line topic_line table_line object_line object_fields named has_code same choose refuse
  no_field reasons.NeedsField.mtid at_transfer h = rw (coded_fields MTID l [] h)
  no_field reasons.NeedsField.modl at_model h = rw (coded_fields MODL l [] h)
  no_field reasons.NeedsField.topi at_topics h = rw (coded_fields TOPI l [] h)
  no_field reasons.NeedsField.tabl at_tables h = rw (coded_fields TABL l [] h)
  no_field reasons.NeedsField.obje at_objects h = rw (coded_fields OBJE l [] h)

  -- lines of a line attribute, by what is under way
  at_place : {due : Due} {t forms n k : ℕ} {s : LineState} {o : Bool} {cs : List Component} {ps : List Pair} → At due (line_in t s o forms cs ps)
      → ((first pair cell : ℕ) → Refuses (line_of (underway t s first pair o forms cs cell ps)) n k) → Refuses due n k
  at_place at h = let a = at_line_lem at in ap (λ (d : Due). step_at m rooms own d c l) a.is ∙ h a.first a.pair a.cell

  more_fields : (code : List ℕ) (f : Field) (fs : List Field) → (h : Coded code l (f ∷ fs)) → more_than 1 (h.first ∷ f ∷ fs) ≡ true
  more_fields code f fs h = lt-ltb 1 (length (h.first ∷ f ∷ fs)) (omega arith)

  behind_code_lem : {due : Due} {x y : Place} {code : List ℕ} → Bare m x code y → At due x → (f : Field) (fs : List Field) → Coded code l (f ∷ fs) → Refuses due 11 2
  unfolding line_due opening_line topic_line table_line topic_end object_line behind_objects attribute_line closing_line bare move has_code same choose refuse
  behind_code_lem reasons.Bare.scnt at_start f fs h = rw (coded_fields SCNT l (f ∷ fs) h, more_fields SCNT f fs h)
  behind_code_lem reasons.Bare.emod at_topics f fs h = rw (coded_fields EMOD l (f ∷ fs) h, more_fields EMOD f fs h)
  behind_code_lem (reasons.Bare.etop {p = p} {from = from} o) at_tables f fs h = rw (coded_fields ETOP l (f ∷ fs) h, optional_passes m p from (length m.tables) o, more_fields ETOP f fs h)
  behind_code_lem reasons.Bare.etab at_objects f fs h = rw (coded_fields ETAB l (f ∷ fs) h, more_fields ETAB f fs h)
  behind_code_lem reasons.Bare.elin at f fs h = at_place at (λ first pair cell. rw (elin_code l (f ∷ fs) h, h.fields, more_fields ELIN f fs h))
  behind_code_lem reasons.Bare.undrawn at f fs h = at_place at (λ first pair cell. rw (elin_code l (f ∷ fs) h, h.fields, more_fields ELIN f fs h))
  behind_code_lem reasons.Bare.ende at_closing f fs h = rw (coded_fields ENDE l (f ∷ fs) h, more_fields ENDE f fs h)

  still_more : (code : List ℕ) (f g : Field) (fs : List Field) → (h : Coded code l (f ∷ g ∷ fs)) → more_than 2 (h.first ∷ f ∷ g ∷ fs) ≡ true
  still_more code f g fs h = lt-ltb 2 (length (h.first ∷ f ∷ g ∷ fs)) (omega arith)

  module _ (good : GoodModel m) where
    behind_name_lem : {due : Due} {x y : Place} {code name : List ℕ} → Titled m x code name y → At due x → (f g : Field) (fs : List Field) → f.bytes ≡ name → Coded code l (f ∷ g ∷ fs) → Refuses due 11 3
    unfolding line_due transfer_line model_line topic_line table_line named has_code same choose refuse
    behind_name_lem reasons.Titled.mtid at_transfer f g fs e h = rw (coded_fields MTID l (f ∷ g ∷ fs) h, more_fields MTID f (g ∷ fs) h, e, same_refl m.transfer, still_more MTID f g fs h)
    behind_name_lem reasons.Titled.modl at_model f g fs e h = rw (coded_fields MODL l (f ∷ g ∷ fs) h, more_fields MODL f (g ∷ fs) h, e, same_refl m.name, still_more MODL f g fs h)
    behind_name_lem (reasons.Titled.topi t) at_topics f g fs e h = rw (coded_fields TOPI l (f ∷ g ∷ fs) h, more_fields TOPI f (g ∷ fs) h, e, topic_finds good t, still_more TOPI f g fs h)
    behind_name_lem (reasons.Titled.tabl {p = p} {from = from} {t = q} t o) at_tables f g fs e h =
        rw (coded_fields TABL l (f ∷ g ∷ fs) h, more_fields TABL f (g ∷ fs) h, e, table_finds good t, optional_passes m p from q o, still_more TABL f g fs h)

    module _ (used : List (List ℕ)) (uses : UsedIn own c used) where
      refuses : {due : Due} {x : Place} {n k : ℕ} → Reason m used x l n k → At due x → Refuses due n k
      unfolding line_due description_line transfer_line model_line topic_line table_line topic_end object_line object_fields store_row attribute_line store_point named bare move is_forbidden is_in_arc has_code same choose refuse
      refuses (reasons.Reason.other_code d h) at = other_code_lem at d h
      refuses (reasons.Reason.other_division e h) at_description = rw (e, no_code slashes l h)
      refuses (reasons.Reason.motr {fs = fs} h) at_transfer = rw (coded_fields MOTR l fs h)
      refuses (reasons.Reason.no_straights {fs = fs} behind_start h) at = at_place at (λ first pair cell. rw (lipt_code l fs h, lipt_code l fs h))
      refuses (reasons.Reason.no_straights {fs = fs} behind_point h) at = at_place at (λ first pair cell. rw (lipt_code l fs h, lipt_code l fs h))
      refuses (reasons.Reason.no_arcs {fs = fs} behind_start h) at = at_place at (λ first pair cell. rw (arcp_code l fs h, arcp_code l fs h))
      refuses (reasons.Reason.no_arcs {fs = fs} behind_point h) at = at_place at (λ first pair cell. rw (arcp_code l fs h, arcp_code l fs h))
      refuses (reasons.Reason.other_transfer {f = f} {fs = fs} h d) at_transfer = rw (coded_fields MTID l (f ∷ fs) h, more_fields MTID f fs h, same_not f.bytes m.transfer d)
      refuses (reasons.Reason.other_model {f = f} {fs = fs} h d) at_model = rw (coded_fields MODL l (f ∷ fs) h, more_fields MODL f fs h, same_not f.bytes m.name d)
      refuses (reasons.Reason.no_topic {from = from} {f = f} {fs = fs} h none) at_topics = rw (coded_fields TOPI l (f ∷ fs) h, more_fields TOPI f fs h, no_topic_lem m from f.bytes none)
      refuses (reasons.Reason.no_table {p = p} {from = from} {f = f} {fs = fs} h none) at_tables = rw (coded_fields TABL l (f ∷ fs) h, more_fields TABL f fs h, no_table_lem m p from f.bytes none)
      refuses (reasons.Reason.skipped {p = p} {from = from} {t = q} {f = f} {fs = fs} h t o) at_tables = rw (coded_fields TABL l (f ∷ fs) h, more_fields TABL f fs h, table_finds good t, skips m p from q o)
      refuses (reasons.Reason.skipped_last {p = p} {from = from} {fs = fs} h o) at_tables = rw (coded_fields ETOP l fs h, skips m p from (length m.tables) o)
      refuses (reasons.Reason.no_field x h) at = no_field x at h
      refuses (reasons.Reason.behind_code {f = f} {fs = fs} x h) at = behind_code_lem x at f fs h
      refuses (reasons.Reason.behind_division {f = f} {fs = fs} e h) at_description = rw (e, coded_fields slashes l (f ∷ fs) h, more_fields slashes f fs h)
      refuses (reasons.Reason.behind_name {f = f} {g = g} {fs = fs} x h) at = behind_name_lem x at f g fs refl h
      refuses (reasons.Reason.undrawn {fs = fs} h) at = at_place at (λ first pair cell. rw (elin_code l fs h))
      refuses (reasons.Reason.undefined_identification {i = i} {fs = fs} h d) at_objects = rw (coded_fields OBJE l (i ∷ fs) h, more_fields OBJE i fs h, not_defined m.undefined i d)
      refuses (reasons.Reason.no_identification {i = i} {fs = fs} h d e) at_objects = rw (coded_fields OBJE l (i ∷ fs) h, more_fields OBJE i fs h, d.one, d.two, e)
      refuses (reasons.Reason.used_twice {i = i} {fs = fs} h d u) at_objects =
          rw (coded_fields OBJE l (i ∷ fs) h, more_fields OBJE i fs h, d.defined.one, d.defined.two, d.shape, no_false _ (λ e. not_before own c used uses i.bytes e u))
      refuses (reasons.Reason.of_fields {t = t} {i = i} {fs = fs} h d fresh r) at_objects =
          object_fields_lem m rooms own l c t i fs h d (no_true _ (λ e. fresh (used_before own c used uses i.bytes e))) ∙ rw (reason_cells r)
      refuses (reasons.Reason.of_point x h r) at = (pointed_step m rooms own l c x at h).step ∙ rw (reason_values r)

pub reasoned : (m : Model) (rooms : Rooms) (own : List ℕ) (used : List (List ℕ)) (due : Due) (c : Content) (x : Place) (l : Line) → GoodModel m → At due x → UsedIn own c used → (n k : ℕ) → Reason m used x l n k
    → step_at m rooms own due c l ≡ no n k
reasoned m rooms own used due c x l good at uses n k r = refuses m rooms own c l good used uses r at
