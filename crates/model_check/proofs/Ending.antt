-- The end of the walk: the end record was the last, and the references are judged. Assumes nothing.
use Prim.Native.Nat.{ℕ, ◌≤◌, ◌<◌}
use mathlib.Core.Path.{◌≡◌, sym, ap, ◌∙◌}
use mathlib.Core.List.{List}
use lib.ListN.{length, take}
use borrow.Author.Tests.{ne_eqb, eq-eqb, lt-ltb, le-ltb}
use Rattle.meaning.specs.Bytes.{refuse}
use Rattle.meaning.specs.Answer as meaning
use Rattle.meaning.specs.Model.{Table, topics_of, tables_of, model_of}
use Rattle.meaning.specs.Check as check
use Rattle.meaning.proofs.Model.Models.{model_lists}
use Rattle.model_records.specs.Records.{records_at}
use Rattle.model_check.specs.References.{topic_numbers, outside_meant}
use Rattle.model_check.specs.Walk.{WalkerHolds, checked_records}
use Rattle.model_check.specs.declared.check.Walker.{Walker}
use Rattle.std.proofs.Common.{Option, Some, None}

module _ (b : List ℕ) (w : Walker) (ps : List ℕ) (k : WalkerHolds b w ps) where
  ended : (w.before ≡ 6 → ⊥) → (rest : check.Checked) → check.check_records 0 check.nothing_seen (records_at b 0) rest ≡ check.bad w.at
  unfolding refuse
  ended n rest = k.checked rest ∙ rw (ne_eqb w.before 6 n)

  pub no_end : (w.before ≡ 6 → ⊥) → meaning.refusal 2 w.at 0 ≡ meaning.check_answer (checked_records b)
  unfolding refuse meaning.check_answer
  no_end n = sym (ap meaning.check_answer (ended n _))

  whole : w.before ≡ 6 → (rest : check.Checked) → check.check_records 0 check.nothing_seen (records_at b 0) rest ≡ rest
  unfolding refuse
  whole e rest = k.checked rest ∙ rw (eq-eqb w.before 6 e)

  -- what the judging of references found decides
  module _ (e : w.before ≡ 6) (o : Option ℕ)
      (found : (ts : List Table) (rest : check.Checked) → topic_numbers ts ≡ take w.count ps → outside_meant o rest ≡ check.judge_references ts (tables_of 0 (records_at b 0)) rest) where
    lists : ((model_of (records_at b 0)).topics ≡ topics_of (records_at b 0)) × ((model_of (records_at b 0)).tables ≡ tables_of 0 (records_at b 0))
    lists = model_lists (records_at b 0) (check.good (model_of (records_at b 0))) (model_of (records_at b 0)) (whole e _)

    judged : checked_records b ≡ outside_meant o (check.good (model_of (records_at b 0)))
    judged = whole e _ ∙ rw lists.1 (sym (found (tables_of 0 (records_at b 0)) _ k.placed))

    pub outside : (at : ℕ) → o ≡ Some at → meaning.refusal 2 at 0 ≡ meaning.check_answer (checked_records b)
    unfolding outside_meant meaning.check_answer
    outside at q = sym (ap meaning.check_answer (judged ∙ ap (λ (x : Option ℕ). outside_meant x (check.good (model_of (records_at b 0)))) q))

    pub good_model : o ≡ None → meaning.accepted w.topics 0 0 ≡ meaning.check_answer (checked_records b)
    unfolding outside_meant meaning.check_answer
    good_model q =
        sym (ap meaning.check_answer (judged ∙ ap (λ (x : Option ℕ). outside_meant x (check.good (model_of (records_at b 0)))) q) ∙ ap (λ (n : ℕ). meaning.accepted n 0 0) (ap length lists.0 ∙ sym k.counted))

-- a model that is too long, or is not
pub too_long : (b : List ℕ) → 65536 < length b → meaning.refusal 2 0 0 ≡ meaning.check b
unfolding meaning.check check.check_model refuse meaning.check_answer
too_long b h = rw (lt-ltb 65536 (length b) h)

pub not_long : (b : List ℕ) → length b ≤ 65536 → meaning.check_answer (checked_records b) ≡ meaning.check b
unfolding meaning.check check.check_model refuse
not_long b h = rw (le-ltb 65536 (length b) h)
