-- `read_frame::end_topic` meets its contract. Assumes nothing.
use Rattle.read_frame.proofs.TableLines.{topic_owes, topic_ended, ended_holds}
use Rattle.meaning.specs.Field.{fields_of}
use mathlib.Core.Path.{sym, ◌∙◌}
use native.Mathlib.Omega.{arith}
use Rattle.read_frame.proofs.tables.end_topic.Goals as goal

pub returns-then-has_mandatory : goal.returns-then-has_mandatory
returns-then-has_mandatory c =
    let a = c.args in
    record {
      meant = (λ s x. topic_owes _ a.model.now.bytes.now _ _ (fields_of s a.rest.now) x (sym c.has_mandatory.ensures ∙ c.if-has_mandatory.true));
      held = tt;
    }

pub returns : goal.returns
returns c =
    let a = c.args in
    let e = c.end_line.ensures in
    record {
      meant = (λ s x. topic_ended _ a.model.now.bytes.now _ _ (fields_of s a.rest.now) _ (e s) x (sym c.has_mandatory.ensures ∙ c.if-has_mandatory.false));
      held = ended_holds _ a.model.now.bytes.now _ a.from (fields_of 0 a.rest.now) _ (e 0) (omega (arith, c.requires.topic_lt_topics, c.requires.placed.topics));
    }
