-- `model_records::AttributeRecords::next` meets its contract. Assumes nothing.
use native.Mathlib.Omega.{arith}
use mathlib.Core.Path.{◌≡◌, refl, sym, ◌∙◌}
use Rattle.model_records.specs.Records.{model_at, kind_at}
use Rattle.model_records.specs.AtRecord.{AttributesHere}
use Rattle.model_records.proofs.AtRecord.{here, attribute_here, no_attribute}
use Rattle.model_records.proofs.records.AttributeRecordsIterator.next.Goals as goal

pub kind_at-requires : goal.kind_at-requires
kind_at-requires c = (here _ _ _ _ _ c.requires.standing).room

pub returns-then-kind_at-ne-ATTRIBUTE-clause-steps : goal.returns-then-kind_at-ne-ATTRIBUTE-clause-steps
returns-then-kind_at-ne-ATTRIBUTE-clause-steps c =
    let n : kind_at c.args.self.now.model.now c.args.self.now.at ≡ 5 → ⊥ = λ e. c.if-kind_at-ne-ATTRIBUTE.true (c.kind_at.ensures ∙ e) in
    record { kind = n; attributes = no_attribute _ _ _ _ _ c.requires.standing n }

pub next_at-self-requires : goal.next_at-self-requires
next_at-self-requires c = (here _ _ _ _ _ c.requires.standing).room

pub returns-clause-steps : goal.returns-clause-steps
returns-clause-steps c =
    record {
      model = refl;
      at = refl;
      kind = sym c.kind_at.ensures ∙ c.if-kind_at-ne-ATTRIBUTE.false;
      next = c.next_at-self.ensures;
      topics = c.requires.topics;
      tables = c.requires.tables;
      here = attribute_here _ _ _ _ _ c.requires.standing (sym c.kind_at.ensures ∙ c.if-kind_at-ne-ATTRIBUTE.false);
    }

pub returns-clause-goes : goal.returns-clause-goes
returns-clause-goes c =
    let s = c.requires.standing in
    let a = attribute_here _ _ _ _ _ s (sym c.kind_at.ensures ∙ c.if-kind_at-ne-ATTRIBUTE.false) in
    let next : AttributesHere (model_at c.args.self.now.model.now) c.args.self.now.model.now c.next_at-self.result = record { topics = c.requires.topics; tables = c.requires.tables; standing = rw c.next_at-self.ensures a.next } in
    record {
      on = λ _. (next, tt, omega (arith, c.next_at-self.ensures, (here _ _ _ _ _ s).room, (here _ _ _ _ _ s).fits));
      keeps = next;
      rests = λ _. tt;
    }
