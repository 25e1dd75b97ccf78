-- `read_step::frame_line` meets its contract. Assumes nothing.
use mathlib.Core.Path.{refl}
use Rattle.meaning.specs.Lines.{line_due}
use Rattle.model_records.specs.Records.{model_at}
use Rattle.read_state.specs.Meaning.{frame_due_of}
use Rattle.read_state.specs.declared.FrameDue.TheVariants as frame
use Rattle.read_step.proofs.Stepping.{by_frame, plain_frame, marked_frame}
use Rattle.read_step.proofs.line.frame_line.Goals as goal

pub returns-in-Nothing : goal.returns-in-Nothing
unfolding line_due frame_due_of
returns-in-Nothing c =
    let a = c.args in
    record {
      step = (λ rooms text start rows cells points. by_frame (model_at a.model.now.bytes.now) rooms text a.due frame.Nothing a.line.now _ _ _ c.in-Nothing.is refl);
      holds = (λ text seed rows cells points index h. tt);
    }

pub returns-in-Opening : goal.returns-in-Opening
unfolding line_due frame_due_of
returns-in-Opening c =
    let a = c.args in
    let b = a.model.now.bytes.now in
    let m = c.opening_line in
    let p = c.plain_step in
    let t = plain_frame b a.state a.line.now a.marks.now a.due frame.Opening c.in-Opening.is m.result p.result (m.ensures.held (model_at b) b) (p.ensures.step b) (p.ensures.holds b)
    (λ rooms text start x. m.ensures.meant (model_at b) rooms text b start x) in
    record { step = t.0; holds = t.1 }

pub returns-in-Description : goal.returns-in-Description
unfolding line_due frame_due_of
returns-in-Description c =
    let a = c.args in
    let b = a.model.now.bytes.now in
    let m = c.description_line in
    let p = c.plain_step-in-Description in
    let t = plain_frame b a.state a.line.now a.marks.now a.due frame.Description c.in-Description.is m.result p.result (m.ensures.held (model_at b) b) (p.ensures.step b) (p.ensures.holds b)
    (λ rooms text start x. m.ensures.meant (model_at b) rooms text b start x) in
    record { step = t.0; holds = t.1 }

pub returns-in-Transfer : goal.returns-in-Transfer
unfolding line_due frame_due_of
returns-in-Transfer c =
    let a = c.args in
    let b = a.model.now.bytes.now in
    let m = c.transfer_line in
    let p = c.plain_step-in-Transfer in
    let t = plain_frame b a.state a.line.now a.marks.now a.due frame.Transfer c.in-Transfer.is m.result p.result m.ensures.held (p.ensures.step b) (p.ensures.holds b)
    (λ rooms text start x. m.ensures.meant rooms text start x) in
    record { step = t.0; holds = t.1 }

pub returns-in-ModelName : goal.returns-in-ModelName
unfolding line_due frame_due_of
returns-in-ModelName c =
    let a = c.args in
    let b = a.model.now.bytes.now in
    let m = c.model_line in
    let p = c.plain_step-in-ModelName in
    let t = plain_frame b a.state a.line.now a.marks.now a.due frame.ModelName c.in-ModelName.is m.result p.result m.ensures.held (p.ensures.step b) (p.ensures.holds b)
    (λ rooms text start x. m.ensures.meant rooms text start x) in
    record { step = t.0; holds = t.1 }

pub returns-in-Topic : goal.returns-in-Topic
unfolding line_due frame_due_of
returns-in-Topic c =
    let a = c.args in
    let b = a.model.now.bytes.now in
    let m = c.topic_line in
    let p = c.marked_step in
    let t = marked_frame b a.state a.line.now a.marks.now a.due (frame.Topic c.in-Topic.from) c.in-Topic.is m.result p.result m.ensures.held _ a.model.now.shape.topics c.requires.prepared.placed.topics (p.ensures.step b) (p.ensures.holds b)
    m.ensures.meant in
    record { step = t.0; holds = t.1 }

pub returns-in-Table : goal.returns-in-Table
unfolding line_due frame_due_of
returns-in-Table c =
    let a = c.args in
    let b = a.model.now.bytes.now in
    let m = c.table_line in
    let p = c.marked_step-in-Table in
    let t = marked_frame b a.state a.line.now a.marks.now a.due (frame.Table c.in-Table.topic c.in-Table.from) c.in-Table.is m.result p.result m.ensures.held _ a.model.now.shape.topics c.requires.prepared.placed.topics (p.ensures.step b) (p.ensures.holds b)
    m.ensures.meant in
    record { step = t.0; holds = t.1 }

pub returns-in-Closing : goal.returns-in-Closing
unfolding line_due frame_due_of
returns-in-Closing c =
    let a = c.args in
    let b = a.model.now.bytes.now in
    let m = c.closing_line in
    let p = c.plain_step-in-Closing in
    let t = plain_frame b a.state a.line.now a.marks.now a.due frame.Closing c.in-Closing.is m.result p.result (m.ensures.held (model_at b) b) (p.ensures.step b) (p.ensures.holds b)
    (λ rooms text start x. m.ensures.meant (model_at b) rooms text b start x) in
    record { step = t.0; holds = t.1 }
