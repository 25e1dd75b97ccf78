-- `write_file::put_file` meets its contract. Assumes nothing.
use mathlib.Core.Path.{ap}
use Rattle.meaning.specs.Width.{cut_lines}
use Rattle.model_records.specs.Records.{model_at}
use Rattle.model_records.proofs.AtRecord.{beginning}
use Rattle.table.specs.Contents.{content}
use Rattle.write_lines.proofs.Puts.{renamed}
use Rattle.write_file.proofs.Frames.{lines_then}
use Rattle.write_file.proofs.Topics.{whole_file}
use Rattle.write_file.proofs.file.put_file.Goals as goal

pub then_head-head-requires : goal.then_head-head-requires
then_head-head-requires c = beginning _ _ c.requires.placed.good

pub returns : goal.returns
returns c =
    let a = c.args in
    let s = a.style in
    let w = whole_file (model_at a.model.now.bytes.now) a.table.now.text.now (content a.table.now) in
    renamed _ _ _ a.out.now _ c.then_alone.result (ap (cut_lines s.mark s.width) w)
    (lines_then s.mark s.width _ _ c.then_head-head.ensures
    (lines_then s.mark s.width _ _ c.then_topics-body.ensures
    (lines_then s.mark s.width _ _ c.then_alone-tail.ensures c.then_alone.ensures)))
