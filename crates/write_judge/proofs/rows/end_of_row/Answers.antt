-- `write_judge::rows::end_of_row` meets its contract. Assumes nothing.
use native.Mathlib.Omega.{arith}
use mathlib.Core.Path.{sym, ap, ◌∙◌}
use mathlib.Core.List.{List}
use lib.ListN.{length}
use Rattle.meaning.specs.Row.{Pair}
use Rattle.meaning.specs.Judge.{row_end}
use Rattle.model_records.specs.Records.{model_at}
use Rattle.write_judge.specs.Rows.{table_tests}
use Rattle.write_judge.proofs.Heads.{table_in_lem, row_attributes, row_pairs, end_table, end_short, end_is}
use Rattle.write_judge.proofs.rows.end_of_row.Goals as goal

pub returns-then-room-lt3 : goal.returns-then-room-lt3
returns-then-room-lt3 c =
    let a = c.args in
    let t = a.table.now in
    end_short (table_tests a.model.now.shape t a.least a.at) (row_end (model_at a.model.now.bytes.now) t.cells.now a.at) (length t.cells.now) (omega arith)

pub returns-then-not-judge_table : goal.returns-then-not-judge_table
returns-then-not-judge_table c = end_table _ _ _ (sym c.judge_table.ensures ∙ c.if-not-judge_table.true)

pub attributes_at-requires : goal.attributes_at-requires
attributes_at-requires c =
    let l = table_in_lem _ _ _ _ (sym c.judge_table.ensures ∙ c.if-not-judge_table.false) in
    record { placed = c.requires.judging.placed; table_lt_tables = omega (arith, c.size_at-number.ensures, l) }

pub count_pairs-pairs-requires : goal.count_pairs-pairs-requires
count_pairs-pairs-requires c =
    let l = table_in_lem _ _ _ _ (sym c.judge_table.ensures ∙ c.if-not-judge_table.false) in
    let z = c.size_at-number.ensures in
    row_attributes c.args.model.now c.requires.judging.placed c.args.table.now.cells.now c.args.at _ z (omega (arith, z, l)) _ c.attributes_at.ensures

pub returns-then-room-pairs : goal.returns-then-room-pairs
returns-then-room-pairs c =
    let a = c.args in
    let t = a.table.now in
    let l = table_in_lem _ _ _ _ (sym c.judge_table.ensures ∙ c.if-not-judge_table.false) in
    let z = c.size_at-number.ensures in
    let q = ap (λ (ps : List Pair). length ps) (row_pairs a.model.now c.requires.judging.placed t.cells.now a.at _ z (omega (arith, z, l)) _ c.attributes_at.ensures) in
    end_short (table_tests a.model.now.shape t a.least a.at) (row_end (model_at a.model.now.bytes.now) t.cells.now a.at) (length t.cells.now) (omega (arith, c.if-room-pairs.true, c.count_pairs-pairs.ensures.count, q, c.if-room-lt3.false))

pub returns : goal.returns
returns c =
    let a = c.args in
    let t = a.table.now in
    let y = sym c.judge_table.ensures ∙ c.if-not-judge_table.false in
    let z = c.size_at-number.ensures in
    let q = ap (λ (ps : List Pair). length ps) (row_pairs a.model.now c.requires.judging.placed t.cells.now a.at _ z (omega (arith, z, table_in_lem _ _ _ _ y)) _ c.attributes_at.ensures) in
    let k = c.count_pairs-pairs.ensures.count in
    end_is (table_tests a.model.now.shape t a.least a.at) (row_end (model_at a.model.now.bytes.now) t.cells.now a.at) (length t.cells.now) _ y (omega (arith, c.if-room-pairs.false, k, q, c.if-room-lt3.false)) (omega (arith, k, q))
