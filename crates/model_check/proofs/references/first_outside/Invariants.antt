-- `model_check::references::first_outside` meets its contract. Assumes nothing.
use Prim.Native.Nat.{◌-◌, ◌≤◌}
use mathlib.Core.List.{List}
use mathlib.Core.Path.{◌≡◌}
use lib.ListN.{length}
use Rattle.meaning.specs.Check.{Checked, judge_references}
use Rattle.meaning.specs.Model.{Table, tables_of}
use Rattle.model_check.specs.References.{topic_numbers}
use Rattle.model_records.specs.Records.{records_at}
use Rattle.model_check.proofs.Judging.{judged_at}
use Rattle.model_check.proofs.references.first_outside.Given as goal

abbrev pub invariant-loop-j : goal.invariant-loop-j
invariant-loop-j l = (l.j.topics ≤ l.j.at) × ((ts : List Table) (rest : Checked) → topic_numbers ts ≡ l.places → judged_at ts rest l.model l.j ≡ judge_references ts (tables_of 0 (records_at l.model 0)) rest)

abbrev pub decreases-loop-j : goal.decreases-loop-j
decreases-loop-j l = length l.model - l.j.at
