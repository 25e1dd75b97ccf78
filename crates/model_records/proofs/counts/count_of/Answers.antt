-- `model_records::count_of` meets its contract. Assumes nothing.
use borrow.Author.Tests.{ne_eqb}
use Rattle.meaning.specs.Bytes.{choose}
use Rattle.model_records.specs.Counts.{fields_of, pair_count}
use Rattle.model_records.proofs.counts.count_of.Goals as goal

pub returns-in-2 : goal.returns-in-2
unfolding fields_of pair_count choose
returns-in-2 c = record { fields = rw c.in-2.is; pairs = rw c.in-2.is }

pub returns-in-3 : goal.returns-in-3
unfolding fields_of pair_count choose
returns-in-3 c = record { fields = rw c.in-3.is; pairs = rw c.in-3.is }

pub returns-in-8 : goal.returns-in-8
unfolding fields_of pair_count choose
returns-in-8 c = record { fields = rw c.in-8.is; pairs = rw c.in-8.is }

pub returns-in_default : goal.returns-in_default
unfolding fields_of pair_count choose
returns-in_default c =
    let t = c.args.kind in
    let r = c.in_default.in_default-own.rest in
    record { fields = rw (ne_eqb t 2 r.0.0.1, ne_eqb t 3 r.0.1, ne_eqb t 8 r.1); pairs = rw (ne_eqb t 2 r.0.0.1, ne_eqb t 3 r.0.1) }
