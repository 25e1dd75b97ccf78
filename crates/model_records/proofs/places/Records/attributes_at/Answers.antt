-- `model_records::attributes_at` meets its contract. Assumes nothing.
use native.Mathlib.Omega.{arith}
use mathlib.Core.Path.{◌∙◌, ap}
use Rattle.model_records.specs.Records.{next_at}
use Rattle.model_records.proofs.places.Records.attributes_at.Goals as goal

pub table_at-requires : goal.table_at-requires
table_at-requires c = omega (arith, c.requires.table_lt_tables, c.requires.placed.table_limit)

pub next_at-requires : goal.next_at-requires
next_at-requires c =
    let r = c.requires.placed.noted.table c.args.table c.requires.table_lt_tables in
    rw c.table_at.ensures (omega (arith, r.fits, r.flag))

pub returns : goal.returns
returns c = c.next_at.ensures ∙ ap (next_at c.args.self.now.bytes.now) c.table_at.ensures
