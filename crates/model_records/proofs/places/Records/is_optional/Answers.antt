-- `model_records::is_optional` meets its contract. Assumes nothing.
use native.Mathlib.Omega.{arith}
use mathlib.Core.Path.{◌∙◌, ap}
use Prim.Native.Nat.{ℕ}
use Rattle.meaning.specs.Model.{flag_of}
use Rattle.model_records.specs.Records.{payload_at}
use Rattle.model_records.proofs.places.Records.is_optional.Goals as goal

pub table_at-requires : goal.table_at-requires
table_at-requires c =
    omega (arith, c.requires.table_lt_tables, c.requires.placed.table_limit)

pub returns : goal.returns
returns c =
    let r = c.requires.placed.noted.table c.args.table c.requires.table_lt_tables in
    c.optional_at.ensures ∙ ap (λ (x : ℕ). flag_of (payload_at c.args.self.now.bytes.now x)) c.table_at.ensures ∙ r.optional
