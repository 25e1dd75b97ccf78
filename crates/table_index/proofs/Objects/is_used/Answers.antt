-- `table_index::is_used` meets its contract: an identification is used exactly where an object is found. Assumes nothing.
use Rattle.std.proofs.Common.{sym, ap, ◌∙◌}
use Rattle.std.specs.Option.{is_some}
use Rattle.table_index.proofs.Meant.{used_last}
use Rattle.table_index.proofs.Objects.is_used.Goals as goal

pub returns : goal.returns
returns c =
    let a = c.args in
    c.is_some.ensures ∙ ap is_some c.find_hashed.ensures ∙ sym (used_last a.self.now.text.now a.self.now.rows.now a.self.now.cells.now a.identification.now a.self.now.count c.requires.objects_known.listed.in_rows)
