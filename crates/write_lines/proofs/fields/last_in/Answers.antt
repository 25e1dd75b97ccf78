-- `write_lines::fields::last_in` meets its contract. Assumes nothing.
use Rattle.std.proofs.lemmas.Option.{unwrap_or-slice_get}
use Rattle.write_lines.proofs.Puts.{last_got}
use Rattle.write_lines.proofs.fields.last_in.Goals as goal

pub returns : goal.returns
returns c =
    let a = c.args in
    rw (c.unwrap_or.ensures, c.copied.ensures, c.last.ensures.value, unwrap_or-slice_get) (last_got a.before a.part.now)
