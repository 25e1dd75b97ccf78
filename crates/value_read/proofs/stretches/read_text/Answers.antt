-- `value_read::stretches::read_text` meets its contract. Assumes nothing.
use mathlib.Core.Path.{sym, ◌∙◌}
use borrow.Author.Tests.{lt-ltb, le-ltb}
use Rattle.meaning.specs.Bytes.{refuse}
use Rattle.meaning.specs.Value.{text_of}
use Rattle.value_read.proofs.stretches.read_text.Goals as goal

pub returns-then-not-every_text_byte : goal.returns-then-not-every_text_byte
unfolding text_of refuse
returns-then-not-every_text_byte c = rw (sym c.every_text_byte.ensures ∙ c.if-not-every_text_byte.true)

pub returns-then-longest-field : goal.returns-then-longest-field
unfolding text_of refuse
returns-then-longest-field c =
    rw (sym c.every_text_byte.ensures ∙ c.if-not-every_text_byte.false, lt-ltb _ _ c.if-longest-field.true)

pub returns : goal.returns
unfolding text_of refuse
returns c =
    rw (sym c.every_text_byte.ensures ∙ c.if-not-every_text_byte.false, le-ltb _ _ c.if-longest-field.false) c.stretch.ensures
