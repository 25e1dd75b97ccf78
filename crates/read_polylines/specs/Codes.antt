-- The code of a line of a line attribute, by the code that its first field is.
use Rattle.std.specs.Prelude.{Option, Some}
use Rattle.meaning.specs.Reading.{LineCode, stpt, lipt, arcp, elin, other}
use Rattle.read_frame.specs.declared.codes.Code.{Code}
use Rattle.read_frame.specs.declared.codes.Code.TheVariants.{Stpt, Lipt, Arcp, Elin}

abbrev pub code_of : Option Code → LineCode
code_of (Some Stpt) = stpt
code_of (Some Lipt) = lipt
code_of (Some Arcp) = arcp
code_of (Some Elin) = elin
code_of _ = other
