-- Lines of fields as they are written.
use Rattle.std.specs.Prelude.{ℕ, List}
use Rattle.meaning.specs.Writing.{lines_bytes}
use Rattle.meaning.specs.Width.{cut_lines}
use Rattle.write_lines.specs.declared.style.LineStyle.{LineStyle}

-- lines of fields as they are written
abbrev pub cut_of : LineStyle → List (List (List ℕ)) → List ℕ
cut_of s ls = cut_lines s.mark s.width (lines_bytes ls)
