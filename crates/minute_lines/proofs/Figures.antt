-- The figures hold: each is computed.
use mathlib.Core.Path.{refl}
use Rattle.isa.specs.Text.{bytes, bytes_from}
use Rattle.text.specs.Number.{decimal}
use Rattle.text.specs.Parts.{concat}
use Rattle.minute_lines.specs.Answers.{report_parts, refusal_parts}
use Rattle.minute_lines.specs.Figures.{FiguresHold}
use Rattle.minute_lines.specs.Line.{digits_of, behind, written, read_line}
use Rattle.minute_lines.specs.Taking.{lines_from}

pub figures-hold : FiguresHold
unfolding bytes bytes_from decimal concat report_parts refusal_parts digits_of behind written read_line lines_from
figures-hold =
    record {
      plain = refl;
      marked = refl;
      last = refl;
      zeros = refl;
      late = refl;
      long = refl;
      empty = refl;
      lone-mark = refl;
      two-marks = refl;
      upper-mark = refl;
      inside = refl;
      blank-before = refl;
      blank-behind = refl;
      carriage-return = refl;
      sign = refl;
      two-lines = refl;
      no_more = refl;
      spring = refl;
      refusal = refl;
    }
