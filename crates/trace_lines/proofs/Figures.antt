-- The figures hold: each is computed.
use mathlib.Core.Path.{refl}
use Rattle.isa.specs.Read.{read, read_r, read_i, read_movei, read_j, read_c, read_m, as_r, as_i, as_movei, as_j, as_c, as_m, guarded, listed}
use Rattle.isa.specs.Table.{find}
use Rattle.isa.specs.Test.{all}
use Rattle.isa.specs.Text.{bytes, bytes_from}
use Rattle.listing.specs.Listing.{label}
use Rattle.text.specs.Number.{decimal, decimal_long}
use Rattle.text.specs.Parts.{concat}
use Rattle.thread_lines.specs.Lines.{reason}
use Rattle.thread_lines.specs.Text.{counter}
use Rattle.trace_lines.specs.Figures.{FiguresHold}
use Rattle.trace_lines.specs.Lines.{name_in, line_parts, page_parts, page_text}
use Rattle.word_layout.specs.Layout.{signed}

pub figures-hold : FiguresHold
unfolding
    read read_r read_i read_movei read_j read_c read_m as_r as_i as_movei as_j as_c as_m guarded listed find all signed
    bytes bytes_from label decimal decimal_long concat reason counter name_in line_parts page_parts page_text
figures-hold =
    record {
      turns = refl;
      undefined = refl;
      not-fitted = refl;
      ended = refl;
      waiting = refl;
      none-fetched = refl;
    }
