-- The figures hold: each is computed.
use mathlib.Core.Path.{refl}
use Rattle.isa.specs.Text.{bytes, bytes_from}
use Rattle.intel_hex.specs.Digits.{value, pairs, hexes, total}
use Rattle.intel_hex.specs.Record.{lines_from, without_cr, record_of}
use Rattle.intel_hex.specs.File.{placed, steps, image_of}
use Rattle.little_endian.specs.Numbers.{number_at, number_bytes, words_of, bytes_of}
use Rattle.intel_hex.specs.Program.{program_bytes}
use Rattle.intel_hex.specs.Export.{record_text, body, export_text, export_into}
use Rattle.intel_hex.specs.Figures.{FiguresHold}

pub figures-hold : FiguresHold
unfolding bytes bytes_from value pairs hexes total lines_from without_cr record_of placed steps image_of number_at number_bytes words_of bytes_of program_bytes record_text body export_text export_into
figures-hold =
    record {
      word = refl;
      gap = refl;
      upper = refl;
      upper-half = refl;
      checksum = refl;
      lower = refl;
      cut = refl;
      empty = refl;
      length-byte = refl;
      placed_end = refl;
      no-data = refl;
      overlap = refl;
      wrap = refl;
      both = refl;
      endless = refl;
      behind = refl;
      nothing = refl;
      no_bytes = refl;
      part = refl;
      part-first = refl;
      room = refl;
      written = refl;
      five = refl;
      tight = refl;
      no_words = refl;
    }
