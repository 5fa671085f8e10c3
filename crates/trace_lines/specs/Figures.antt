-- Lines of a trace, computed.
use Rattle.std.specs.Prelude.{ℕ, [], ◌∷◌, ◌≡◌}
use Rattle.isa.specs.Text.{bytes}
use Rattle.trace_lines.specs.Lines.{page_text}
use Rattle.trace_lines.specs.Types.{Status, Running, Ended, Trapped, Waiting, Row}

abbrev pub row : ℕ → ℕ → ℕ → Status → Row
row thread address word status = record { thread = thread; address = address; word = word; status = status }

pub record FiguresHold : Type 0 where
  -- the words of the lister's figure: two threads take turns, and the second issue of the first traps
  pub turns : page_text 0 (row 0 0 0x040C1080 Running ∷ row 1 0 0x040C1080 Running ∷ [])
      ≡ bytes "1 0 00000000 040C1080 add running\n2 1 00000000 040C1080 add running\n"
  pub undefined : page_text 2 (row 0 4 0 (Trapped 3) ∷ []) ≡ bytes "3 0 00000004 00000000 undefined trapped: undefined word\n"
  pub not-fitted : page_text 41 (row 7 8 0x2D000000 (Trapped 6) ∷ []) ≡ bytes "42 7 00000008 2D000000 not-fitted trapped: not fitted\n"
  pub ended : page_text 0 (row 0 12 0x7A000000 Ended ∷ []) ≡ bytes "1 0 0000000C 7A000000 end ended\n"
  pub waiting : page_text 1 (row 0 4 0x78001000 (Waiting 0 2) ∷ []) ≡ bytes "2 0 00000004 78001000 barrier waiting at barrier 0 for 2\n"
  -- "word (0 where none was fetched)"
  pub none-fetched : page_text 9 (row 1 6 0 (Trapped 4) ∷ []) ≡ bytes "10 1 00000006 00000000 - trapped: outside the program\n"
