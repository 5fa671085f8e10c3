-- What is proved of the definitions.
use Rattle.std.specs.Prelude.{ℕ, true, List, ◌≡◌}
use Rattle.machine.specs.State.{State}
use Rattle.machine.specs.WellFormed.{well_formed}
use Rattle.interpreter.specs.Demand.{enabled_threads}
use Rattle.night.specs.Claims.{FairNight}
use Rattle.minute_lines.specs.Line.{read_line}
use Rattle.minute_lines.specs.Parsing.{with_bytes, reading_in}
use Rattle.minute_lines.specs.Taking.{printed, calls_of, lines_of, take_all}
use Rattle.minute_lines.specs.Types.{Empty, Kept}

-- a line read byte by byte gives what the whole line gives, however long it is
abbrev pub ReadsLines : Type 0
ReadsLines = (line : List ℕ) → reading_in (with_bytes Empty line) ≡ read_line line

-- byte by byte, what is printed is what is printed line by line
abbrev pub PrintsLines : Type 0
PrintsLines = (p : List ℕ) (s : State) (kept : Kept) (input : List ℕ)
    → take_all p (record { kept = kept; line = Empty; left = s }) input ≡ printed p s kept (lines_of input)

-- over any lines, the turns of the whole night are fair
abbrev pub LinesFair : Type 0
LinesFair = (p : List ℕ) (s : State) (kept : Kept) (lines : List (List ℕ)) → well_formed s.machine ≡ true
    → FairNight (calls_of p s kept lines) s kept (enabled_threads s.machine)
