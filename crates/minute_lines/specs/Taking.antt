-- What the program prints for its input, line by line and byte by byte (document 02, T-14).
use Rattle.std.specs.Prelude.{Result, Ok, Err, Some, ℕ, Bool, true, false, cond, List, [], ◌∷◌, ◌++◌, eqb}
use Rattle.std.proofs.Math.Option.{Option, none, some}
use Rattle.answer.specs.Answer.{refused, bad-minute}
use Rattle.machine.specs.State.{State, state}
use Rattle.machine.specs.declared.record.Machine.{Machine}
use Rattle.night.specs.Claims.{Call}
use Rattle.night.specs.Tick.{Outcome, tick}
use Rattle.text.specs.Buffer.{Wrote, wrote, writes}
use Rattle.minute_lines.specs.Answers.{answer_text}
use Rattle.minute_lines.specs.Line.{Given, read_line}
use Rattle.minute_lines.specs.Parsing.{with_byte, reading_in}
use Rattle.minute_lines.specs.Types.{Line, Empty, Digits, Marked, Wrong, Refusal, Tick, Kept, Held, Step}

-- Line by line.

-- what a line makes of the machine and the kept minute: "19 .. a line that is no such number; .. after any of them memory and kept
-- minute stay"
abbrev pub tick_on : List ℕ → State → Kept → Option Given → Outcome
tick_on p s kept none = record { answer = refused bad-minute; kept = kept; left = s }
tick_on p s kept (some given) = tick p s kept given.minute given.marked

-- "prints for each line"
unfoldable pub printed : List ℕ → State → Kept → List (List ℕ) → List ℕ
printed p s kept [] = []
printed p s kept (line ∷ lines) =
    let o = tick_on p s kept (read_line line) in
    answer_text o.answer ++ printed p o.left o.kept lines

-- the calls of the night box that lines make, each with what it hands back and leaves; a line that is no such number makes none
abbrev pub call_on : List ℕ → State → Kept → Option Given → List Call
call_on p s kept none = []
call_on p s kept (some given) =
    record { program = p; minute = given.minute; marked = given.marked; outcome = tick p s kept given.minute given.marked } ∷ []

unfoldable pub calls_of : List ℕ → State → Kept → List (List ℕ) → List Call
calls_of p s kept [] = []
calls_of p s kept (line ∷ lines) =
    let o = tick_on p s kept (read_line line) in
    call_on p s kept (read_line line) ++ calls_of p o.left o.kept lines

-- the lines of an input, the first of which begins with some bytes; a last line needs no line end, and an empty one there is none
abbrev pub last_line : List ℕ → List (List ℕ)
last_line [] = []
last_line (byte ∷ line) = (byte ∷ line) ∷ []

unfoldable pub lines_from : List ℕ → List ℕ → List (List ℕ)
lines_from line [] = last_line line
lines_from line (byte ∷ input) = cond (eqb byte 10) (line ∷ lines_from [] input) (lines_from (line ++ byte ∷ []) input)

abbrev pub lines_of : List ℕ → List (List ℕ)
lines_of input = lines_from [] input

-- Byte by byte.

-- what is held between two bytes
pub record Between : Type 0 where
  pub kept : Kept
  pub line : Line
  pub left : State

abbrev pub held : Machine → Kept → Line → List ℕ → List ℕ → Between
held machine kept line registers memory = record { kept = kept; line = line; left = state machine registers memory }

abbrev pub held_in : Held → List ℕ → List ℕ → Between
held_in h registers memory = held h.machine h.kept h.line registers memory

-- what is held behind a line, by what its call answered
abbrev pub held_after : Held → Result Tick Refusal → Held
held_after h (Ok tick) = record { machine = tick.machine; kept = Some tick.minute; line = Empty }
held_after h (Err refusal) = record { machine = h.machine; kept = h.kept; line = Empty }

-- what is held then, and the text that a byte calls for
pub record Took : Type 0 where
  pub then : Between
  pub text : List ℕ

abbrev pub took : Outcome → Took
took o = record { then = record { kept = o.kept; line = Empty; left = o.left }; text = answer_text o.answer }

unfoldable pub end_line : List ℕ → Between → Took
end_line p b = took (tick_on p b.left b.kept (reading_in b.line))

unfoldable pub take_byte : List ℕ → Between → ℕ → Took
take_byte p b byte =
    cond (eqb byte 10) (end_line p b) (record { then = record { kept = b.kept; line = with_byte b.line byte; left = b.left }; text = [] })

abbrev pub is_empty : Line → Bool
is_empty Empty = true
is_empty (Digits n) = false
is_empty (Marked n) = false
is_empty Wrong = false

unfoldable pub take_end : List ℕ → Between → Took
take_end p b = cond (is_empty b.line) (record { then = b; text = [] }) (end_line p b)

-- the text of a whole input
unfoldable pub take_all : List ℕ → Between → List ℕ → List ℕ
take_all p b [] = (take_end p b).text
take_all p b (byte ∷ input) = (take_byte p b byte).text ++ take_all p (take_byte p b byte).then input

-- What a call hands back and leaves.

-- what is held then, and the text at the start of a lent buffer
pub record Stepped : Type 0 where
  pub then : Between
  pub wrote : Wrote

abbrev pub stepped : Step → List ℕ → List ℕ → List ℕ → Stepped
stepped r registers memory out =
    record { then = held_in r.held registers memory; wrote = wrote r.printed out }

unfoldable pub shown : List ℕ → Took → Stepped
shown out t = record { then = t.then; wrote = writes out 0 t.text }
