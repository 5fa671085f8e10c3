-- The rows of a trace, by the rules (02, T-03): "one for each issue in order: thread, address, word (0 where none was fetched), status
-- after".
use Rattle.std.specs.Prelude.{ℕ, ◌/◌, cond, List, ◌++◌, map, length, drop, slice_index}
use Rattle.execution.specs.Jump.{in_program}
use Rattle.execution.specs.Registers.{program_counter}
use Rattle.interpreter.specs.Choosing.{Issue, issued}
use Rattle.machine.specs.Machine.{status_at}
use Rattle.trace.specs.Types.{Row}

-- the word at an address; 0 where s63 is "not a multiple of 4, or at or past the program's end", so that none is fetched
unfoldable pub word_at : List ℕ → ℕ → ℕ
word_at p address = cond (in_program (length p) address) (slice_index p (address / 4)) 0

-- the row of an issue that was written down as the state before it and its thread: s63 before, and the thread's status after
unfoldable pub row_of : List ℕ → Issue → Row
row_of p i =
    record {
      thread = i.thread;
      address = program_counter i.before.registers i.thread;
      word = word_at p (program_counter i.before.registers i.thread);
      status = status_at (issued p i.before i.thread).machine i.thread;
    }

unfoldable pub rows_of : List ℕ → List Issue → List Row
rows_of p is = map (row_of p) is

-- "Rows after the last issue keep their content."
unfoldable pub onto : {A : Type 0} → List A → List A → List A
onto new old = new ++ drop (length new) old
