-- The lines of a machine's threads: the status, the program counter and the turns of each that is on, and then the numbers of those
-- that are off.
use Rattle.std.specs.Prelude.{ℕ, zero, suc, cond, List, [], ◌∷◌, ◌++◌, eqb, get_or}
use Rattle.isa.specs.Text.{bytes}
use Rattle.machine.specs.Machine.{status_at, turns_at}
use Rattle.machine.specs.State.{scalar_index, program_counter_register}
use Rattle.thread_entry.specs.Status.{is_idle}
use Rattle.text.specs.Number.{decimal}
use Rattle.thread_lines.specs.Text.{counter}
use Rattle.thread_lines.specs.Types.{Machine, Status, Idle, Running, Ended, Trapped, Waiting}

-- "s63 the program counter"
abbrev pub program_counter : List ℕ → ℕ → ℕ
program_counter registers t = get_or registers (scalar_index t program_counter_register) 0

-- The reasons of a trap, 1 to 6 (document 01, "One issue", "The words" and "Meeting at a barrier"). 6 is also given for a control
-- register that the core has not.
unfoldable pub reason : ℕ → List ℕ
reason number =
    cond (eqb number 1) (bytes "address not aligned")
    (cond (eqb number 2) (bytes "address outside memory")
    (cond (eqb number 3) (bytes "undefined word")
    (cond (eqb number 4) (bytes "outside the program")
    (cond (eqb number 5) (bytes "barrier refused")
    (bytes "not fitted")))))

-- what a waiting thread waits for
abbrev pub barrier_parts : ℕ → ℕ → List (List ℕ)
barrier_parts id count = bytes " at barrier " ∷ decimal id ∷ bytes " for " ∷ decimal count ∷ []

-- what a status carries
abbrev pub carried_parts : Status → List (List ℕ)
carried_parts Idle = []
carried_parts Running = []
carried_parts Ended = []
carried_parts (Trapped number) = bytes ": " ∷ reason number ∷ []
carried_parts (Waiting id count) = barrier_parts id count

-- the status of a thread that is on, its program counter, and what the status carries
abbrev pub state_parts : Status → ℕ → List (List ℕ)
state_parts Idle pc = []
state_parts Running pc = bytes " running at " ∷ counter pc ∷ []
state_parts Ended pc = bytes " ended at " ∷ counter pc ∷ []
state_parts (Trapped number) pc = bytes " trapped at " ∷ counter pc ∷ carried_parts (Trapped number)
state_parts (Waiting id count) pc = bytes " waiting at " ∷ counter pc ∷ carried_parts (Waiting id count)

-- what is counted, behind the number, and the end of the line
unfoldable pub turns_unit : ℕ → List ℕ
turns_unit turns = cond (eqb turns 1) (bytes " turn\n") (bytes " turns\n")

-- how many turns a thread has had
abbrev pub turns_parts : ℕ → List (List ℕ)
turns_parts turns = bytes ", " ∷ decimal turns ∷ turns_unit turns ∷ []

-- a thread that is off has no line
unfoldable pub line_parts : ℕ → Status → ℕ → ℕ → List (List ℕ)
line_parts thread status pc turns =
    cond (is_idle status) [] ((bytes "thread " ∷ decimal thread ∷ state_parts status pc) ++ turns_parts turns)

-- the lines of the first k threads
unfoldable pub lines_parts : Machine → List ℕ → ℕ → List (List ℕ)
lines_parts m registers zero = []
lines_parts m registers (suc k) = lines_parts m registers k ++ line_parts k (status_at m k) (program_counter registers k) (turns_at m k)

-- the number of a thread that is off
unfoldable pub off_part : ℕ → Status → List (List ℕ)
off_part thread status = cond (is_idle status) (bytes " " ∷ decimal thread ∷ []) []

-- the numbers of those of the first k threads that are off
unfoldable pub off_parts : Machine → ℕ → List (List ℕ)
off_parts m zero = []
off_parts m (suc k) = off_parts m k ++ off_part k (status_at m k)

-- "a thread is idle exactly if its enabled bit is 0": with all eight bits set there is no such line
unfoldable pub off_line : Machine → List (List ℕ)
off_line m = cond (eqb m.enabled 255) [] ((bytes "threads off:" ∷ off_parts m 8) ++ bytes "\n" ∷ [])

abbrev pub thread_parts : Machine → List ℕ → List (List ℕ)
thread_parts m registers = lines_parts m registers 8 ++ off_line m
