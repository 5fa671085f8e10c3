-- Why a thread is trapped: the reasons of document 01, by number.
use Rattle.std.specs.Prelude.{ℕ}
use Rattle.answer.specs.declared.reason.Reason.{Reason}
use Rattle.answer.specs.declared.reason.Reason.TheVariants as V

-- "Not a multiple of 2, 4 ..: reason 1."; document 02, T-04: "A vector load or store now needs an address that is a multiple of 4, not 64."
abbrev pub misaligned : ℕ
misaligned = 1

-- "Then any byte outside memory: reason 2."
abbrev pub outside-memory : ℕ
outside-memory = 2

-- "undefined word (3)"
abbrev pub undefined-word : ℕ
undefined-word = 3

-- "s63 not a multiple of 4, or at or past the program's end (reason 4)"; of a taken target too
abbrev pub outside-program : ℕ
outside-program = 4

-- "Id above 31, second value above 7, or another thread waiting there with another count: trap 5."
abbrev pub barrier-refused : ℕ
barrier-refused = 5

-- "not fitted (6)"; of a control register that the core has not, too: "any other number traps with 6"
abbrev pub not-fitted-word : ℕ
not-fitted-word = 6

-- the number of a reason, as the code names it
abbrev pub reason_of : Reason → ℕ
reason_of V.Misaligned = misaligned
reason_of V.OutsideMemory = outside-memory
reason_of V.UndefinedWord = undefined-word
reason_of V.OutsideProgram = outside-program
reason_of V.BarrierRefused = barrier-refused
reason_of V.NotFittedWord = not-fitted-word
