-- What the runner prints of a run: how it ended, then the lines of the threads.
use Rattle.std.specs.Prelude.{Result, Ok, Err, ℕ, cond, List, [], ◌∷◌, eqb}
use Rattle.isa.specs.Text.{bytes}
use Rattle.text.specs.Number.{decimal, decimal_long}
use Rattle.thread_lines.specs.Lines.{thread_parts}
use Rattle.text.specs.Parts.{concat}
use Rattle.report.specs.Types.{Stop, Stopped, Stuck, Spent, Run, Machine, Refusal}

-- what is counted, behind the number
unfoldable pub counted : ℕ → List ℕ
counted issues = cond (eqb issues 1) (bytes " issue\n") (bytes " issues\n")

-- the first line begins with the word for the answer
abbrev pub body_parts : List ℕ → ℕ → Machine → List ℕ → List (List ℕ)
body_parts word issues m registers = word ∷ bytes " after " ∷ decimal issues ∷ counted issues ∷ thread_parts m registers

abbrev pub report_parts : Stop → ℕ → Machine → List ℕ → List (List ℕ)
report_parts Stopped issues m registers = body_parts (bytes "stopped") issues m registers
report_parts Stuck issues m registers = body_parts (bytes "stuck") issues m registers
report_parts Spent issues m registers = body_parts (bytes "spent") issues m registers

-- nothing is printed of a refused run
unfoldable pub report : Result Run Refusal → List ℕ → List ℕ
report (Ok run) registers = concat (report_parts run.stop run.issues run.machine registers)
report (Err refusal) registers = []

-- "The run reports how many entries it looked at" (02, T-13): a line of its own, for who asks for it
abbrev pub looks_parts : ℕ → List (List ℕ)
looks_parts looks = bytes "looks " ∷ decimal_long looks ∷ bytes "\n" ∷ []

unfoldable pub looks_line : ℕ → List ℕ
looks_line looks = concat (looks_parts looks)
