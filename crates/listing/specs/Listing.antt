-- What the lister prints (document 01, "Figures to check", Lister).
use Rattle.std.specs.Prelude.{ℕ, zero, suc, ◌*◌, ◌/◌, cond, List, [], ◌++◌, eqb, length}
use Rattle.answer.specs.Answer.{Answer, given, refused, undefined}
use Rattle.little_endian.specs.Numbers.{number_at}
use Rattle.names.specs.Name.{name_of}
use Rattle.isa.specs.Read.{read}
use Rattle.isa.specs.Text.{bytes}
use Rattle.isa.specs.declared.instruction.Instruction.{Instruction}
use Rattle.text.specs.Buffer.{Wrote, writes}
use Rattle.text.specs.Number.{hex, decimal}
use Rattle.program.specs.Program.{bad_bytes}

-- what stands for the name: an undefined word and one that is not fitted have their own words
abbrev pub label_of : Answer Instruction → List ℕ
label_of (given i) = name_of i
label_of (refused n) = cond (eqb n undefined) (bytes "undefined") (bytes "not-fitted")

unfoldable pub label : ℕ → List ℕ
label w = label_of (read w)

-- "then address, word (upper-case hex) and name"
unfoldable pub columns_of : ℕ → ℕ → List ℕ
columns_of address w = hex address ++ bytes " " ++ hex w ++ bytes " "

unfoldable pub line : ℕ → ℕ → List ℕ
line address w = columns_of address w ++ label w ++ bytes "\n"

-- "words little endian": the lines of the first k words
unfoldable pub lines : List ℕ → ℕ → List ℕ
lines input zero = []
lines input (suc k) = lines input k ++ line (4 * k) (number_at 4 input (4 * k))

-- "First the word count in decimal"
unfoldable pub header : ℕ → List ℕ
header n = bytes "words " ++ decimal n ++ bytes "\n"

-- "Bad input prints only `refused 1`."
unfoldable pub listing : List ℕ → List ℕ
listing input = cond (bad_bytes (length input)) (bytes "refused 1\n") (header (length input / 4) ++ lines input (length input / 4))

-- what the lister leaves: the length of what it prints, and that at the start of the buffer
abbrev pub printed : List ℕ → List ℕ → Wrote
printed input buffer = writes buffer 0 (listing input)
