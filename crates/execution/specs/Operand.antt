-- Operands: words and vector registers (document 01, "One issue").
use Rattle.std.specs.Prelude.{ℕ, ◌<◌, Bool, true, false, cond, List}
use Rattle.vector.specs.Lanes.{splatted}
use Rattle.execution.specs.Registers.{scalar, vector}
use Rattle.execution.specs.Types.{Source, Scalar, Vector}

-- the operand in register i, by its vector flag
abbrev pub source : List ℕ → ℕ → Bool → ℕ → Source
source regs t flag i = cond flag (Vector i) (Scalar (scalar regs t i))

abbrev pub is_vector : Source → Bool
is_vector (Scalar x) = false
is_vector (Vector i) = true

-- a scalar operand's word; a vector has none
abbrev pub word : Source → ℕ
word (Scalar x) = x
word (Vector i) = 0

-- "A scalar among vectors counts as sixteen equal lanes."
abbrev pub lanes : List ℕ → ℕ → Source → List ℕ
lanes regs t (Scalar x) = splatted x
lanes regs t (Vector i) = vector regs t i

-- an operand that is a vector register is one of the 64
abbrev pub Named : Source → Type 0
Named (Scalar x) = Unit {0}
Named (Vector i) = i < 64
