-- Registers: "a register is s0 to s63 or v0 to v63".
use Rattle.std.specs.Prelude.{ℕ, ◌+◌, ◌/◌, ◌%◌, Bool, true, false, ◌&&◌, cond, List, [], ◌∷◌, eqb, ltb}
use Rattle.std.proofs.Math.Option.{Option, none, some}
use Rattle.expression.specs.Grammar.{Parse, parse, behind_it}
use Rattle.token.specs.Token.{past, Token, word, mark}
use Rattle.expression.specs.Label.{same}
use Rattle.token.specs.Number.{numeral}
use Rattle.statement.specs.Types.{Register}

abbrev pub reg : Bool → ℕ → Register
reg v n = record { vector = v; number = n }

-- how a number below 100 is written
unfoldable pub digits_of : ℕ → List ℕ
digits_of n = cond (ltb n 10) ((48 + n) ∷ []) ((48 + n / 10) ∷ (48 + n % 10) ∷ [])

-- the letter of a register: s of a scalar one, v of a vector one
abbrev pub letter : Bool → ℕ
letter false = 115
letter true = 118

abbrev pub spelled : Register → List ℕ
spelled r = letter r.vector ∷ digits_of r.number

abbrev pub vector_by : ℕ → Option Bool
vector_by c = cond (eqb c 115) (some false) (cond (eqb c 118) (some true) none)

-- a number below 64, written as numbers are: no zero stands before it
abbrev pub numbered_by : Bool → List ℕ → Option ℕ → Option Register
numbered_by v digits none = none
numbered_by v digits (some n) = cond (ltb n 64 && same (digits_of n) digits) (some (reg v n)) none

abbrev pub lettered_by : Option Bool → List ℕ → Option Register
lettered_by none digits = none
lettered_by (some v) digits = numbered_by v digits (numeral 10 digits)

-- the register that a word is
unfoldable pub register_of : List ℕ → Option Register
register_of [] = none
register_of (c ∷ digits) = lettered_by (vector_by c) digits

-- a register, and the tokens behind it
abbrev pub register_at : List Token → Option (Parse Register)
register_at [] = none
register_at (word w ∷ ts) = behind_it (register_of w) ts
register_at (mark c ∷ ts) = none

-- a register in brackets
abbrev pub closing_by : Register → Option (List Token) → Option (Parse Register)
closing_by r none = none
closing_by r (some ts) = parse r ts

abbrev pub closed_by : Option (Parse Register) → Option (Parse Register)
closed_by none = none
closed_by (some r) = closing_by r.value (past 41 r.rest)

abbrev pub opened_by : Option (List Token) → Option (Parse Register)
opened_by none = none
opened_by (some ts) = closed_by (register_at ts)

abbrev pub bracket_at : List Token → Option (Parse Register)
bracket_at ts = opened_by (past 40 ts)
