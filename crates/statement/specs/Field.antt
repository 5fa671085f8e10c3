-- Operands as the code holds them: three registers, how many there are, and a value.
use Rattle.std.specs.Prelude.{ℕ, false, cond, List, [], ◌∷◌, eqb, drop, get_or, Some, None}
use Rattle.std.specs.Prelude as code
use Rattle.std.proofs.Math.Option.{Option, none, some}
use Rattle.expression.specs.Grammar.{Parse, parse, expression_at}
use Rattle.token.specs.Token.{past, Token, tokens}
use Rattle.expression.specs.Reading.{evaluated}
use Rattle.expression.specs.Syntax.{Expression}
use Rattle.expression.specs.Value.{bias, value_of}
use Rattle.statement.specs.Types.{Value, Known, Register, Slot, ARegister, AnImmediate, AnAddress, Nothing, OperandValues}
use Rattle.statement.specs.Mnemonic.{is_operand}
use Rattle.statement.specs.Register.{reg, register_at, bracket_at}
use Rattle.statement.specs.Operand.{Operands}

-- a register of some, in their order; s0 where there is none
abbrev pub nth : ℕ → List Register → Register
nth k rs = get_or rs k (reg false 0)

-- the value of an expression; 0 where there is none
abbrev pub value_in : (List ℕ → Option ℕ) → Option Expression → Value
value_in addresses none = Known bias
value_in addresses (some e) = value_of addresses e

-- how many registers there are, up to three
abbrev pub up_to_three : List Register → ℕ
up_to_three [] = 0
up_to_three (x ∷ []) = 1
up_to_three (x ∷ y ∷ []) = 2
up_to_three (x ∷ y ∷ z ∷ rs) = 3

abbrev pub operand_values : Register → Register → Register → ℕ → Value → OperandValues
operand_values x y z n v = record { first = x; second = y; third = z; count = n; value = v }

abbrev pub operand_values_of : (List ℕ → Option ℕ) → Operands → OperandValues
operand_values_of a os =
    operand_values (nth 0 os.registers) (nth 1 os.registers) (nth 2 os.registers) (up_to_three os.registers)
    (value_in a os.expression)

abbrev pub no_operand_values : OperandValues
no_operand_values = operand_values (reg false 0) (reg false 0) (reg false 0) 0 (Known bias)

-- a register more, and a value
unfoldable pub put : OperandValues → Register → OperandValues
put f r =
    cond (eqb f.count 0) (operand_values r f.second f.third 1 f.value)
    (cond (eqb f.count 1) (operand_values f.first r f.third 2 f.value)
    (cond (eqb f.count 2) (operand_values f.first f.second r 3 f.value) f))

abbrev pub valued : OperandValues → Value → OperandValues
valued f v = operand_values f.first f.second f.third f.count v

-- what the operands' definitions say, of these
abbrev pub register_field : OperandValues → Option (Parse Register) → Option (Parse OperandValues)
register_field f none = none
register_field f (some r) = parse (put f r.value) r.rest

abbrev pub value_field : OperandValues → Option (Parse Value) → Option (Parse OperandValues)
value_field f none = none
value_field f (some v) = parse (valued f v.value) v.rest

abbrev pub base_field : Option (Parse OperandValues) → Option (Parse OperandValues)
base_field none = none
base_field (some f) = register_field f.value (bracket_at f.rest)

abbrev pub address_field : OperandValues → Option (Parse Register) → Option (Parse Value) → Option (Parse OperandValues)
address_field f (some r) v = parse (put f r.value) r.rest
address_field f none v = base_field (value_field f v)

abbrev pub field_in : (List ℕ → Option ℕ) → Slot → OperandValues → Option (List Token) → Option (Parse OperandValues)
field_in a s f none = none
field_in a ARegister f (some ts) = register_field f (register_at ts)
field_in a AnImmediate f (some ts) = value_field f (evaluated (value_of a) (expression_at ts))
field_in a AnAddress f (some ts) = address_field f (bracket_at ts) (evaluated (value_of a) (expression_at ts))
field_in a Nothing f (some ts) = none

abbrev pub parted : OperandValues → List Token → Option (List Token)
parted f ts = cond (eqb f.count 0) (some ts) (past 44 ts)

abbrev pub field_next : (List ℕ → Option ℕ) → Slot → Option (Parse OperandValues) → Option (Parse OperandValues)
field_next a s none = none
field_next a s (some o) = field_in a s o.value (parted o.value o.rest)

unfoldable pub field_on : (List ℕ → Option ℕ) → Slot → Option (Parse OperandValues) → Option (Parse OperandValues)
field_on a s o = cond (is_operand s) (field_next a s o) o

-- the code's answers
abbrev pub operands_seen : List ℕ → code.Option (OperandValues × ℕ) → Option (Parse OperandValues)
operands_seen line (Some (f, at)) = parse f (tokens (drop at line))
operands_seen line None = none

abbrev pub operands_evaluated : (List ℕ → Option ℕ) → Option (Parse Operands) → Option (Parse OperandValues)
operands_evaluated a none = none
operands_evaluated a (some o) = parse (operand_values_of a o.value) o.rest
