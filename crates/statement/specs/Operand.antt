-- The operands of an instruction: "an offset before its bracket", a comma between each two.
use Rattle.std.specs.Prelude.{cond, List, [], ◌∷◌, ◌++◌, eqb, length}
use Rattle.std.proofs.Math.Option.{Option, none, some}
use Rattle.expression.specs.Grammar.{Parse, parse, expression_at}
use Rattle.token.specs.Token.{past, Token}
use Rattle.expression.specs.Syntax.{Expression}
use Rattle.statement.specs.Types.{Register, Slot, ARegister, AnImmediate, AnAddress, Nothing, Slots}
use Rattle.statement.specs.Mnemonic.{is_operand}
use Rattle.statement.specs.Register.{register_at, bracket_at}

-- the registers in their order, and the expression, if there is one
pub record Operands : Type 0 where
  pub registers : List Register
  pub expression : Option Expression

abbrev pub no-operands : Operands
no-operands = record { registers = []; expression = none }

abbrev pub with_register : Operands → Register → Operands
with_register os r = record { registers = os.registers ++ r ∷ []; expression = os.expression }

abbrev pub with_expression : Operands → Expression → Operands
with_expression os e = record { registers = os.registers; expression = some e }

-- a register more, or an expression
abbrev pub register_on : Operands → Option (Parse Register) → Option (Parse Operands)
register_on os none = none
register_on os (some r) = parse (with_register os r.value) r.rest

abbrev pub expression_on : Operands → Option (Parse Expression) → Option (Parse Operands)
expression_on os none = none
expression_on os (some e) = parse (with_expression os e.value) e.rest

-- "an offset before its bracket", which may be left out: "load32 s2,(s1)"
abbrev pub base_on : Option (Parse Operands) → Option (Parse Operands)
base_on none = none
base_on (some o) = register_on o.value (bracket_at o.rest)

abbrev pub address_on : Operands → Option (Parse Register) → Option (Parse Expression) → Option (Parse Operands)
address_on os (some r) e = parse (with_register os r.value) r.rest
address_on os none e = base_on (expression_on os e)

abbrev pub operand_in : Slot → Operands → Option (List Token) → Option (Parse Operands)
operand_in s os none = none
operand_in ARegister os (some ts) = register_on os (register_at ts)
operand_in AnImmediate os (some ts) = expression_on os (expression_at ts)
operand_in AnAddress os (some ts) = address_on os (bracket_at ts) (expression_at ts)
operand_in Nothing os (some ts) = none

-- A comma stands before every operand but the first. An expression is always the last, so the first is the one that no register stands
-- before.
abbrev pub separated : Operands → List Token → Option (List Token)
separated os ts = cond (eqb (length os.registers) 0) (some ts) (past 44 ts)

abbrev pub operand_next : Slot → Option (Parse Operands) → Option (Parse Operands)
operand_next s none = none
operand_next s (some o) = operand_in s o.value (separated o.value o.rest)

abbrev pub operand_on : Slot → Option (Parse Operands) → Option (Parse Operands)
operand_on s o = cond (is_operand s) (operand_next s o) o

-- the operands of an instruction, and the tokens behind them
unfoldable pub operands_at : Slots → List Token → Option (Parse Operands)
operands_at s ts = operand_on s.third (operand_on s.second (operand_on s.first (parse no-operands ts)))
