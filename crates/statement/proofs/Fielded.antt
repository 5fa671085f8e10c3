-- Operands as the code holds them follow the operands' definition.
use Prim.Native.Nat.{ℕ, suc}
use mathlib.Core.Bool.{Bool, true, false, cond}
use mathlib.Core.List.{List, [], ◌∷◌}
use mathlib.Core.Option.{Option, none, some}
use mathlib.Core.Path.{◌≡◌, refl, ap, ◌∙◌}
use native.Mathlib.Omega.{arith}
use borrow.Author.Tests.{ne_eqb}
use lib.ListN.{length}
use Rattle.expression.specs.Grammar.{Parse, parse, expression_at}
use Rattle.expression.specs.Reading.{evaluated}
use Rattle.expression.specs.Syntax.{Expression}
use Rattle.token.specs.Token.{Token}
use Rattle.expression.specs.Value.{value_of}
use Rattle.statement.specs.Types.{Register, Slot, ARegister, AnImmediate, AnAddress, Nothing, Slots}
use Rattle.statement.specs.Mnemonic.{is_operand}
use Rattle.statement.specs.Register.{register_at, bracket_at}
use Rattle.statement.specs.Operand.{Operands, with_register, with_expression, register_on, expression_on, address_on, separated, operand_in, operand_next, operand_on, operands_at, no-operands}
use Rattle.statement.specs.Field.{operand_values_of, no_operand_values, put, register_field, value_field, address_field, field_in, parted, field_next, field_on, operands_evaluated}

put_in : (a : List ℕ → Option ℕ) (rs : List Register) (e : Option Expression) (r : Register) → put (operand_values_of a (record { registers = rs; expression = e })) r ≡ operand_values_of a (with_register (record { registers = rs; expression = e }) r)
unfolding put
put_in a [] e r = refl
put_in a (x ∷ []) e r = refl
put_in a (x ∷ y ∷ []) e r = refl
put_in a (x ∷ y ∷ z ∷ rs) e r = refl

put_is : (a : List ℕ → Option ℕ) (os : Operands) (r : Register) → put (operand_values_of a os) r ≡ operand_values_of a (with_register os r)
put_is a os r = put_in a os.registers os.expression r

register-field : (a : List ℕ → Option ℕ) (os : Operands) (o : Option (Parse Register)) → register_field (operand_values_of a os) o ≡ operands_evaluated a (register_on os o)
register-field a os none = refl
register-field a os (some r) = rw (put_is a os r.value)

value-field : (a : List ℕ → Option ℕ) (os : Operands) (o : Option (Parse Expression)) → value_field (operand_values_of a os) (evaluated (value_of a) o) ≡ operands_evaluated a (expression_on os o)
value-field a os none = refl
value-field a os (some e) = refl

address-field : (a : List ℕ → Option ℕ) (os : Operands) (o : Option (Parse Register)) (q : Option (Parse Expression)) → address_field (operand_values_of a os) o (evaluated (value_of a) q) ≡ operands_evaluated a (address_on os o q)
address-field a os (some r) q = rw (put_is a os r.value)
address-field a os none none = refl
address-field a os none (some e) = register-field a (with_expression os e.value) (bracket_at e.rest)

field_in_lem : (a : List ℕ → Option ℕ) (s : Slot) (os : Operands) (o : Option (List Token)) → field_in a s (operand_values_of a os) o ≡ operands_evaluated a (operand_in s os o)
field_in_lem a s os none = refl
field_in_lem a ARegister os (some ts) = register-field a os (register_at ts)
field_in_lem a AnImmediate os (some ts) = value-field a os (expression_at ts)
field_in_lem a AnAddress os (some ts) = address-field a os (bracket_at ts) (expression_at ts)
field_in_lem a Nothing os (some ts) = refl

parted-in : (a : List ℕ → Option ℕ) (rs : List Register) (e : Option Expression) (ts : List Token) → parted (operand_values_of a (record { registers = rs; expression = e })) ts ≡ separated (record { registers = rs; expression = e }) ts
parted-in a [] e ts = refl
parted-in a (x ∷ []) e ts = refl
parted-in a (x ∷ y ∷ []) e ts = refl
parted-in a (x ∷ y ∷ z ∷ rs) e ts =
    let n : suc (suc (suc (length rs))) ≡ 0 → ⊥ = λ q. omega arith in
    rw (ne_eqb (suc (suc (suc (length rs)))) 0 n)

field_next_lem : (a : List ℕ → Option ℕ) (s : Slot) (o : Option (Parse Operands)) → field_next a s (operands_evaluated a o) ≡ operands_evaluated a (operand_next s o)
field_next_lem a s none = refl
field_next_lem a s (some f) = ap (λ p. field_in a s (operand_values_of a f.value) p) (parted-in a f.value.registers f.value.expression f.rest) ∙ field_in_lem a s f.value (separated f.value f.rest)

on-by : (a : List ℕ → Option ℕ) (s : Slot) (o : Option (Parse Operands)) (b : Bool) → cond b (field_next a s (operands_evaluated a o)) (operands_evaluated a o) ≡ operands_evaluated a (cond b (operand_next s o) o)
on-by a s o true = field_next_lem a s o
on-by a s o false = refl

field-on : (a : List ℕ → Option ℕ) (s : Slot) (o : Option (Parse Operands)) → field_on a s (operands_evaluated a o) ≡ operands_evaluated a (operand_on s o)
unfolding field_on
field-on a s o = on-by a s o (is_operand s)

pub all-fields : (a : List ℕ → Option ℕ) (s : Slots) (ts : List Token) → field_on a s.third (field_on a s.second (field_on a s.first (parse no_operand_values ts))) ≡ operands_evaluated a (operands_at s ts)
unfolding operands_at
all-fields a s ts =
    let o = operand_on s.first (parse no-operands ts) in
    ap (λ x. field_on a s.third (field_on a s.second x)) (field-on a s.first (parse no-operands ts))
    ∙ ap (λ x. field_on a s.third x) (field-on a s.second o) ∙ field-on a s.third (operand_on s.second o)
