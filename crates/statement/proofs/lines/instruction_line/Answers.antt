-- `instruction_line` meets its contract.
use Rattle.std.proofs.Common.{◌≡◌, drop, get_or, true, false, arith}
use mathlib.Core.Bool.{◌||◌, not}
use Rattle.token.specs.Byte.{is_blank}
use Rattle.token.specs.Token.{tokens}
use Rattle.token.proofs.Tokens.{token-read}
use Rattle.expression.specs.Labels.{addresses}
use Rattle.expression.specs.Grammar.{parse}
use Rattle.statement.specs.Field.{operands_evaluated}
use Rattle.statement.specs.Operand.{operands_at}
use Rattle.statement.specs.Mnemonic.{slots, has_operands}
use Rattle.statement.proofs.Saying.{malformed, stated, unspaced, overlong}
use Rattle.statement.proofs.Tokens.{a_token}
use Rattle.statement.proofs.lines.instruction_line.Goals as goal

pub returns-in_err-operand_values-clause-line : goal.returns-in_err-operand_values-clause-line
returns-in_err-operand_values-clause-line c =
    let x = c.args in
    rw c.from_residual.ensures
    (malformed (addresses x.labels) x.i (is_blank (get_or x.line.now x.stop 0)) (operands_at (slots x.i) (tokens (drop x.stop x.line.now))) (rw c.slots_of-slots.ensures at c.in_err-operand_values.ensures))

pub returns-then-enough-clause-line : goal.returns-then-enough-clause-line
returns-then-enough-clause-line c =
    let x = c.args in
    let a = addresses x.labels in
    let sp = is_blank (get_or x.line.now x.stop 0) in
    let g = c.in_ok-operand_values in
    let ts = tokens (drop g.next x.line.now) in
    let h : parse g.operand_values ts ≡ operands_evaluated a (operands_at (slots x.i) (tokens (drop x.stop x.line.now))) = rw c.slots_of-slots.ensures at g.ensures in
    let s : sp || not (has_operands (slots x.i)) ≡ true = rw (c.blank_at.ensures, c.has_operands.ensures, c.slots_of-slots.ensures) at c.if-enough.true in
    stated a x.i sp (operands_at (slots x.i) (tokens (drop x.stop x.line.now))) g.operand_values ts h (token-read _ _ _ c.in-End.ensures).0 s

pub returns-else-enough-clause-line : goal.returns-else-enough-clause-line
returns-else-enough-clause-line c =
    let x = c.args in
    let sp = is_blank (get_or x.line.now x.stop 0) in
    let s : sp || not (has_operands (slots x.i)) ≡ false = rw (c.blank_at.ensures, c.has_operands.ensures, c.slots_of-slots.ensures) at c.if-enough.false in
    unspaced (addresses x.labels) x.i sp (operands_at (slots x.i) (tokens (drop x.stop x.line.now))) s

pub returns-in-Word : goal.returns-in-Word
returns-in-Word c =
    let x = c.args in
    let a = addresses x.labels in
    let g = c.in_ok-operand_values in
    let ts = tokens (drop g.next x.line.now) in
    let h : parse g.operand_values ts ≡ operands_evaluated a (operands_at (slots x.i) (tokens (drop x.stop x.line.now))) = rw c.slots_of-slots.ensures at g.ensures in
    let t = a_token x.line.now g.next c.token_at.result (token-read _ _ _ c.token_at.ensures).0 c.in-Word.is in
    record {
      line = overlong a x.i (is_blank (get_or x.line.now x.stop 0)) (operands_at (slots x.i) (tokens (drop x.stop x.line.now))) g.operand_values t.0 ts t.1 h t.2;
      label = omega arith;
    }
