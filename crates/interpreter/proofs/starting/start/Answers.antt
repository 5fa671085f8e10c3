-- `starting::start` meets its contract.
use Rattle.std.proofs.Common.{◌≡◌, List, ℕ, [], ◌∷◌, refl, sym, ap, ◌∙◌, length, replicate, arith, rules}
use Rattle.std.proofs.Math.Option.{none}
use Rattle.std.proofs.lemmas.Result.{err_from_is_err_and}
use Rattle.answer.specs.Answer.{given}
use Rattle.answer.specs.Refusal.{row_of}
use Rattle.interpreter.specs.Refusal.{start_number}
use Rattle.interpreter.specs.Start.{zeroes, with_masks}
use Rattle.interpreter.proofs.Refusals.{start-taken, start-refused, start-accepted}
use Rattle.interpreter.proofs.starting.start.Goals as goal

-- refused
pub returns-in_err-start_verdict : goal.returns-in_err-start_verdict
returns-in_err-start_verdict c =
    let a = c.args in
    let p = err_from_is_err_and c.from_residual.result c.from_residual.ensures.1 in
    rw (p.1, p.2) (start-refused a.mask a.registers.now (row_of c.in_err-start_verdict.field-0.0) (sym c.in_err-start_verdict.ensures))

pub set_masks-requires : goal.set_masks-requires
set_masks-requires c =
    let k = start-taken _ _ (sym c.in_ok-start_verdict.ensures) in
    omega (arith, k.registers, c.fill.ensures.len)

pub overflow_cast-mask : goal.overflow_cast-mask
overflow_cast-mask c =
    let k = start-taken _ _ (sym c.in_ok-start_verdict.ensures) in
    omega (arith, k.high)

-- not refused
filled : (regs : List ℕ) → replicate (length regs) 0 ≡ zeroes regs
filled [] = refl
filled (word ∷ regs) = ap {B = List ℕ} (λ r. 0 ∷ r) (filled regs)

pub returns : goal.returns
returns c =
    let a = c.args in
    let e : start_number a.mask (length a.registers.now) ≡ none = sym c.in_ok-start_verdict.ensures in
    let zero : c.fill.new.self ≡ zeroes a.registers.now = c.fill.ensures.after (λ y h. search rules) ∙ filled a.registers.now in
    let regs = c.set_masks.ensures ∙ ap (with_masks 8) zero in
    (λ i. record { answer = given tt; machine = c.started.ensures i; registers = regs i }) ∙ start-accepted a.mask a.registers.now e
