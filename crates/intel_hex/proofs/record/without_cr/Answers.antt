-- `without_cr` meets its contract: by whether the last byte is a CR.
use Rattle.std.proofs.Common.{sym, arith, ◌≡◌, length, get_or, ◌-◌}
use borrow.Author.Tests.{eq-eqb, ne_eqb}
use Rattle.intel_hex.proofs.Lines.{empty}
use Rattle.intel_hex.specs.Record.{without_cr}
use Rattle.intel_hex.proofs.record.without_cr.Goals as goal

pub returns-in-13 : goal.returns-in-13
unfolding without_cr
returns-in-13 c =
    let t = c.args.line.now in
    let h : get_or t (length t - 1) 0 ≡ 13 = omega arith in
    rw (eq-eqb _ 13 h)

pub returns-in_default : goal.returns-in_default
returns-in_default c = sym (empty c.args.line.now (omega arith))

pub returns-in_default-2 : goal.returns-in_default-2
unfolding without_cr
returns-in_default-2 c =
    let t = c.args.line.now in
    let h : get_or t (length t - 1) 0 ≡ 13 → ⊥ = λ e. omega arith in
    rw (ne_eqb _ 13 h)
