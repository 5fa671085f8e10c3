-- `family::jump` meets its contract: by the operation, then by its test.
use Rattle.std.proofs.Common.{not, eqb, sym, refl, ◌∙◌, eq-eqb}
use Rattle.execution.specs.Registers.{scalar}
use Rattle.word_layout.specs.Layout.{bits}
use Rattle.fast_path.proofs.Families.{jumps, branches}
use Rattle.fast_path.specs.Types.{Jmp, Beqz, Bnez}
use Rattle.fast_path.proofs.family.jump.Goals as goal

pub returns-then-register-eq0 : goal.returns-then-register-eq0
returns-then-register-eq0 c memory pc enabled words turns =
    let a = c.args in
    rw c.long_signed-offset.ensures
    (jumps a.t a.regs.now a.w Jmp (rw c.in-Jmp.is at c.requires.1)
    (eq-eqb _ 0 (sym c.first-register.ensures.0 ∙ c.if-register-eq0.true)) memory pc enabled words turns)

-- beqz and bnez
pub returns-in-Beqz : goal.returns-in-Beqz
returns-in-Beqz c memory pc enabled words turns =
    let a = c.args in
    rw (c.branch-x.ensures, c.long_signed-offset.ensures, c.scalar-x.ensures, c.first-register.ensures.0)
    (branches a.t a.regs.now a.w (eqb (scalar a.regs.now a.t (bits a.w 23 18)) 0) memory pc enabled words turns
    (jumps a.t a.regs.now a.w Beqz (rw c.in-Beqz.is at c.requires.1) refl memory pc enabled words turns))

pub returns-in-Bnez : goal.returns-in-Bnez
returns-in-Bnez c memory pc enabled words turns =
    let a = c.args in
    rw (c.branch-x-in-Bnez.ensures, c.long_signed-offset.ensures, c.scalar-x.ensures, c.first-register.ensures.0)
    (branches a.t a.regs.now a.w (not (eqb (scalar a.regs.now a.t (bits a.w 23 18)) 0)) memory pc enabled words turns
    (jumps a.t a.regs.now a.w Bnez (rw c.in-Bnez.is at c.requires.1) refl memory pc enabled words turns))
