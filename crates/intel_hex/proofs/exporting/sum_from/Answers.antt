-- `sum_from` meets its contract: after i turns the first i bytes are added.
use Prim.Native.Nat.{◌+◌, ◌%◌}
use mathlib.Core.Path.{◌≡◌}
use native.Mathlib.Omega.{arith}
use lib.ListN.{take, drop}
use Rattle.intel_hex.specs.Digits.{total}
use Rattle.intel_hex.specs.Program.{program_bytes}
use Rattle.intel_hex.proofs.Texts.{total-more}
use Rattle.intel_hex.proofs.exporting.sum_from.Goals as goal

pub loop-i-init : goal.loop-i-init
unfolding total
loop-i-init c = (omega arith, omega arith)

pub overflow_add-s : goal.overflow_add-s
overflow_add-s c = omega (arith, c.program_byte.ensures.1)

pub loop-i-preserved : goal.loop-i-preserved
loop-i-preserved c =
    let x = c.args in
    let l = c.loop-i in
    let e = total-more x.words.now x.from l.i (omega arith) in
    let f : l.s ≡ (x.sum + total (take l.i (drop x.from (program_bytes x.words.now)))) % 256 = l.invariant.1 in
    (omega arith, omega (arith, c.program_byte.ensures.0))

pub returns : goal.returns
returns c =
    let x = c.args in
    let l = c.loop-i in
    let e : l.i ≡ x.n = omega arith in
    rw (← e) l.invariant.1
