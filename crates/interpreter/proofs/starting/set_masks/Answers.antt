-- `starting::set_masks` meets its contract.
use mathlib.Core.Path.{◌≡◌, refl, ap, ◌∙◌}
use native.Mathlib.Omega.{arith}
use lib.ListN.{set, length-set}
use Rattle.machine.specs.State.{scalar_index, lane_mask_register}
use Rattle.interpreter.specs.Start.{with_masks}
use Rattle.interpreter.proofs.Rooms.{masks-more}
use Rattle.interpreter.proofs.starting.set_masks.Goals as goal

pub loop-thread-init : goal.loop-thread-init
unfolding with_masks
loop-thread-init c = (omega arith, refl, refl)

pub loop-thread-preserved : goal.loop-thread-preserved
loop-thread-preserved c =
    let l = c.loop-thread in
    let regs = c.args.registers.now in (
      omega arith,
      length-set l.registers _ _ ∙ l.invariant.1,
      ap (λ r. set r (scalar_index l.thread lane_mask_register) 0xFFFF) l.invariant.2 ∙ masks-more regs l.thread,
    )

pub returns : goal.returns
returns c =
    let l = c.loop-thread in
    let e : l.thread ≡ 8 = omega arith in
    l.invariant.2 ∙ ap (λ t. with_masks t c.args.registers.now) e

pub shape_of-registers : goal.shape_of-registers
shape_of-registers c = c.loop-thread.invariant.1
