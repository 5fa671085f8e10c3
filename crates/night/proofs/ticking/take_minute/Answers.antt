-- `ticking::take_minute` meets its contract.
use Rattle.std.proofs.Common.{◌≡◌, sym, ap, ◌∙◌, arith}
use Rattle.std.proofs.Math.Option.{none}
use Rattle.machine.specs.State.{State, state}
use Rattle.interpreter.specs.Run.{outcome, number}
use Rattle.night.specs.Bytes.{with_reading}
use Rattle.night.specs.Tick.{issues_per_minute, run_from}
use Rattle.night.proofs.Refusals.{tick-taken}
use Rattle.night.proofs.Ticks.{run-taken, unrefused, accepted-is}
use Rattle.night.proofs.ticking.take_minute.Goals as goal

pub skipped_minutes-skipped-requires : goal.skipped_minutes-skipped-requires
skipped_minutes-skipped-requires c = (tick-taken _ _ _ _ c.requires).minutes

pub put_reading-requires : goal.put_reading-requires
put_reading-requires c =
    let k = tick-taken _ _ _ _ c.requires in
    omega (arith, k.memory)

-- what is written changes nothing that is judged
pub unwrap-run-requires : goal.unwrap-run-requires
unfolding run_from
unwrap-run-requires c =
    let a = c.args in
    let s : State = state a.machine a.registers.now a.memory.now in
    let d = c.put_reading.ensures ∙ ap (with_reading a.memory.now a.minute) c.skipped_minutes-skipped.ensures in
    let n : number a.program.now (state a.machine a.registers.now c.put_reading.new.memory) ≡ none =
    (λ i. number a.program.now (state a.machine a.registers.now (d i))) ∙ run-taken a.program.now s a.kept a.minute a.marked c.requires in
    unrefused a.program.now issues_per_minute (state a.machine a.registers.now c.put_reading.new.memory) c.run.result _ _ c.run.ensures n

pub relays-requires : goal.relays-requires
relays-requires c =
    let k = tick-taken _ _ _ _ c.requires in
    omega (arith, k.memory, c.run.auto.memory, c.put_reading.auto.memory)

pub returns : goal.returns
returns c =
    let a = c.args in
    let s : State = state a.machine a.registers.now a.memory.now in
    let run = (λ i. outcome (sym c.unwrap-run.ensures i) a.machine c.run.new.registers c.run.new.memory) ∙ c.run.ensures in
    accepted-is a.program.now s a.kept a.minute a.marked _ _ _ c.unwrap-run.result _ _ c.skipped_minutes-skipped.ensures c.put_reading.ensures run c.relays.ensures
