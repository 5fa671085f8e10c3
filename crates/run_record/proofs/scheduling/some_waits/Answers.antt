-- `some_waits` meets its contract.
use Rattle.std.proofs.Common.{◌≡◌, true, get_or, length, rules, arith}
use Rattle.std.specs.Prelude.{SomeIndex, IsTrue, ◌↔◌}
use Rattle.thread_entry.specs.Entry.{zero_thread}
use Rattle.thread_entry.specs.Status.{is_waiting}
use Rattle.machine.specs.Scheduler.{waits, some_waits}
use Rattle.machine.proofs.Threads.{any-is}
use Rattle.run_record.proofs.scheduling.some_waits.Goals as goal

pub returns : goal.returns
unfolding some_waits
returns c =
    let m = c.args.machine in
    let eight : length m.threads ≡ 8 = c.well_formed.0.1.1.1.0.1.0.1 in
    let h : IsTrue c.any.result ↔ SomeIndex m.threads (λ k. is_waiting (get_or m.threads k zero_thread).status ≡ true) = search rules in
    any-is (waits m) c.any.result
    (λ e. let x = h.0 e in (x.0, omega (arith, eight, x.1), x.2))
    (λ x. h.1 (x.0, omega (arith, eight, x.1), x.2))
