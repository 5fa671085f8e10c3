-- `running::make_thread_issues` meets its contract: each issue is the rules' next one, as long as the thread was "last" already.
use Prim.Native.Nat.{◌+◌, ◌*◌, ◌<◌, ◌≤◌}
use mathlib.Core.Path.{◌≡◌}
use lib.ListN.{length}
use Rattle.interpreter.specs.Stretch.{Chooses, Goes}
use Rattle.interpreter.proofs.running.make_thread_issues.Given as goal

abbrev pub invariant-loop-thread : goal.invariant-loop-thread
invariant-loop-thread l =
    (0 < l.left) × (l.left ≤ l.initial.left) × (length l.registers ≡ length l.initial.registers) × (length l.memory ≡ length l.initial.memory)
    × (l.passed + 8 * l.left ≤ l.initial.passed + 8 * l.initial.left)
    × Goes l.program l.thread l.distance l.others l.initial.left l.initial.passed l.initial.registers l.initial.memory
    (λ b first m turns. Chooses l.program b first m turns l.left l.passed l.thread l.distance l.registers l.memory)

abbrev pub decreases-loop-thread : goal.decreases-loop-thread
decreases-loop-thread l = l.left
