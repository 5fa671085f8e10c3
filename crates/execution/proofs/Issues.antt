-- What one issue comes to, by the test of the program counter.
use Rattle.std.proofs.Common.{◌≡◌, ℕ, true, false, List, length, ap, ◌∙◌}
use Rattle.machine.specs.Machine.{trap}
use Rattle.machine.specs.State.{State, state}
use Rattle.execution.specs.Effect.{Executed, context}
use Rattle.execution.specs.Issue.{execute_at, sets_status, settled, Settles, perform, perform_sets_status}
use Rattle.execution.specs.Jump.{in_program}
use Rattle.execution.specs.Registers.{program_counter}
use Rattle.execution.specs.Types.{Context, Issued}

module _ (p : List ℕ) (s : State) (t turns pc : ℕ) (at : pc ≡ program_counter s.registers t) where
  abbrev pub told : Context
  told = context t pc s.machine.enabled (length p) turns

  pub performs-outside : in_program (length p) pc ≡ false →
      (state (trap s.machine t 4) s.registers s.memory ≡ perform p s t turns) × (true ≡ perform_sets_status p s t turns)
  unfolding perform perform_sets_status
  performs-outside h = (rw (← at, h), rw (← at, h))

  pub performs-word : in_program (length p) pc ≡ true → (x : Executed) → x ≡ execute_at p s told →
      (r : Issued) (after : List ℕ) → Settles s.machine told x.registers x.effect r after →
      (state r.machine after x.memory ≡ perform p s t turns) × (r.changed ≡ perform_sets_status p s t turns)
  unfolding perform perform_sets_status
  performs-word h x e r after k = (
    k.left x.memory ∙ rw (← at, h) (ap (λ (y : Executed). settled s.machine told y) e),
    k.told ∙ rw (← at, h) (ap (λ (y : Executed). sets_status y.effect) e),
  )
