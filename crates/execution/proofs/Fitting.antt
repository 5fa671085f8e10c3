-- What the test of the lengths and the thread says.
use Rattle.std.proofs.Common.{◌≡◌, ℕ, ◌<◌, ◌≤◌, true, ◌&&◌, eqb, leb, ltb-true, eqb-true, leb-true}
use Rattle.isa.proofs.Both.{and_left, and_right}
use Rattle.execution.specs.Issue.{fits}
use Rattle.answer.specs.Refusal.{program_words, register_words}

pub fitting : (words regs t : ℕ) → fits words regs t ≡ true → (words ≤ program_words) × (regs ≡ register_words) × (t < 8)
fitting words regs t h =
    let k = and_left (leb words program_words && eqb regs register_words) _ h in
    (leb-true _ _ (and_left _ (eqb regs register_words) k), eqb-true _ _ (and_right (leb words program_words) _ k), ltb-true _ _ (and_right (leb words program_words && eqb regs register_words) _ h))
