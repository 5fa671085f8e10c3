-- A start with the mask 255 is not refused.
use Rattle.std.proofs.Common.{◌≡◌, ℕ, List, length, refl, ap, ◌∙◌, arith}
use Rattle.std.specs.Prelude.{Result, Ok, Err, IsOk}
use Rattle.answer.specs.Answer.{Answer, given, refused}
use Rattle.answer.specs.Refusal.{row_of, refused_or, first_that_applies}
use Rattle.answer.specs.declared.refusal.Refusal.{Refusal}
use Rattle.interpreter.specs.Refusal.{start_number}
use Rattle.interpreter.specs.Start.{Beginning, started, start}
use Rattle.machine.specs.declared.record.Machine.{Machine}

taken : (regs : List ℕ) → length regs ≡ 8704 → (start 255 regs).answer ≡ given tt
unfolding start start_number first_that_applies
taken regs e = rw e

pub starts : (x : Result Machine Refusal) (regs left : List ℕ) → length regs ≡ 8704 → started x left ≡ start 255 regs → IsOk x
starts (Ok m) regs left e h = refl
starts (Err f) regs left e h =
    let a : ◌≡◌ {A = Answer (Unit {0})} (refused (row_of f)) (given tt) = ap (λ (b : Beginning). b.answer) h ∙ taken regs e in
    absurd (let z : ◌≡◌ {A = ℕ} 0 1 = cc in omega arith)
