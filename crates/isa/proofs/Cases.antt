-- What holds of a word's reading, by the tests that lead to it.
use Rattle.std.proofs.Common.{ℕ, Bool, true, false, cond}
use mathlib.Core.Option.{Option, none, some}
use Rattle.answer.specs.Answer.{Answer, given, refused, undefined}
use Rattle.isa.specs.Read.{guarded, listed}
use Rattle.isa.specs.Types.{Instruction}

module _ (P : Answer Instruction → Type 0) where
  pub by-test : (t : Bool) {x y : Answer Instruction} → P x → P y → P (cond t x y)
  by-test true p q = p
  by-test false p q = q

  pub by-guarded : (t : Bool) {i : Instruction} → P (given i) → P (refused undefined) → P (guarded t i)
  unfolding guarded
  by-guarded true p q = p
  by-guarded false p q = q

  pub by-listed : {A : Type 0} (o : Option A) {f : A → Answer Instruction} {n : ℕ} → ((op : A) → P (f op)) → P (refused n) → P (listed o f n)
  unfolding listed
  by-listed none p q = q
  by-listed (some op) p q = p op
