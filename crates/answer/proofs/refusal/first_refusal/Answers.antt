-- `refusal::first_refusal` meets its contract: by the first verdict.
use Prim.Native.Nat.{ℕ}
use Rattle.std.specs.Prelude.{Result, Ok, Err, ◌≡◌}
use Rattle.std.specs.Result.{result_and}
use mathlib.Core.Path.{refl, ap, ◌∙◌}
use Rattle.std.proofs.Math.Option.{some}
use Rattle.answer.specs.Refusal.{numbered, refused_or}
use Rattle.answer.proofs.refusal.first_refusal.Goals as goal

by-first : {E : Type 0} → (number : E → ℕ) → (first then : Result Unit E)
    → numbered number (result_and first then) ≡ refused_or (numbered number first) some (numbered number then)
by-first number (Ok _) then = refl
by-first number (Err _) then = refl

pub returns : goal.returns
returns g c number = ap (numbered number) c.and.ensures ∙ by-first number c.args.first c.args.then
