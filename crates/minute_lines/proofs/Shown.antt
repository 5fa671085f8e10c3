-- What is shown of the buffer is a part of it.
use Prim.Native.Nat.{ℕ, ◌≤◌}
use mathlib.Core.List.{List}
use mathlib.Core.Path.{◌≡◌, ap}
use lib.ListN.{length}
use Rattle.text.proofs.Shown.{text-within}
use Rattle.minute_lines.specs.Taking.{Took, Stepped, stepped, shown}
use Rattle.minute_lines.specs.Types.{Step}

pub step-within : (r : Step) (registers memory out before : List ℕ) (t : Took) → stepped r registers memory out ≡ shown before t → r.printed ≤ length out
unfolding shown
step-within r registers memory out before t e = text-within before t.text r.printed out (ap (λ (x : Stepped). x.wrote) e)
