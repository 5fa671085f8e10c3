-- What the runner shows is a part of its buffer.
use Prim.Native.Nat.{ℕ, ◌≤◌}
use mathlib.Core.List.{List}
use mathlib.Core.Path.{◌≡◌}
use lib.ListN.{length}
use Rattle.std.specs.Prelude.{Result}
use Rattle.text.proofs.Shown.{text-within}
use Rattle.text.specs.Buffer.{wrote, writes}
use Rattle.report.specs.Report.{report}
use Rattle.report.specs.Types.{Run, Refusal}

pub within : (run : Result Run Refusal) (registers l : List ℕ) (r : ℕ) (b : List ℕ) → wrote r b ≡ writes l 0 (report run registers) → r ≤ length b
within run registers l r b e = text-within l (report run registers) r b e
