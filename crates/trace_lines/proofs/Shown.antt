-- What is shown of the buffer is a part of it.
use Prim.Native.Nat.{ℕ, ◌≤◌}
use mathlib.Core.List.{List}
use mathlib.Core.Path.{◌≡◌}
use lib.ListN.{length}
use Rattle.text.proofs.Shown.{text-within}
use Rattle.text.specs.Buffer.{wrote, writes}
use Rattle.trace_lines.specs.Lines.{page_text}
use Rattle.trace_lines.specs.Types.{Row}

pub within : (made : ℕ) (rows : List Row) (l : List ℕ) (r : ℕ) (b : List ℕ) → wrote r b ≡ writes l 0 (page_text made rows) → r ≤ length b
within made rows l r b e = text-within l (page_text made rows) r b e
