-- `print_looks` is safe: what it prints is a part of the buffer.
use Prim.Native.Nat.{ℕ, ◌≤◌}
use mathlib.Core.List.{List}
use mathlib.Core.Path.{◌≡◌}
use lib.ListN.{length}
use Rattle.report.specs.Report.{looks_line}
use Rattle.text.proofs.Shown.{shown, text-within}
use Rattle.text.specs.Buffer.{wrote, writes}
use Rattle.runner.proofs.print_looks.Goals as goal

within : (looks : ℕ) (l : List ℕ) (r : ℕ) (b : List ℕ) → wrote r b ≡ writes l 0 (looks_line looks) → r ≤ length b
within looks l r b e = text-within l (looks_line looks) r b e

pub slice_bounds-text-end : goal.slice_bounds-text-end
slice_bounds-text-end g c = within _ _ _ _ c.write_looks-length.ensures

pub slice_bounds-write_out-end : goal.slice_bounds-write_out-end
slice_bounds-write_out-end g c = shown _ _ (within _ _ _ _ c.write_looks-length.ensures)
