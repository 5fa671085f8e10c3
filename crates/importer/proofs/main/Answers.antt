-- `main` is safe: what it hands on is a part of its buffer, of which the length is said and not computed.
use Prim.Native.Nat.{ℕ}
use mathlib.Core.Path.{sym}
use lib.ListN.{length-replicate}
use Rattle.importer.proofs.main.Goals as goal

pub slice_bounds-read_stream-end-2 : goal.slice_bounds-read_stream-end-2
slice_bounds-read_stream-end-2 c = sym (length-replicate {A = ℕ} 1048577 0)

pub slice_bounds-text-end : goal.slice_bounds-text-end
slice_bounds-text-end c = c.in-Ok.ensures.0

pub slice_bounds-import-end : goal.slice_bounds-import-end
slice_bounds-import-end c = c.in-Ok.ensures.1
