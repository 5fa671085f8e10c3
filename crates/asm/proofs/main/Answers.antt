-- `main` is safe: what it hands on is a part of its buffer, of which the length is said and not computed.
use Prim.Native.Nat.{ℕ}
use mathlib.Core.Path.{sym}
use lib.ListN.{length-replicate}
use Rattle.asm.proofs.main.Goals as goal

pub slice_bounds-read_stream-end-2 : goal.slice_bounds-read_stream-end-2
slice_bounds-read_stream-end-2 c = sym (length-replicate {A = ℕ} 65537 0)

pub slice_bounds-source-end : goal.slice_bounds-source-end
slice_bounds-source-end c = c.in-Ok.ensures.0

pub slice_bounds-assemble-end : goal.slice_bounds-assemble-end
slice_bounds-assemble-end c = c.in-Ok.ensures.1
