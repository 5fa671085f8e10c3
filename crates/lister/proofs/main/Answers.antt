-- `main` is safe: what it writes is a part of the buffer.
use Rattle.listing.proofs.Shown.{within}
use Rattle.text.proofs.Shown.{shown}
use Rattle.lister.proofs.main.Goals as goal

pub slice_bounds-text-end : goal.slice_bounds-text-end
slice_bounds-text-end c = within _ _ _ _ c.list-length.ensures

pub slice_bounds-write_stream-end-2 : goal.slice_bounds-write_stream-end-2
slice_bounds-write_stream-end-2 c = shown _ _ (within _ _ _ _ c.list-length.ensures)
