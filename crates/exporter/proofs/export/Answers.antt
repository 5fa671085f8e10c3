-- `export` is safe: the text is a part of its buffer.
use Rattle.intel_hex.proofs.Shown.{text-within}
use Rattle.text.proofs.Shown.{shown}
use Rattle.exporter.proofs.export.Goals as goal

pub slice_bounds-text-end : goal.slice_bounds-text-end
slice_bounds-text-end g c = text-within _ _ _ _ _ c.export.ensures c.in-Ok.is

pub slice_bounds-write_stream-end-in-Ok : goal.slice_bounds-write_stream-end-in-Ok
slice_bounds-write_stream-end-in-Ok g c = shown _ _ (text-within _ _ _ _ _ c.export.ensures c.in-Ok.is)
