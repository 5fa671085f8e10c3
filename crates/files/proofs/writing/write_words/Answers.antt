-- `write_words` is safe: what it writes is a part of the buffer.
use Rattle.program.proofs.Shown.{bytes-within}
use Rattle.text.proofs.Shown.{shown}
use Rattle.files.proofs.writing.write_words.Goals as goal

pub slice_bounds-bytes-end : goal.slice_bounds-bytes-end
slice_bounds-bytes-end g c = bytes-within _ _ _ _ c.in-Ok.ensures.written

pub slice_bounds-write_stream-end-in-Ok : goal.slice_bounds-write_stream-end-in-Ok
slice_bounds-write_stream-end-in-Ok g c = shown _ _ (bytes-within _ _ _ _ c.in-Ok.ensures.written)
