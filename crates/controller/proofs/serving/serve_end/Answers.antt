-- `serving::serve_end` is safe: what it prints is a part of the buffer.
use Rattle.minute_lines.proofs.Shown.{step-within}
use Rattle.text.proofs.Shown.{shown}
use Rattle.controller.proofs.serving.serve_end.Goals as goal

pub slice_bounds-out-end : goal.slice_bounds-out-end
slice_bounds-out-end g c = step-within _ _ _ _ _ _ c.take_end-step.ensures

pub slice_bounds-print-end : goal.slice_bounds-print-end
slice_bounds-print-end g c = shown _ _ (step-within _ _ _ _ _ _ c.take_end-step.ensures)
