-- `print` is safe: what it prints is a part of the buffer.
use Rattle.text.proofs.Shown.{shown}
use Rattle.report.proofs.Shown.{within}
use Rattle.runner.proofs.print.Goals as goal

pub slice_bounds-text-end : goal.slice_bounds-text-end
slice_bounds-text-end g c = within _ _ _ _ _ c.write_report-length.ensures

pub slice_bounds-write_out-end : goal.slice_bounds-write_out-end
slice_bounds-write_out-end g c = shown _ _ (within _ _ _ _ _ c.write_report-length.ensures)
