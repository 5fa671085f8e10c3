-- `load` is safe: the program is a part of its buffer.
use Rattle.program.proofs.Shown.{words-within}
use Rattle.text.proofs.Shown.{shown}
use Rattle.runner.proofs.load.Goals as goal

pub slice_bounds-program-end : goal.slice_bounds-program-end
slice_bounds-program-end g c = words-within _ _ _ _ c.in_ok-count.ensures.written

pub slice_bounds-program-end-2 : goal.slice_bounds-program-end-2
slice_bounds-program-end-2 g c = shown _ _ (words-within _ _ _ _ c.in_ok-count.ensures.written)
