-- `main` is safe: the program is a part of its buffer.
use Rattle.program.proofs.Shown.{words-within}
use Rattle.text.proofs.Shown.{shown}
use Rattle.controller.proofs.main.Goals as goal

pub slice_bounds-program-end : goal.slice_bounds-program-end
slice_bounds-program-end c = words-within _ _ _ _ c.in-Ok.ensures.written

pub slice_bounds-start-end : goal.slice_bounds-start-end
slice_bounds-start-end c = shown _ _ (words-within _ _ _ _ c.in-Ok.ensures.written)
