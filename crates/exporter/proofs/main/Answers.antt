-- `main` is safe: the program is a part of its buffer.
use Rattle.program.proofs.Shown.{words-within}
use Rattle.text.proofs.Shown.{shown}
use Rattle.exporter.proofs.main.Goals as goal

pub slice_bounds-words-end-in-Ok-words : goal.slice_bounds-words-end-in-Ok-words
slice_bounds-words-end-in-Ok-words c = words-within _ _ _ _ c.in-Ok-words.ensures.written

pub slice_bounds-export-end : goal.slice_bounds-export-end
slice_bounds-export-end c = shown _ _ (words-within _ _ _ _ c.in-Ok-words.ensures.written)
