-- `import` is safe: the words are a part of their buffer.
use Rattle.intel_hex.proofs.Shown.{words-within}
use Rattle.text.proofs.Shown.{shown}
use Rattle.importer.proofs.import.Goals as goal

pub slice_bounds-words-end : goal.slice_bounds-words-end
slice_bounds-words-end g c = words-within _ _ _ _ _ c.import.ensures c.in-Ok.is

pub slice_bounds-write_words-end : goal.slice_bounds-write_words-end
slice_bounds-write_words-end g c = shown _ _ (words-within _ _ _ _ _ c.import.ensures c.in-Ok.is)
