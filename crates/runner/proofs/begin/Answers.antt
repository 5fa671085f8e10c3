-- `begin` is safe: an allowed memory has at most 65,536 bytes.
use lib.ListN.{replicate}
use Rattle.answer.specs.Refusal.{memory_bytes}
use mathlib.Core.Path.{sym, ◌∙◌}
use Rattle.text.proofs.Shown.{shown}
use Rattle.answer.proofs.Lengths.{memory_most}
use Rattle.runner.proofs.Memory.{part_small}
use Rattle.runner.proofs.begin.Goals as goal

pub slice_bounds-memory-end : goal.slice_bounds-memory-end
slice_bounds-memory-end g c = memory_most _ (sym c.bad_memory.ensures ∙ c.if-bad_memory.false)

pub slice_bounds-start-end : goal.slice_bounds-start-end
slice_bounds-start-end g c = shown _ _ (memory_most _ (sym c.bad_memory.ensures ∙ c.if-bad_memory.false))

pub start-requires : goal.start-requires
start-requires g c = let n = c.args.settings.memory in let h = memory_most n (sym c.bad_memory.ensures ∙ c.if-bad_memory.false) in part_small n memory_bytes (replicate memory_bytes 0) h h
