-- `resume` is safe: an image has a memory of at most 65,536 bytes.
use lib.ListN.{replicate}
use mathlib.Core.Path.{sym, ◌∙◌}
use Rattle.answer.proofs.Lengths.{memory_most}
use Rattle.answer.specs.Refusal.{memory_bytes}
use Rattle.text.proofs.Shown.{shown}
use native.Mathlib.Omega.{arith}
use Rattle.runner.proofs.resume.Goals as goal

pub slice_bounds-memory-end : goal.slice_bounds-memory-end
slice_bounds-memory-end g c = memory_most _ (sym c.bad_memory.ensures ∙ c.if-bad_memory.false)

pub slice_bounds-restore-end-2 : goal.slice_bounds-restore-end-2
slice_bounds-restore-end-2 g c = shown _ _ (memory_most _ (sym c.bad_memory.ensures ∙ c.if-bad_memory.false))

pub restore-requires : goal.restore-requires
restore-requires g c = let n = c.memory_of-size.result in let h = memory_most n (sym c.bad_memory.ensures ∙ c.if-bad_memory.false) in omega (arith, shown n (replicate memory_bytes 0) h, h)
