-- `writing::Saved::put_kinds` meets its contract.
use Rattle.image.specs.Saved.{state_of}
use Rattle.image_layout.proofs.Rows.{section_at}
use Rattle.image_layout.specs.Join.{concat_below, Grown}
use Rattle.image.specs.Image.{body_of}
use Rattle.image.proofs.writing.Saved.put_kinds.Given as goal

abbrev pub invariant-loop-position : goal.invariant-loop-position
invariant-loop-position l = Grown l.initial.buffer l.buffer 0 l.next (concat_below l.position (section_at l.self.shape (body_of l.self.shape.form (state_of l.self))))
