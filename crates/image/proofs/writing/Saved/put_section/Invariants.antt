-- `writing::Saved::put_section` meets its contract.
use Rattle.image.specs.Saved.{state_of}
use Rattle.image_layout.specs.Join.{concat_below, Grown}
use Rattle.image_layout.specs.Layout.{row_of, record_of}
use Rattle.image.specs.Image.{body_of}
use Rattle.image.proofs.writing.Saved.put_section.Given as goal

abbrev pub invariant-loop-i : goal.invariant-loop-i
invariant-loop-i l = Grown l.initial.buffer l.buffer l.at l.next (concat_below l.i (record_of (row_of l.self.shape l.kind) (body_of l.self.shape.form (state_of l.self) l.kind)))
