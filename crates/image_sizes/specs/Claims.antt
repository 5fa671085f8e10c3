-- What is proved of the lengths.
use Rattle.std.specs.Prelude.{ℕ, false, ◌≡◌}
use Rattle.answer.specs.Refusal.{bad_memory, image_length}
use Rattle.image_layout.specs.Layout.{fixed_of}
use Rattle.image_layout.specs.declared.layout.Form.{Form}
use Rattle.image_sizes.specs.Sizes.{memory_of}

-- the memory of an image, in either form, is found by the image's length
abbrev pub MemoryFound : Type 0
MemoryFound = (f : Form) (bytes : ℕ) → bad_memory bytes ≡ false → memory_of (image_length (fixed_of f) bytes) ≡ bytes
