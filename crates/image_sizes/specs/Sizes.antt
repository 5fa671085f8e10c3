-- The length of the memory that an image of a length holds (document 01, "Saved image"; 02, T-05).
use Rattle.std.specs.Prelude.{ℕ, ◌*◌, ◌-◌, ◌/◌}
use Rattle.answer.specs.Refusal.{block_bytes, block_record}
use Rattle.image_layout.specs.Layout.{fixed_of, form_of}

-- "MM for each 64-byte block": as many blocks as there are whole records of them behind the fixed part
abbrev pub memory_of : ℕ → ℕ
memory_of size = block_bytes * ((size - fixed_of (form_of size)) / block_record)
