-- A program's bytes (document 02, T-06): "Words are little endian from address 0".
use Rattle.std.specs.Prelude.{ℕ, List, length}
use Rattle.little_endian.specs.Numbers.{bytes_of}

-- the bytes of all of its words; what words bytes are is `program_in` (crate `program`), as for every program
unfoldable pub program_bytes : List ℕ → List ℕ
program_bytes words = bytes_of (length words) words
