-- Numbers as the lines have them.
use Rattle.std.specs.Prelude.{ℕ, List}
use Rattle.text.specs.Number.{hex}

-- a program counter: eight upper-case hex digits, as in a listing
unfoldable pub counter : ℕ → List ℕ
counter address = hex address
