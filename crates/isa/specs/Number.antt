-- The number of a MOVEI word, by its operation (document 02, T-02).
use Rattle.std.specs.Prelude.{ℕ, Bool, ◌==◌}
use Rattle.word_layout.specs.Layout.{signed, truncated, sign_bit, immediate_movei}
use Rattle.isa.specs.Types.{MoveiOp, Low, High, Whole}

-- "From now on movei extends the sign into the high half. .. the other two stay." What a field stands for;
abbrev pub number_movei : MoveiOp → ℕ → ℕ
number_movei Low n = n
number_movei High n = n
number_movei Whole n = signed (sign_bit immediate_movei) n

-- the field of a number;
abbrev pub field_movei : ℕ → ℕ
field_movei n = truncated (sign_bit immediate_movei) n

-- "In writing it runs from -32,768 to 32,767; the other two stay": whether a number is one that a field stands for.
unfoldable pub fits_movei : MoveiOp → ℕ → Bool
fits_movei op n = number_movei op (field_movei n) == n
