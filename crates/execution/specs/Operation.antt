-- The operations of R and I on registers (document 01, "The words", R and I).
use Rattle.std.specs.Prelude.{ℕ, ◌%◌, Bool, cond, ◌||◌, List}
use Rattle.alu.specs.Binary.{binary}
use Rattle.ordering.specs.Compare.{compare}
use Rattle.compares.specs.Lanes.{compare_lanes}
use Rattle.vector.specs.Lanes.{lane, binary_lanes, unary_lanes, shuffled}
use Rattle.alu.specs.Unary.{unary}
use Rattle.bits.specs.Bit.{is_set}
use Rattle.execution.specs.Operand.{source, is_vector, word, lanes}
use Rattle.execution.specs.Registers.{with_scalar, lane_mask, with_lanes_on}
use Rattle.execution.specs.Types.{Source, Scalar, Operation, Binary, Unary, Compare, Shuffle, GetLane, BinaryOp, UnaryOp, CompareOp}

-- "Scalar destinations ignore the mask, but see compares." Register d, a vector if `flag` holds, from operands a and b.
unfoldable pub binary_into : List ℕ → ℕ → BinaryOp → Bool → ℕ → Source → Source → List ℕ
binary_into regs t op flag d a b =
    cond flag
    (with_lanes_on regs t d (binary_lanes op (lanes regs t a) (lanes regs t b)))
    (with_scalar regs t d (binary op (word a) (word b)))

unfoldable pub unary_into : List ℕ → ℕ → UnaryOp → Bool → ℕ → Source → List ℕ
unary_into regs t op flag d a =
    cond flag
    (with_lanes_on regs t d (unary_lanes op (lanes regs t a)))
    (with_scalar regs t d (unary op (word a)))

-- "Flags 000 give 1 or 0; 011, 010, 001 give a bit per lane, 0 for lanes that are off and for bits 16-31."
unfoldable pub compare_into : List ℕ → ℕ → CompareOp → ℕ → Source → Source → List ℕ
compare_into regs t op d a b =
    with_scalar regs t d
    (cond (is_vector a || is_vector b)
    (compare_lanes op (lane_mask regs t) (lanes regs t a) (lanes regs t b))
    (cond (compare op (word a) (word b)) 1 0))

-- "24 shuffle, flags 111: d[j] = a[b[j] mod 16]; source lanes may be off."
unfoldable pub shuffle_into : List ℕ → ℕ → ℕ → Source → Source → List ℕ
shuffle_into regs t d a b = with_lanes_on regs t d (shuffled (lanes regs t a) (lanes regs t b))

-- "25 getlane, flags 010: a[b mod 16]."
unfoldable pub get_lane_into : List ℕ → ℕ → ℕ → Source → Source → List ℕ
get_lane_into regs t d a b = with_scalar regs t d (lane (lanes regs t a) (word b % 16))

abbrev pub operate : List ℕ → ℕ → Operation → Bool → ℕ → Source → Source → List ℕ
operate regs t (Binary op) flag d a b = binary_into regs t op flag d a b
operate regs t (Unary op) flag d a b = unary_into regs t op flag d a
operate regs t (Compare op) flag d a b = compare_into regs t op d a b
operate regs t Shuffle flag d a b = shuffle_into regs t d a b
operate regs t GetLane flag d a b = get_lane_into regs t d a b

-- R: "vector flags bit 3 (d), 2 (a), 1 (b)"
unfoldable pub operate_r : List ℕ → ℕ → Operation → ℕ → ℕ → ℕ → ℕ → List ℕ
operate_r regs t op flags d a b = operate regs t op (is_set flags 2) d (source regs t (is_set flags 1) a) (source regs t (is_set flags 0) b)

-- I: "flags bit 2 (d), 1 (a). .. as R with the immediate as b."
unfoldable pub operate_i : List ℕ → ℕ → Operation → ℕ → ℕ → ℕ → ℕ → List ℕ
operate_i regs t op flags d a immediate = operate regs t op (is_set flags 1) d (source regs t (is_set flags 0) a) (Scalar immediate)
