-- What a word has room for: the registers and the immediate of an instruction that was read.
use Rattle.std.proofs.Common.{ℕ, Bool, eqb, arith}
use Rattle.isa.proofs.Cases.{by-test, by-guarded, by-listed}
use Rattle.answer.specs.Answer.{Answer, given, refused}
use Rattle.isa.specs.Claims.{HalfWord, Ranged, InRange}
use Rattle.word_layout.specs.Layout.{bits}
use Rattle.isa.specs.Number.{number_movei}
use Rattle.isa.specs.Read.{guarded, read, read_r, read_i, read_movei, read_j, read_c, read_m, as_r, as_i, as_movei, as_j, as_c, as_m}
use Rattle.isa.specs.Types.{Operation, MoveiOp, Low, High, Whole, JumpOp, ControlOp, MemoryOp, Instruction}

-- what an answer gives is in range
InRanges : Answer Instruction → Type 0
InRanges (given i) = Ranged i
InRanges (refused number) = Unit {0}

none : (n : ℕ) → InRanges (refused n)
unfolding InRanges
none n = tt

took : (t : Bool) (i : Instruction) → Ranged i → InRanges (guarded t i)
unfolding InRanges
took t i r = by-guarded InRanges t r tt

-- the number of moveil and moveih is half a word
pub half-word : (op : MoveiOp) (w : ℕ) → HalfWord op (number_movei op (bits w 17 2))
half-word Low w = omega arith
half-word High w = omega arith
half-word Whole w = tt

-- the fields of a word are, by format
r : (w : ℕ) (op : Operation) → InRanges (as_r w op)
unfolding as_r
r w op = by-test InRanges (eqb (bits w 4 4) 1) (none 8) (took _ _ (omega arith))

i : (w : ℕ) (op : Operation) → InRanges (as_i w op)
unfolding as_i
i w op = took _ _ (omega arith)

movei : (w : ℕ) (op : MoveiOp) → InRanges (as_movei w op)
unfolding as_movei
movei w op = took _ _ (omega arith, half-word op w)

j : (w : ℕ) (op : JumpOp) → InRanges (as_j w op)
unfolding as_j
j w op = took _ _ (omega arith)

c : (w : ℕ) (op : ControlOp) → InRanges (as_c w op)
unfolding as_c
c w op = took _ _ (omega arith)

m : (w : ℕ) (op : MemoryOp) → InRanges (as_m w op)
unfolding as_m
m w op = by-test InRanges (eqb (bits w 2 1) 0) (took _ _ (omega arith)) (none 8)

sound : (w : ℕ) → InRanges (read w)
unfolding read read_r read_i read_movei read_j read_c read_m
sound w =
    by-test InRanges (eqb (bits w 31 30) 0b00) (by-listed InRanges _ (r w) (none _))
    (by-test InRanges (eqb (bits w 31 29) 0b010) (by-listed InRanges _ (i w) (none _))
    (by-test InRanges (eqb (bits w 31 27) 0b01100) (by-listed InRanges _ (movei w) (none _))
    (by-test InRanges (eqb (bits w 31 27) 0b01110) (by-listed InRanges _ (j w) (none _))
    (by-test InRanges (eqb (bits w 31 27) 0b01111) (by-listed InRanges _ (c w) (none _))
    (by-test InRanges (eqb (bits w 31 30) 0b10) (by-listed InRanges _ (m w) (none _)) (none _))))))

pub in-range : InRange
unfolding InRange InRanges
in-range w i e = rw e at (sound w)
