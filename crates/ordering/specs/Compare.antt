-- The compares of two words (document 01, "The words", R).
use Rattle.std.specs.Prelude.{ℕ, Bool, not, ◌==◌, nat_le, nat_lt}
use Rattle.isa.specs.declared.instruction.CompareOp.{CompareOp}
use Rattle.isa.specs.declared.instruction.CompareOp.TheVariants.{Eq, Ne, Gt, Ge, Lt, Le, Ugt, Uge, Ult, Ule, Feq, Fne, Fgt, Fge, Flt, Fle}
use Rattle.float.specs.Floats.{feq_of, fne_of, fgt_of, fge_of, flt_of, fle_of}
use Rattle.twos_complement.specs.Word.{rank}

-- "14 cmpeq, 15 cmpne, signed 16 cmpgt, 17 cmpge, 18 cmplt, 19 cmple, unsigned 20 cmpugt, 21 cmpuge, 22 cmpult, 23 cmpule."
-- 02 (T-08): "compares 37 to 42 (cmpfeq, cmpfne, cmpfgt, cmpfge, cmpflt, cmpfle)", of floats
abbrev pub compare : CompareOp → ℕ → ℕ → Bool
compare Eq x y = x == y
compare Ne x y = not (x == y)
compare Gt x y = nat_lt (rank y) (rank x)
compare Ge x y = nat_le (rank y) (rank x)
compare Lt x y = nat_lt (rank x) (rank y)
compare Le x y = nat_le (rank x) (rank y)
compare Ugt x y = nat_lt y x
compare Uge x y = nat_le y x
compare Ult x y = nat_lt x y
compare Ule x y = nat_le x y
compare Feq x y = feq_of x y
compare Fne x y = fne_of x y
compare Fgt x y = fgt_of x y
compare Fge x y = fge_of x y
compare Flt x y = flt_of x y
compare Fle x y = fle_of x y
