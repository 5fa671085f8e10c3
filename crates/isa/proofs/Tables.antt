-- Each operation is found by its opcode: no two of a table share one, and none is left out.
use mathlib.Core.Option.{some}
use Rattle.std.proofs.Common.{◌≡◌, refl}
use Rattle.isa.specs.Table.{Table, find, operation_at, table_r, table_movei, table_j, table_c, table_m}
use Rattle.isa.specs.declared.instruction.BinaryOp.TheVariants.{Or, And, Xor, Add, Sub, Mullo, Mulhi, Mulhu, Ashr, Shr, Shl, Fadd, Fsub, Fmul, Fdiv}
use Rattle.isa.specs.declared.instruction.UnaryOp.TheVariants.{Clz, Ctz, Move, Sext8, Sext16, IntToFloat, FloatToInt}
use Rattle.isa.specs.declared.instruction.CompareOp.TheVariants.{Eq, Ne, Gt, Ge, Lt, Le, Ugt, Uge, Ult, Ule, Feq, Fne, Fgt, Fge, Flt, Fle}
use Rattle.isa.specs.Types.{Binary, Unary, Compare, Shuffle, GetLane}
use Rattle.isa.specs.Types.{Low, High, Whole, Jmp, Jmpsr, Jret, Beqz, Bnez, Barrier, Readcr, End, Load8, Load16, Load32, Load8u, Load16u, Store8, Store16, Store32, Load, Store, LoadVector, StoreVector}

abbrev pub Finds : {A : Type 0} → Table A → Type 0
Finds {A} t = (op : A) → operation_at t (t.row_of op).opcode ≡ some op

pub finds-R : Finds table_r
unfolding find
finds-R (Binary Or) = refl
finds-R (Binary And) = refl
finds-R (Binary Xor) = refl
finds-R (Binary Add) = refl
finds-R (Binary Sub) = refl
finds-R (Binary Mullo) = refl
finds-R (Binary Mulhi) = refl
finds-R (Binary Mulhu) = refl
finds-R (Binary Ashr) = refl
finds-R (Binary Shr) = refl
finds-R (Binary Shl) = refl
finds-R (Binary Fadd) = refl
finds-R (Binary Fsub) = refl
finds-R (Binary Fmul) = refl
finds-R (Binary Fdiv) = refl
finds-R (Unary Clz) = refl
finds-R (Unary Ctz) = refl
finds-R (Unary Move) = refl
finds-R (Unary Sext8) = refl
finds-R (Unary Sext16) = refl
finds-R (Unary IntToFloat) = refl
finds-R (Unary FloatToInt) = refl
finds-R (Compare Eq) = refl
finds-R (Compare Ne) = refl
finds-R (Compare Gt) = refl
finds-R (Compare Ge) = refl
finds-R (Compare Lt) = refl
finds-R (Compare Le) = refl
finds-R (Compare Ugt) = refl
finds-R (Compare Uge) = refl
finds-R (Compare Ult) = refl
finds-R (Compare Ule) = refl
finds-R (Compare Feq) = refl
finds-R (Compare Fne) = refl
finds-R (Compare Fgt) = refl
finds-R (Compare Fge) = refl
finds-R (Compare Flt) = refl
finds-R (Compare Fle) = refl
finds-R Shuffle = refl
finds-R GetLane = refl

pub finds-Movei : Finds table_movei
unfolding find
finds-Movei Low = refl
finds-Movei High = refl
finds-Movei Whole = refl

pub finds-J : Finds table_j
unfolding find
finds-J Jmp = refl
finds-J Jmpsr = refl
finds-J Jret = refl
finds-J Beqz = refl
finds-J Bnez = refl

pub finds-C : Finds table_c
unfolding find
finds-C Barrier = refl
finds-C Readcr = refl
finds-C End = refl

pub finds-M : Finds table_m
unfolding find
finds-M (Load Load8) = refl
finds-M (Load Load16) = refl
finds-M (Load Load32) = refl
finds-M (Load Load8u) = refl
finds-M (Load Load16u) = refl
finds-M LoadVector = refl
finds-M (Store Store8) = refl
finds-M (Store Store16) = refl
finds-M (Store Store32) = refl
finds-M StoreVector = refl
