-- What a word of scalars alone does: one law a family.
use Rattle.std.proofs.Common.{◌≡◌, ℕ, ◌%◌, ◌^◌, ◌<◌, Bool, true, false, cond, ◌&&◌, ltb, leb, List, [], sym, refl, ap, ◌∙◌, arith, lt-ltb, eq-eqb, Ok}
use mathlib.Core.Bool.{false≢true}
use Rattle.alu.specs.Binary.{binary}
use Rattle.ordering.specs.Compare.{compare}
use Rattle.alu.specs.Unary.{unary}
use Rattle.isa.proofs.Both.{and_both}
use Rattle.word_layout.specs.Layout.{bits, signed}
use Rattle.isa.specs.Number.{number_movei}
use Rattle.isa.specs.Rule.{flags_unary, flags_class, destination, allows_r, allows_i, allows_j, allows_m}
use Rattle.isa.specs.Test.{is_in}
use Rattle.isa.specs.Table.{row_r, row_movei, row_j, row_m}
use Rattle.execution.specs.Access.{access, load_into, store_from}
use Rattle.execution.specs.Effect.{Stays, context, executed, beside, advanced, next}
use Rattle.execution.specs.Immediate.{replaced, move_immediate}
use Rattle.execution.specs.Issue.{execute_word}
use Rattle.execution.specs.Jump.{jump, jump_by}
use Rattle.execution.specs.Operation.{binary_into, unary_into, compare_into, operate, operate_r, operate_i}
use Rattle.execution.specs.Registers.{scalar}
use Rattle.memory.specs.Attempt.{Attempt, done, fault}
use Rattle.memory.specs.Operation.{load, store, StoreResult, store_result, changed, scalar_place, bytes_stored}
use Rattle.little_endian.specs.Numbers.{with_number}
use Rattle.fast_path.proofs.Words.{free-register, flagged-R, flagged-I, plain-Movei, plain-J, plain-M}
use Rattle.fast_path.specs.Action.{HasOpcode, Acts, ActsOn, ActsAnywhere}
use Rattle.fast_path.specs.Types.{
  Write,
  Next,
  Jump,
  Scalar,
  Operation,
  Binary,
  BinaryOp,
  Unary,
  UnaryOp,
  Clz,
  Ctz,
  Move,
  Sext8,
  Sext16,
  IntToFloat,
  FloatToInt,
  Compare,
  CompareOp,
  MoveiOp,
  JumpOp,
  MemoryOp,
  Load,
  LoadOp,
  Store,
  StoreOp,
}

-- every operation of one operand has a form on scalars
plain-flags : (op : UnaryOp) → is_in 0 (flags_unary op) ≡ true
plain-flags Clz = refl
plain-flags Ctz = refl
plain-flags Move = refl
plain-flags Sext8 = refl
plain-flags Sext16 = refl
plain-flags IntToFloat = refl
plain-flags FloatToInt = refl

-- an operation whose opcode the five bits of I hold has the flags of its class
listed-flags : (t : Bool) (flags : ℕ) (xs : List ℕ) (free : Bool) → t ≡ true → (is_in flags xs && free) ≡ true → (is_in flags (cond t xs []) && free) ≡ true
listed-flags true flags xs free e h = h
listed-flags false flags xs free e h = absurd (false≢true e)

pub has-I : (op : Operation) (flags d : ℕ) → (row_r op).opcode < 2 ^ 5 → (is_in flags (flags_class op) && destination (leb 0b10 flags) d) ≡ true →
    allows_i op flags d ≡ true
has-I op flags d h e =
    listed-flags (ltb (row_r op).opcode (2 ^ 5)) flags (flags_class op) (destination (leb 0b10 flags) d) (lt-ltb (row_r op).opcode (2 ^ 5) h) e

module _ (t : ℕ) (regs : List ℕ) (w : ℕ) where
  abbrev pub operand_a : ℕ
  operand_a = scalar regs t (bits w 17 12)

  abbrev pub operand_b : ℕ
  operand_b = scalar regs t (bits w 11 6)

  abbrev pub immediate : ℕ
  immediate = signed (2 ^ 8) (bits w 11 3)

  abbrev pub offset : ℕ
  offset = signed (2 ^ 17) (bits w 17 0)

  -- a word of R or I on scalars alone: register d gets what the operation makes of operand a and the word y
  abbrev Operates : Operation → ℕ → Type 0
  Operates op y = (memory : List ℕ) (pc enabled words turns : ℕ) →
      execute_word (context t pc enabled words turns) regs memory w ≡
      beside (next (context t pc enabled words turns) (operate regs t op false (bits w 23 18) (Scalar operand_a) (Scalar y))) memory

  operates-R : (op : Operation) → HasOpcode w 0x00 64 (row_r op).opcode → w % 64 ≡ 0 → allows_r op 0 (bits w 23 18) (bits w 11 6) ≡ true →
      Operates op operand_b
  unfolding execute_word operate_r
  operates-R op h low allowed memory pc enabled words turns = rw (flagged-R w op 0 h (omega arith) low allowed)

  operates-I : (op : Operation) → HasOpcode w 0x40 32 (row_r op).opcode → w % 8 ≡ 0 → allows_i op 0 (bits w 23 18) ≡ true →
      Operates op immediate
  unfolding execute_word operate_i
  operates-I op h low allowed memory pc enabled words turns = rw (flagged-I w op 0 h (omega arith) low allowed)

  writes-binary : (op : BinaryOp) (y : ℕ) → Operates (Binary op) y → ActsAnywhere t w regs (Write (binary op operand_a y))
  unfolding binary_into
  writes-binary op y h = h

  writes-compare : (op : CompareOp) (y : ℕ) → Operates (Compare op) y → ActsAnywhere t w regs (Write (cond (compare op operand_a y) 1 0))
  unfolding compare_into
  writes-compare op y h = h

  writes-unary : (op : UnaryOp) (y : ℕ) → Operates (Unary op) y → ActsAnywhere t w regs (Write (unary op operand_a))
  unfolding unary_into
  writes-unary op y h = h

  pub binary-R : (op : BinaryOp) → HasOpcode w 0x00 64 (row_r (Binary op)).opcode → w % 64 ≡ 0 →
      ActsAnywhere t w regs (Write (binary op operand_a operand_b))
  binary-R op h low =
      writes-binary op operand_b (operates-R (Binary op) h low (and_both _ _ (free-register (bits w 23 18) h.free) refl))

  pub compare-R : (op : CompareOp) → HasOpcode w 0x00 64 (row_r (Compare op)).opcode → w % 64 ≡ 0 →
      ActsAnywhere t w regs (Write (cond (compare op operand_a operand_b) 1 0))
  compare-R op h low =
      writes-compare op operand_b (operates-R (Compare op) h low (and_both _ _ (free-register (bits w 23 18) h.free) refl))

  pub unary-R : (op : UnaryOp) → HasOpcode w 0x00 64 (row_r (Unary op)).opcode → w % 4096 ≡ 0 →
      ActsAnywhere t w regs (Write (unary op operand_a))
  unary-R op h low =
      let b : bits w 11 6 ≡ 0 = omega arith in
      let low6 : w % 64 ≡ 0 = omega arith in
      let allowed = and_both _ _ (free-register (bits w 23 18) h.free) (eq-eqb (bits w 11 6) 0 b) in
      writes-unary op operand_b (operates-R (Unary op) h low6 (rw (plain-flags op) allowed))

  pub binary-I : (op : BinaryOp) → HasOpcode w 0x40 32 (row_r (Binary op)).opcode → w % 8 ≡ 0 →
      ActsAnywhere t w regs (Write (binary op operand_a immediate))
  binary-I op h low =
      writes-binary op immediate (operates-I (Binary op) h low (has-I (Binary op) 0 (bits w 23 18) h.listed (free-register (bits w 23 18) h.free)))

  pub compare-I : (op : CompareOp) → HasOpcode w 0x40 32 (row_r (Compare op)).opcode → w % 8 ≡ 0 →
      ActsAnywhere t w regs (Write (cond (compare op operand_a immediate) 1 0))
  compare-I op h low =
      writes-compare op immediate (operates-I (Compare op) h low (has-I (Compare op) 0 (bits w 23 18) h.listed (free-register (bits w 23 18) h.free)))

  pub moves : (op : MoveiOp) → HasOpcode w 0x60 8 (row_movei op).opcode → w % 4 ≡ 0 →
      ActsAnywhere t w regs (Write (replaced op (scalar regs t (bits w 23 18)) (number_movei op (bits w 17 2))))
  unfolding execute_word move_immediate
  moves op h low memory pc enabled words turns = rw (plain-Movei w op h low)

  pub jumps : (op : JumpOp) → HasOpcode w 0x70 8 (row_j op).opcode → allows_j op (bits w 23 18) offset ≡ true →
      (memory : List ℕ) (pc enabled words turns : ℕ) →
      execute_word (context t pc enabled words turns) regs memory w ≡ beside (jump (context t pc enabled words turns) regs op (bits w 23 18) offset) memory
  unfolding execute_word
  jumps op h allowed memory pc enabled words turns = rw (plain-J w op h allowed)

  -- a branch, by its test
  pub branches : (taken : Bool) (memory : List ℕ) (pc enabled words turns : ℕ) →
      execute_word (context t pc enabled words turns) regs memory w ≡
      beside (cond taken (jump_by (context t pc enabled words turns) regs regs offset) (next (context t pc enabled words turns) regs)) memory →
      Acts (context t pc enabled words turns) w regs memory (cond taken (Jump offset) Next)
  branches true memory pc enabled words turns h = h
  branches false memory pc enabled words turns h = h

  pub accesses : (op : MemoryOp) → HasOpcode w 0x80 64 (row_m op).opcode → w % 8 ≡ 0 → allows_m op (bits w 23 18) ≡ true →
      (memory : List ℕ) (pc enabled words turns : ℕ) →
      execute_word (context t pc enabled words turns) regs memory w ≡ access (context t pc enabled words turns) regs memory op (bits w 23 18) (bits w 17 12) immediate
  unfolding execute_word
  accesses op h low allowed memory pc enabled words turns = rw (plain-M w op h low allowed)

  -- a load that is done
  pub loads : (op : LoadOp) → HasOpcode w 0x80 64 (row_m (Load op)).opcode → w % 8 ≡ 0 → (memory : List ℕ) (x : ℕ) →
      load op memory operand_a immediate ≡ done x → ActsOn t w regs memory (Write x)
  unfolding load_into
  loads op h low memory x e pc enabled words turns =
      accesses (Load op) h low (free-register (bits w 23 18) h.free) memory pc enabled words turns ∙ rw e

  -- a store that is done, and one that traps, which changes no byte
  pub stores : (op : StoreOp) → HasOpcode w 0x80 64 (row_m (Store op)).opcode → w % 8 ≡ 0 → (memory stored : List ℕ) →
      store_result (Ok tt) stored ≡ store op memory operand_a immediate (scalar regs t (bits w 23 18)) → (pc enabled words turns : ℕ) →
      executed Stays (advanced (context t pc enabled words turns) regs) stored ≡ execute_word (context t pc enabled words turns) regs memory w
  unfolding store_from
  stores op h low memory stored e pc enabled words turns = sym (accesses (Store op) h low refl memory pc enabled words turns ∙ rw (← e))

pub trap-changes : (place : Attempt ℕ) (m : List ℕ) (f : ℕ → List ℕ) (reason : ℕ) (stored : List ℕ) →
    record { answer = fault reason; memory = stored } ≡ changed place m f → stored ≡ m
trap-changes (done a) m f reason stored e =
    let answer : ◌≡◌ {A = Attempt (Unit {0})} (fault reason) (done tt) = ap (λ (o : StoreResult). o.answer) e in
    let z : ◌≡◌ {A = ℕ} 0 1 = cc in
    absurd (omega arith)
trap-changes (fault k) m f reason stored e = ap (λ (o : StoreResult). o.memory) e

pub store-traps : (op : StoreOp) (memory : List ℕ) (base offset value reason : ℕ) (stored : List ℕ) →
    record { answer = fault reason; memory = stored } ≡ store op memory base offset value → stored ≡ memory
unfolding store
store-traps op memory base offset value reason stored e =
    trap-changes (scalar_place (bytes_stored op) memory base offset) memory (λ a. with_number (bytes_stored op) memory a value) reason stored e
