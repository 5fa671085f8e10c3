-- The figures of document 01, "Figures to check", that are marked P, as rows under a single claim.
use Rattle.std.specs.Prelude.{ℕ, List, [], ◌∷◌, ◌≡◌}
use Rattle.answer.specs.Answer.{Answer, given, refused, undefined, not-fitted}
use Rattle.execution.specs.Effect.{context}
use Rattle.execution.specs.Issue.{execute, execute_word}
use Rattle.execution.specs.Registers.{scalar}
use Rattle.isa.specs.Read.{read}
use Rattle.interpreter.specs.Types.{Add, Fadd, Mullo, Mulhi, Mulhu, Ashr, Clz, Lt, Ult, Binary, Unary, Compare, Whole, Load32, Load, Instruction, R, I, Movei, M}

pub data Figure : Type 0 where
  -- a word, and what it is read as
  reads : ℕ → Answer Instruction → Figure
  -- a word, and what s1 holds after it, whatever the registers held
  sets : ℕ → ℕ → Figure
  -- an instruction, what s1 and s2 hold before it, and what s3 holds after it
  gives : Instruction → ℕ → ℕ → ℕ → Figure

abbrev pub figures : List Figure
figures =
    -- "0x040C1080 is add s3,s1,s2"
    reads 0x040C1080 (given (R (Binary Add) 0b000 3 1 2)) ∷
    -- "0x040C108E add v3,v1,v2"
    reads 0x040C108E (given (R (Binary Add) 0b111 3 1 2)) ∷
    -- "0x12EC1086 cmplt s59,v1,v2"
    reads 0x12EC1086 (given (R (Compare Lt) 0b011 59 1 2)) ∷
    -- "0x44041FF8 addi s1,s1,-1"
    reads 0x44041FF8 (given (I (Binary Add) 0b00 1 1 0xFFFFFFFF)) ∷
    -- "0x62060000 movei s1", which 02 (T-02) changed: "the case 0x62060000 becomes 0xFFFF8000"
    reads 0x62060000 (given (Movei Whole 0 1 0xFFFF8000)) ∷
    sets 0x62060000 0xFFFF8000 ∷
    -- "0x82081000 load32 s2,(s1)"
    reads 0x82081000 (given (M (Load Load32) 2 1 0)) ∷
    -- "0x00000000 and 0x04FC0000 undefined"
    reads 0x00000000 (refused undefined) ∷
    reads 0x04FC0000 (refused undefined) ∷
    -- "0x21000000 not fitted", which 02 (T-08) changed: "the word 0x21000000 becomes fadd .. 0x2D000000 takes its place as not fitted"
    reads 0x21000000 (given (R (Binary Fadd) 0b000 0 0 0)) ∷
    reads 0x2D000000 (refused not-fitted) ∷
    -- 02 (T-08): "words of these opcodes off the layout give 7, not 8; l = 1 still gives 8"; 45 is not fitted "with any other bits"
    reads 0x21000001 (refused undefined) ∷
    reads 0x21000010 (refused not-fitted) ∷
    reads 0x2D000001 (refused not-fitted) ∷
    -- "0xFFFFFFFF times itself: mullo 1, mulhi 0, mulhu 0xFFFFFFFE."
    gives (R (Binary Mullo) 0b000 3 1 2) 0xFFFFFFFF 0xFFFFFFFF 1 ∷
    gives (R (Binary Mulhi) 0b000 3 1 2) 0xFFFFFFFF 0xFFFFFFFF 0 ∷
    gives (R (Binary Mulhu) 0b000 3 1 2) 0xFFFFFFFF 0xFFFFFFFF 0xFFFFFFFE ∷
    -- "ashr 0x80000000 by 33: 0xC0000000."
    gives (R (Binary Ashr) 0b000 3 1 2) 0x80000000 33 0xC0000000 ∷
    -- "clz 1 is 31."
    gives (R (Unary Clz) 0b000 3 1 0) 1 0 31 ∷
    -- "cmplt 0xFFFFFFFF,0 is 1, cmpult 0."
    gives (R (Compare Lt) 0b000 3 1 2) 0xFFFFFFFF 0 1 ∷
    gives (R (Compare Ult) 0b000 3 1 2) 0xFFFFFFFF 0 0 ∷ []

-- scalar register i of thread 0 after an instruction at address 0, by the rules of one issue
abbrev after_word : List ℕ → ℕ → ℕ → ℕ
after_word registers word i = scalar (execute_word (context 0 0 1 1 0) registers [] word).registers 0 i

abbrev after_instruction : List ℕ → Instruction → ℕ → ℕ
after_instruction registers instruction i = scalar (execute (context 0 0 1 1 0) registers [] instruction).registers 0 i

abbrev pub Holds : Figure → Type 0
Holds (reads word answer) = read word ≡ answer
Holds (sets word value) = (s0 s1 : ℕ) (rest : List ℕ) → after_word (s0 ∷ s1 ∷ rest) word 1 ≡ value
Holds (gives instruction s1 s2 s3) = (s0 old : ℕ) (rest : List ℕ) → after_instruction (s0 ∷ s1 ∷ s2 ∷ old ∷ rest) instruction 3 ≡ s3

abbrev pub Hold : List Figure → Type 0
Hold [] = Unit
Hold (f ∷ fs) = Holds f × Hold fs

-- every figure holds
abbrev pub FiguresHold : Type 0
FiguresHold = Hold figures
