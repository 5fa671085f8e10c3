-- What is proved of the six numbers: they are an instruction's, and have its word; reading and writing belong together.
use Rattle.std.specs.Prelude.{ℕ, ◌<◌, ◌^◌, ◌↔◌, ◌≡◌}
use Rattle.std.proofs.Math.Option.{some}
use Rattle.answer.specs.Answer.{given}
use Rattle.isa.specs.Read.{read}
use Rattle.isa.specs.Write.{write}
use Rattle.fields.specs.Find.{Held, held, word_for}
use Rattle.fields.specs.Instructions.{instruction_numbers, instruction_of}
use Rattle.fields.specs.Numbers.{numbers, numbers_of}
use Rattle.fields.specs.Types.{Numbers, Instruction}

-- Numbers are an instruction's exactly if they are found to be.
unfoldable pub Owned : Type 0
Owned = (n : Numbers) (i : Instruction) → (instruction_of n ≡ some i) ↔ (n ≡ instruction_numbers i)

-- Numbers have a word exactly if they are an instruction's and that instruction writes it.
unfoldable pub HasWord : Type 0
HasWord = (n : Numbers) (w : ℕ) (i : Instruction) → (word_for n ≡ given (held w i)) ↔ ((n ≡ instruction_numbers i) × (write i ≡ given w))

-- The numbers of a word are those of the instruction that it is read as.
unfoldable pub Numbered : Type 0
Numbered = (w : ℕ) (i : Instruction) → w < 2 ^ 32 → read w ≡ given i → numbers_of w ≡ instruction_numbers i

-- A word that is read and written is the word again,
unfoldable pub WordAgain : Type 0
WordAgain = (w : ℕ) (i : Instruction) → w < 2 ^ 32 → read w ≡ given i → word_for (numbers_of w) ≡ given (held w i)

-- and numbers that are written and read are the numbers again.
unfoldable pub NumbersAgain : Type 0
NumbersAgain = (n : Numbers) (h : Held) → word_for n ≡ given h → (read h.word ≡ given h.instruction) × (numbers_of h.word ≡ n)

-- "0x040C1080 is add s3,s1,s2", "0x44041FF8 addi s1,s1,-1", "0x62060000 movei s1 ..", which "becomes 0xFFFF8000" (02, T-02), "0x78001000",
-- "0x82081000 load32 s2,(s1)", and a jump by -4: their numbers, computed
pub record Rows : Type 0 where
  pub r : numbers_of 0x040C1080 ≡ numbers 0 4 0b000 3 1 2
  pub i : numbers_of 0x44041FF8 ≡ numbers 1 4 0b00 1 1 0xFFFFFFFF
  pub movei : numbers_of 0x62060000 ≡ numbers 2 2 0 1 0xFFFF8000 0
  pub j : numbers_of 0x7003FFFC ≡ numbers 3 0 0 0 0xFFFFFFFC 0
  pub c : numbers_of 0x78001000 ≡ numbers 4 0 0 0 1 0
  pub m : numbers_of 0x82081000 ≡ numbers 5 2 0 2 1 0
