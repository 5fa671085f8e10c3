-- The saved image written and read, with the machine record as bytes.
use Rattle.std.specs.Prelude.{ℕ, Bool, false, not, List, eqb}
use Rattle.answer.specs.Refusal.{refused_or}
use Rattle.machine.specs.State.{state}
use Rattle.image_layout.specs.declared.layout.Form.{Form}
use Rattle.image_layout.specs.declared.layout.Form.TheVariants.{Newest, Old}
use Rattle.image.specs.Calls.{ReadResult, read}
use Rattle.image.specs.Image.{image, machine_in}
use Rattle.image.specs.Opening.{no_blocks, record_bytes}
use Rattle.answer.specs.Left.{Left, left}
use Rattle.capi.specs.Answer.{number_of}
use Rattle.capi.specs.Refusal.{write_number}

-- the buffer that the writing of an image in a form leaves
unfoldable pub write_as : Form → Bool → List ℕ → List ℕ → List ℕ → List ℕ → Left (List ℕ)
write_as f dropping registers memory opening buffer =
    refused_or (write_number f dropping registers memory opening buffer)
    (λ number. left number buffer)
    (left 0 (image f (state (machine_in no_blocks opening) registers memory)))

abbrev pub write_call : List ℕ → List ℕ → List ℕ → List ℕ → Left (List ℕ)
write_call registers memory opening buffer = write_as Newest false registers memory opening buffer

-- any number but 0 allows dropping the counts
abbrev pub write_old_call : List ℕ → List ℕ → List ℕ → ℕ → List ℕ → Left (List ℕ)
write_old_call registers memory opening drop buffer = write_as Old (not (eqb drop 0)) registers memory opening buffer

-- what the reading of an image answers and leaves
pub record Restored : Type 0 where
  pub answer : ℕ
  pub registers : List ℕ
  pub memory : List ℕ
  pub opening : List ℕ

abbrev pub restored : ℕ → List ℕ → List ℕ → List ℕ → Restored
restored answer registers memory opening = record { answer = answer; registers = registers; memory = memory; opening = opening }

-- "start and image reading, which get none, hand back a record with every number 0"
abbrev pub restoring : ReadResult → Restored
restoring r = restored (number_of r.answer) r.left.registers r.left.memory (record_bytes r.left.machine)

unfoldable pub read_call : List ℕ → List ℕ → List ℕ → Restored
read_call l registers memory = restoring (read l registers memory)
