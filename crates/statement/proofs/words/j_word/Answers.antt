-- `j_word` meets its contract: a jump with a target has an operand for it.
use mathlib.Core.Bool.{Bool, true, false}
use mathlib.Core.Path.{◌≡◌, refl}
use Rattle.isa.specs.Operands.{where-free}
use Rattle.isa.specs.Rule.{allows_j}
use Rattle.statement.specs.Types.{AnImmediate}
use Rattle.statement.specs.Meaning.{meaning_with}
use Rattle.statement.specs.Mnemonic.{is_operand}
use Rattle.statement.proofs.words.j_word.Goals as goal

free-operand : (b : Bool) → is_operand (where-free b AnImmediate) ≡ b
free-operand true = refl
free-operand false = refl

pub returns : goal.returns
unfolding meaning_with
returns c =
    let o = rw c.slots_of-slots.ensures at c.is_operand.ensures in
    rw (← free-operand (allows_j c.args.op 0 1), ← o, ← c.offset.ensures)
    c.lettered.ensures
