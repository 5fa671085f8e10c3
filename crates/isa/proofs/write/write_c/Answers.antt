-- `write_c` meets its contract: the tests are those of the definition, but for parts that always have room.
use Rattle.std.proofs.Common.{ltb, [], ◌∷◌, ltb-true}
use mathlib.Core.Option.{none, some}
use Rattle.isa.proofs.Both.{each}
use Rattle.isa.proofs.Room.{word, none_written}
use Rattle.isa.specs.Test.{all}
use Rattle.isa.specs.Write.{write_c}
use Rattle.isa.proofs.write.write_c.Goals as goal

pub c-requires : goal.c-requires
unfolding all
c-requires c =
    let x = c.args in
    let h = each (c.c_allows.result ∷ ltb c.c_opcode-opcode.result 8 ∷ ltb x.first 64 ∷ ltb x.second 64 ∷ []) c.if-c_allows-opcode.true in
    (ltb-true _ _ h.1.0, ltb-true _ _ h.1.1.0, ltb-true _ _ h.1.1.1.0)

pub returns-then-c_allows-opcode : goal.returns-then-c_allows-opcode
unfolding write_c
returns-then-c_allows-opcode c = rw (← c.c_opcode-opcode.ensures, ← c.c_allows.ensures) (word _ (none ∷ some _ ∷ some _ ∷ some _ ∷ none ∷ []) c.if-c_allows-opcode.true c.c.ensures)

pub returns-else-c_allows-opcode : goal.returns-else-c_allows-opcode
unfolding write_c
returns-else-c_allows-opcode c = rw (← c.c_opcode-opcode.ensures, ← c.c_allows.ensures) (none_written _ (none ∷ some _ ∷ some _ ∷ some _ ∷ none ∷ []) _ c.if-c_allows-opcode.false)
