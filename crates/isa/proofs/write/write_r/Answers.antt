-- `write_r` meets its contract: the tests are those of the definition, but for parts that always have room.
use Rattle.std.proofs.Common.{ltb, [], ◌∷◌, ltb-true}
use mathlib.Core.Option.{none, some}
use Rattle.isa.proofs.Both.{each}
use Rattle.isa.proofs.Room.{word, none_written}
use Rattle.isa.specs.Test.{all}
use Rattle.isa.specs.Write.{write_r}
use Rattle.isa.proofs.write.write_r.Goals as goal

pub r-requires : goal.r-requires
unfolding all
r-requires c =
    let x = c.args in
    let h = each (c.r_allows.result ∷ ltb c.r_opcode-opcode.result 64 ∷ ltb x.d 64 ∷ ltb x.a 64 ∷ ltb x.b 64 ∷ ltb x.flags 8 ∷ []) c.if-r_allows-opcode.true in
    (ltb-true _ _ h.1.0, ltb-true _ _ h.1.1.0, ltb-true _ _ h.1.1.1.0, ltb-true _ _ h.1.1.1.1.0, ltb-true _ _ h.1.1.1.1.1.0)

pub returns-then-r_allows-opcode : goal.returns-then-r_allows-opcode
unfolding write_r
returns-then-r_allows-opcode c = rw (← c.r_opcode-opcode.ensures, ← c.r_allows.ensures) (word _ (none ∷ some _ ∷ some _ ∷ some _ ∷ some _ ∷ none ∷ none ∷ some _ ∷ none ∷ []) c.if-r_allows-opcode.true c.r.ensures)

pub returns-else-r_allows-opcode : goal.returns-else-r_allows-opcode
unfolding write_r
returns-else-r_allows-opcode c = rw (← c.r_opcode-opcode.ensures, ← c.r_allows.ensures) (none_written _ (none ∷ some _ ∷ some _ ∷ some _ ∷ some _ ∷ none ∷ none ∷ some _ ∷ none ∷ []) _ c.if-r_allows-opcode.false)
