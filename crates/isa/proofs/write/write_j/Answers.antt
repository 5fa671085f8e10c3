-- `write_j` meets its contract: the tests are those of the definition, but for parts that always have room.
use Rattle.std.proofs.Common.{◌%◌, ltb, [], ◌∷◌, arith, ltb-true, lt-ltb}
use mathlib.Core.Option.{none, some}
use Rattle.isa.proofs.Both.{each}
use Rattle.isa.proofs.Room.{word, none_written}
use Rattle.isa.specs.Test.{all}
use Rattle.isa.specs.Write.{write_j}
use Rattle.isa.proofs.write.write_j.Goals as goal

pub j-requires : goal.j-requires
unfolding all
j-requires c =
    let x = c.args in
    let h = each (c.j_allows.result ∷ c.fits.result ∷ ltb c.j_opcode-opcode.result 8 ∷ ltb x.register 64 ∷ []) c.if-j_allows-fits.true in
    (ltb-true _ _ h.1.1.0, ltb-true _ _ h.1.1.1.0, omega arith)

pub returns-then-j_allows-fits : goal.returns-then-j_allows-fits
unfolding write_j
returns-then-j_allows-fits c = rw (← c.j_opcode-opcode.ensures, ← c.j_allows.ensures, ← c.fits.ensures, lt-ltb (c.args.offset % 262144) 262144 (omega arith)) (word _ (none ∷ some _ ∷ some _ ∷ none ∷ []) c.if-j_allows-fits.true c.j.ensures)

pub returns-else-j_allows-fits : goal.returns-else-j_allows-fits
unfolding write_j
returns-else-j_allows-fits c = rw (← c.j_opcode-opcode.ensures, ← c.j_allows.ensures, ← c.fits.ensures, lt-ltb (c.args.offset % 262144) 262144 (omega arith)) (none_written _ (none ∷ some _ ∷ some _ ∷ none ∷ []) _ c.if-j_allows-fits.false)
