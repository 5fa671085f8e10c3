-- `write_i` meets its contract: the tests are those of the definition, but for parts that always have room.
use Rattle.std.proofs.Common.{◌%◌, ltb, [], ◌∷◌, arith, ltb-true, lt-ltb}
use mathlib.Core.Option.{none, some}
use Rattle.isa.proofs.Both.{each}
use Rattle.isa.proofs.Room.{word, none_written}
use Rattle.isa.specs.Test.{all}
use Rattle.isa.specs.Write.{write_i}
use Rattle.isa.proofs.write.write_i.Goals as goal

pub i-requires : goal.i-requires
unfolding all
i-requires c =
    let x = c.args in
    let h = each (c.i_allows.result ∷ c.fits.result ∷ ltb c.r_opcode-opcode.result 32 ∷ ltb x.d 64 ∷ ltb x.a 64 ∷ ltb x.flags 4 ∷ []) c.if-i_allows-fits.true in
    (ltb-true _ _ h.1.1.0, ltb-true _ _ h.1.1.1.0, ltb-true _ _ h.1.1.1.1.0, omega arith, ltb-true _ _ h.1.1.1.1.1.0)

pub returns-then-i_allows-fits : goal.returns-then-i_allows-fits
unfolding write_i
returns-then-i_allows-fits c = rw (← c.i_allows.ensures, ← c.r_opcode-opcode.ensures, ← c.fits.ensures, lt-ltb (c.args.immediate % 512) 512 (omega arith)) (word _ (none ∷ some _ ∷ some _ ∷ some _ ∷ none ∷ some _ ∷ none ∷ []) c.if-i_allows-fits.true c.i.ensures)

pub returns-else-i_allows-fits : goal.returns-else-i_allows-fits
unfolding write_i
returns-else-i_allows-fits c = rw (← c.i_allows.ensures, ← c.r_opcode-opcode.ensures, ← c.fits.ensures, lt-ltb (c.args.immediate % 512) 512 (omega arith)) (none_written _ (none ∷ some _ ∷ some _ ∷ some _ ∷ none ∷ some _ ∷ none ∷ []) _ c.if-i_allows-fits.false)
