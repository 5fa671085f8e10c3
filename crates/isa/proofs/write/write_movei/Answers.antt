-- `write_movei` meets its contract: the tests are those of the definition, but for parts that always have room.
use Rattle.std.proofs.Common.{◌%◌, ltb, [], ◌∷◌, arith, ltb-true, lt-ltb}
use mathlib.Core.Option.{none, some}
use Rattle.isa.proofs.Both.{each}
use Rattle.isa.proofs.Room.{word, none_written}
use Rattle.isa.specs.Test.{all}
use Rattle.isa.specs.Write.{write_movei}
use Rattle.isa.proofs.write.write_movei.Goals as goal

pub movei-requires : goal.movei-requires
unfolding all
movei-requires c =
    let x = c.args in
    let h = each (c.movei_allows.result ∷ c.movei_fits.result ∷ ltb c.movei_opcode-opcode.result 8 ∷ ltb x.d 64 ∷ ltb x.flag 2 ∷ []) c.if-movei_allows-movei_fits.true in
    (ltb-true _ _ h.1.1.0, ltb-true _ _ h.1.1.1.0, omega arith, ltb-true _ _ h.1.1.1.1.0)

pub returns-then-movei_allows-movei_fits : goal.returns-then-movei_allows-movei_fits
unfolding write_movei
returns-then-movei_allows-movei_fits c = rw (← c.movei_opcode-opcode.ensures, ← c.movei_allows.ensures, ← c.movei_fits.ensures, lt-ltb (c.args.immediate % 65536) 65536 (omega arith)) (word _ (none ∷ some _ ∷ some _ ∷ none ∷ some _ ∷ none ∷ []) c.if-movei_allows-movei_fits.true c.movei.ensures)

pub returns-else-movei_allows-movei_fits : goal.returns-else-movei_allows-movei_fits
unfolding write_movei
returns-else-movei_allows-movei_fits c = rw (← c.movei_opcode-opcode.ensures, ← c.movei_allows.ensures, ← c.movei_fits.ensures, lt-ltb (c.args.immediate % 65536) 65536 (omega arith)) (none_written _ (none ∷ some _ ∷ some _ ∷ none ∷ some _ ∷ none ∷ []) _ c.if-movei_allows-movei_fits.false)
