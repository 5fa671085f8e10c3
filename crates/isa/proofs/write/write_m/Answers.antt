-- `write_m` meets its contract: the tests are those of the definition, but for parts that always have room.
use Rattle.std.proofs.Common.{◌%◌, ltb, [], ◌∷◌, arith, ltb-true, lt-ltb}
use mathlib.Core.Option.{none, some}
use Rattle.isa.proofs.Both.{each}
use Rattle.isa.proofs.Room.{word, none_written}
use Rattle.isa.specs.Test.{all}
use Rattle.isa.specs.Write.{write_m}
use Rattle.isa.proofs.write.write_m.Goals as goal

pub m-requires : goal.m-requires
unfolding all
m-requires c =
    let x = c.args in
    let h = each (c.m_allows.result ∷ c.fits.result ∷ ltb c.m_opcode-opcode.result 64 ∷ ltb x.register 64 ∷ ltb x.base 64 ∷ []) c.if-m_allows-fits.true in
    (ltb-true _ _ h.1.1.0, ltb-true _ _ h.1.1.1.0, ltb-true _ _ h.1.1.1.1.0, omega arith)

pub returns-then-m_allows-fits : goal.returns-then-m_allows-fits
unfolding write_m
returns-then-m_allows-fits c = rw (← c.m_opcode-opcode.ensures, ← c.m_allows.ensures, ← c.fits.ensures, lt-ltb (c.args.offset % 512) 512 (omega arith)) (word _ (none ∷ some _ ∷ some _ ∷ some _ ∷ none ∷ none ∷ none ∷ []) c.if-m_allows-fits.true c.m.ensures)

pub returns-else-m_allows-fits : goal.returns-else-m_allows-fits
unfolding write_m
returns-else-m_allows-fits c = rw (← c.m_opcode-opcode.ensures, ← c.m_allows.ensures, ← c.fits.ensures, lt-ltb (c.args.offset % 512) 512 (omega arith)) (none_written _ (none ∷ some _ ∷ some _ ∷ some _ ∷ none ∷ none ∷ none ∷ []) _ c.if-m_allows-fits.false)
