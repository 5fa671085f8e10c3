-- `scalar::read` meets its contract: in each arm the operation is known.
use mathlib.Core.Path.{ap, ◌∙◌}
use Rattle.alu.specs.Unary.{unary}
use Rattle.memory.specs.Types.{Sext8, Sext16}
use Rattle.memory.proofs.scalar.read.Goals as goal

pub read8-requires : goal.read8-requires
read8-requires c = rw c.in-Load8.is at c.requires

pub read16-requires : goal.read16-requires
read16-requires c = rw c.in-Load16.is at c.requires

pub read32-requires : goal.read32-requires
read32-requires c = rw c.in-Load32.is at c.requires

pub read8-requires-in-Load8u : goal.read8-requires-in-Load8u
read8-requires-in-Load8u c = rw c.in-Load8u.is at c.requires

pub read16-requires-in-Load16u : goal.read16-requires-in-Load16u
read16-requires-in-Load16u c = rw c.in-Load16u.is at c.requires

pub returns-in-Load8 : goal.returns-in-Load8
returns-in-Load8 c = rw c.in-Load8.is (c.unary.ensures ∙ ap (unary Sext8) c.read8.ensures)

pub returns-in-Load16 : goal.returns-in-Load16
returns-in-Load16 c = rw c.in-Load16.is (c.unary-in-Load16.ensures ∙ ap (unary Sext16) c.read16.ensures)

pub returns-in-Load32 : goal.returns-in-Load32
returns-in-Load32 c = rw c.in-Load32.is c.read32.ensures

pub returns-in-Load8u : goal.returns-in-Load8u
returns-in-Load8u c = rw c.in-Load8u.is c.read8-in-Load8u.ensures

pub returns-in-Load16u : goal.returns-in-Load16u
returns-in-Load16u c = rw c.in-Load16u.is c.read16-in-Load16u.ensures
