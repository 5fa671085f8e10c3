-- `find` meets its contract: the rows passed over are none of the format and the opcode.
use Rattle.std.proofs.Common.{◌≡◌, drop}
use Rattle.names.specs.Rows.{named}
use Rattle.names.proofs.name.find.Given as goal

abbrev pub invariant-loop-f : goal.invariant-loop-f
invariant-loop-f l = named l.f-items l.format l.opcode ≡ named (drop l.f-index l.f-items) l.format l.opcode
