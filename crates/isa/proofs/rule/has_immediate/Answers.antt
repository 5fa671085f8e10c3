-- `has_immediate` meets its contract: the set of no flags is 0, and no other is.
use Rattle.std.proofs.Common.{◌≡◌, ◌^◌, Bool, true, false, cond, not, eqb, ltb, [], refl}
use Rattle.isa.specs.Rule.{flags_class, any_flags}
use Rattle.isa.specs.Table.{row_r}
use Rattle.isa.specs.Test.{set_of}
use Rattle.isa.specs.Types.{Operation, Binary, Unary, Compare, Shuffle, GetLane}
use Rattle.isa.proofs.rule.has_immediate.Goals as goal

any-set : (b : Bool) (op : Operation) → not (eqb (set_of (cond b (flags_class op) [])) 0) ≡ any_flags (cond b (flags_class op) [])
any-set false op = refl
any-set true (Binary op) = refl
any-set true (Unary op) = refl
any-set true (Compare op) = refl
any-set true Shuffle = refl
any-set true GetLane = refl

pub returns : goal.returns
returns c = rw c.i_set.ensures (any-set (ltb (row_r c.args.op).opcode (2 ^ 5)) c.args.op)
