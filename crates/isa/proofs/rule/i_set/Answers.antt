-- `i_set` meets its contract: an operation whose opcode has no room in five bits has no flags.
use Rattle.std.proofs.Common.{◌≡◌, ℕ, ◌^◌, Bool, cond, ltb, [], sym, ap, ◌∙◌, le-ltb, lt-ltb}
use Rattle.isa.specs.Rule.{flags_class}
use Rattle.isa.specs.Test.{set_of}
use Rattle.isa.specs.Types.{Operation}
use Rattle.isa.proofs.rule.i_set.Goals as goal

chosen : (op : Operation) (o n : ℕ) (t : Bool) → o ≡ n → ltb o (2 ^ 5) ≡ t → set_of (cond t (flags_class op) []) ≡ set_of (cond (ltb n (2 ^ 5)) (flags_class op) [])
chosen op o n t e h = ap (λ (u : Bool). set_of (cond u (flags_class op) [])) (sym h ∙ ap (λ (k : ℕ). ltb k (2 ^ 5)) e)

pub returns-then-r_opcode-lt32 : goal.returns-then-r_opcode-lt32
returns-then-r_opcode-lt32 c =
    let r = c.r_opcode in
    c.class_set.ensures ∙ chosen c.args.op _ _ _ r.ensures (lt-ltb _ _ c.if-r_opcode-lt32.true)

pub returns-else-r_opcode-lt32 : goal.returns-else-r_opcode-lt32
returns-else-r_opcode-lt32 c = chosen c.args.op _ _ _ c.r_opcode.ensures (le-ltb _ _ c.if-r_opcode-lt32.false)
