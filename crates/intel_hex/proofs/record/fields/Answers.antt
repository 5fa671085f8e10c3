-- `fields` meets its contract: the bytes are the pairs at their places.
use mathlib.Core.Path.{sym, ◌∙◌}
use native.Mathlib.Omega.{arith}
use Rattle.intel_hex.proofs.Pairs.{written}
use Rattle.intel_hex.proofs.Fields.{wrong-length, wrong-sum, right}
use Rattle.intel_hex.proofs.record.fields.Goals as goal

pub returns-then-digits-n : goal.returns-then-digits-n
returns-then-digits-n c bs e m =
    let d = c.args.digits.now in
    wrong-length d bs (written d bs e) c.requires c.byte_at-n.result c.byte_at-n.ensures.0 c.if-digits-n.true

pub returns-then-sum-ne0 : goal.returns-then-sum-ne0
returns-then-sum-ne0 c bs e m =
    let d = c.args.digits.now in
    wrong-sum d bs (written d bs e) c.requires c.byte_at-n.result c.byte_at-n.ensures.0 c.if-digits-n.false (λ z. c.if-sum-ne0.true (m ∙ z))

pub overflow_mul-address : goal.overflow_mul-address
overflow_mul-address c = omega (arith, c.byte_at.ensures.1)

pub overflow_add-address : goal.overflow_add-address
overflow_add-address c = omega (arith, c.byte_at-2.ensures.1, c.byte_at.ensures.1)

pub returns-then-n-ne2 : goal.returns-then-n-ne2
returns-then-n-ne2 c bs e m =
    let n = c.byte_at-n in
    let d = c.args.digits.now in
    c.typed.ensures ∙ right d bs (written d bs e) c.requires n.result n.ensures.0 c.if-digits-n.false (sym m ∙ c.if-sum-ne0.false)
    c.byte_at.result c.byte_at-2.result c.byte_at-kind.result 0 c.byte_at.ensures.0 c.byte_at-2.ensures.0 c.byte_at-kind.ensures.0
    (λ two. absurd (c.if-n-ne2.true two))

pub overflow_mul-byte_at : goal.overflow_mul-byte_at
overflow_mul-byte_at c = omega (arith, c.byte_at-3.ensures.1)

pub overflow_add-byte_at : goal.overflow_add-byte_at
overflow_add-byte_at c = omega (arith, c.byte_at-4.ensures.1, c.byte_at-3.ensures.1)

pub returns : goal.returns
returns c bs e m =
    let n = c.byte_at-n in
    let d = c.args.digits.now in
    c.typed-2.ensures ∙ right d bs (written d bs e) c.requires n.result n.ensures.0 c.if-digits-n.false (sym m ∙ c.if-sum-ne0.false)
    c.byte_at.result c.byte_at-2.result c.byte_at-kind.result _ c.byte_at.ensures.0 c.byte_at-2.ensures.0 c.byte_at-kind.ensures.0
    (λ two. omega (arith, c.byte_at-3.ensures.0, c.byte_at-4.ensures.0))
