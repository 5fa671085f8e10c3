-- `sum_of` meets its contract: what is left of the digits, added to the sum, is the whole.
use Rattle.std.proofs.Common.{rules, sym, ap, ◌∙◌, arith, ℕ, List, ◌≡◌, length, ◌+◌, ◌*◌, ◌%◌}
use borrow.Author.Tests.{eqb-true, eqb-false}
use Rattle.intel_hex.specs.Digits.{pairs}
use Rattle.intel_hex.specs.Scan.{digested}
use Rattle.intel_hex.proofs.Pairs.{digest-step, digest-first, digest-second, digest-odd, digest-end, behind-two}
use Rattle.intel_hex.proofs.digits.sum_of.Goals as goal

pub returns-then-high-gt15 : goal.returns-then-high-gt15
returns-then-high-gt15 c =
    let l = c.loop-rest in
    elim c.then-high-gt15.branch [
      | goal.then-high-gt15-via-then-high-gt15 w ↦
          sym (l.invariant.1 ∙ digest-first l.rest.now l.sum c.value_of-high.result (omega arith) c.value_of-high.ensures.0 w.if-high-gt15.true)
      | goal.then-high-gt15-via-else-high-gt15+then-low-gt15 w ↦
          sym (l.invariant.1 ∙ digest-second l.rest.now l.sum c.value_of-low.result (omega arith) c.value_of-low.ensures.0 w.if-low-gt15.true)
    ]

pub loop-rest-preserved : goal.loop-rest-preserved
loop-rest-preserved c =
    let l = c.loop-rest in
    let x = c.value_of-high in
    let y = c.value_of-low in
    let s : (l.sum + 16 * x.result + y.result) % 256 ≡ (l.sum + 16 * c.from.result + c.from-in-len2-up.result) % 256 = search rules in (
      omega arith,
      l.invariant.1 ∙ digest-step l.rest.now l.sum x.result y.result (omega arith) x.ensures.0 y.ensures.0 c.if-high-gt15.false c.if-low-gt15.false
          ∙ rw s (ap (λ (t : List ℕ). digested ((l.sum + 16 * c.from.result + c.from-in-len2-up.result) % 256) (pairs t)) (sym (behind-two l.rest.now))),
    )

pub returns-then-not-is_empty : goal.returns-then-not-is_empty
returns-then-not-is_empty c =
    let l = c.loop-rest in
    let n = eqb-false _ _ (sym c.is_empty.ensures ∙ c.if-not-is_empty.true) in
    let h : length l.rest.now ≡ 1 = omega arith in
    sym (l.invariant.1 ∙ digest-odd l.rest.now l.sum h)

pub returns : goal.returns
returns c =
    let l = c.loop-rest in
    let h : length l.rest.now ≡ 0 = eqb-true _ _ (sym c.is_empty.ensures ∙ c.if-not-is_empty.false) in
    sym (l.invariant.1 ∙ digest-end l.rest.now l.sum l.invariant.0 h)
