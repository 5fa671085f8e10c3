use Rattle.std.proofs.Common.{sym, ◌∙◌, arith, false-eqb}
use borrow.Author.Tests.{eqb-true}
use Rattle.token.proofs.Numbers.{numeral-none, numeral-some, digit-on, digit-bad, digits-end, cap-at-most}
use Rattle.token.proofs.word.numeral.Goals as goal

pub returns-then-is_empty : goal.returns-then-is_empty
returns-then-is_empty c = numeral-none c.args.digits.now c.args.base (eqb-true _ _ (sym c.if-is_empty.ensures))

pub loop-c-init : goal.loop-c-init
loop-c-init c = record {
  so_far = numeral-some c.args.digits.now c.args.base (omega (arith, false-eqb _ 0 c.if-is_empty.ensures));
  bound = omega arith;
}

pub returns-then-base-d : goal.returns-then-base-d
returns-then-base-d c =
    digit-bad c.args.digits.now c.loop-c.c-index c.args.base c.loop-c.n (omega arith) (omega (arith, c.digit_of-d.ensures))
    ∙ c.loop-c.invariant.so_far

pub loop-c-preserved : goal.loop-c-preserved
loop-c-preserved c =
    let l = c.loop-c in
    let d = c.digit_of-d.ensures in
    record {
      so_far = rw (c.with_digit-n.ensures, d) (digit-on c.args.digits.now l.c-index c.args.base l.n (omega arith) c.requires.1 (omega (arith, d))) ∙ l.invariant.so_far;
      bound = rw c.with_digit-n.ensures (cap-at-most _);
    }

pub returns : goal.returns
returns c =
    digits-end c.args.digits.now c.loop-c.c-index c.args.base c.loop-c.n (omega arith) c.loop-c.invariant.bound
    ∙ c.loop-c.invariant.so_far
