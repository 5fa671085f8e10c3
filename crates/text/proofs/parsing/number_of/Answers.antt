-- `number_of` meets its contract: after i turns the bytes from i on are still to be read.
use Rattle.std.proofs.Common.{rules, ℕ, ◌≡◌, ◌+◌, length, drop, ap, sym, ◌∙◌, arith}
use Rattle.std.proofs.Math.Option.{Option, some}
use Rattle.text.specs.Argument.{with_digits}
use Rattle.text.proofs.Arguments.{filled, read_next, read-end, refused_stays}
use Rattle.text.proofs.parsing.number_of.Goals as goal

pub returns-in_err-read : goal.returns-in_err-read
returns-in_err-read c =
    let t = c.args.text.now in
    let l = c.loop-byte in
    let rest = drop (l.byte-index + 1) t in
    rw c.from_residual.ensures
    (sym (refused_stays rest) ∙ ap (λ (n : Option ℕ). with_digits n rest) c.in_err-read.ensures ∙ sym (read_next (some l.read) t l.byte-index (omega arith)) ∙
    l.invariant ∙ sym (filled t (search rules)))

pub loop-byte-preserved : goal.loop-byte-preserved
loop-byte-preserved c =
    let l = c.loop-byte in
    rw c.in_ok-read.ensures (sym (read_next (some l.read) c.args.text.now l.byte-index (omega arith)) ∙ l.invariant)

pub returns : goal.returns
returns c =
    let t = c.args.text.now in
    let l = c.loop-byte in
    let e : l.byte-index ≡ length t = omega arith in
    sym (read-end (some l.read) t l.byte-index e) ∙ l.invariant ∙ sym (filled t (search rules))
