-- `list` meets its contract: after k turns the lines of the first k words stand behind the header.
use Prim.Native.Nat.{◌+◌, ◌*◌, ◌/◌, ◌≤◌}
use mathlib.Core.Path.{◌≡◌, sym, ◌∙◌}
use native.Mathlib.Numerals.{add-one}
use native.Mathlib.Omega.{arith}
use lib.ListN.{length}
use Rattle.isa.specs.Text.{bytes}
use Rattle.listing.proofs.Lengths.{length-header, length-lines}
use Rattle.text.proofs.Placing.{end_is, next, puts-at, writes-none}
use Rattle.program.proofs.Sizes.{whole}
use Rattle.listing.specs.Listing.{header, line, lines, listing}
use Rattle.little_endian.specs.Numbers.{number_at}
use Rattle.listing.proofs.print.list.Goals as goal

pub returns-then-bad_bytes : goal.returns-then-bad_bytes
unfolding listing bytes
returns-then-bad_bytes c = rw (sym c.bad_bytes.ensures ∙ c.if-bad_bytes.true) (c.put_text.ensures ∙ puts-at c.args.out.now 0 (bytes "refused 1\n") (omega arith))

pub loop-k-init : goal.loop-k-init
unfolding lines
loop-k-init c = writes-none c.put_header-at.new.out c.put_header-at.result

pub put_line-at-requires : goal.put_line-at-requires
put_line-at-requires c =
    let s = c.args in
    let l = c.loop-k in
    let w = whole (length s.input.now) (sym c.bad_bytes.ensures ∙ c.if-bad_bytes.false) in
    let e = end_is c.put_header-at.ensures in
    omega (arith, end_is l.invariant, length-lines s.input.now l.k, length-header (length s.input.now / 4) (omega arith))

pub loop-k-preserved : goal.loop-k-preserved
unfolding lines
loop-k-preserved c =
    let s = c.args in
    let l = c.loop-k in
    let h = c.put_header-at in
    let w = whole (length s.input.now) (sym c.bad_bytes.ensures ∙ c.if-bad_bytes.false) in
    let e = end_is h.ensures in
    let room : h.result + length (lines s.input.now l.k) ≤ length h.new.out =
    omega (arith, length-lines s.input.now l.k, length-header (length s.input.now / 4) (omega arith), h.auto.out) in
    rw (add-one l.k) (next h.new.out h.result (lines s.input.now l.k) room (line (4 * l.k) (number_at 4 s.input.now (4 * l.k)))
    l.at l.out c.put_line-at.result c.put_line-at.new.out l.invariant (rw c.word_at.ensures at c.put_line-at.ensures))

pub returns : goal.returns
unfolding listing
returns c =
    let s = c.args in
    let l = c.loop-k in
    let h = c.put_header-at in
    let w = whole (length s.input.now) (sym c.bad_bytes.ensures ∙ c.if-bad_bytes.false) in
    let k : l.k ≡ length s.input.now / 4 = omega arith in
    rw (sym c.bad_bytes.ensures ∙ c.if-bad_bytes.false)
    (next s.out.now 0 (header (length s.input.now / 4))
    (omega (arith, length-header (length s.input.now / 4) (omega arith)))
    (lines s.input.now (length s.input.now / 4)) h.result h.new.out l.at l.out h.ensures (rw k at l.invariant))

pub overflow_cast-count : goal.overflow_cast-count
overflow_cast-count c = let w = whole (length c.args.input.now) (sym c.bad_bytes.ensures ∙ c.if-bad_bytes.false) in omega arith

pub put_header-at-requires : goal.put_header-at-requires
put_header-at-requires c = let w = whole (length c.args.input.now) (sym c.bad_bytes.ensures ∙ c.if-bad_bytes.false) in (omega (arith), omega arith)

pub overflow_mul-k : goal.overflow_mul-k
overflow_mul-k c = let w = whole (length c.args.input.now) (sym c.bad_bytes.ensures ∙ c.if-bad_bytes.false) in omega arith

pub overflow_cast-k : goal.overflow_cast-k
overflow_cast-k c = let w = whole (length c.args.input.now) (sym c.bad_bytes.ensures ∙ c.if-bad_bytes.false) in omega arith

pub overflow_mul-k-in-loop-k : goal.overflow_mul-k-in-loop-k
overflow_mul-k-in-loop-k c = let w = whole (length c.args.input.now) (sym c.bad_bytes.ensures ∙ c.if-bad_bytes.false) in omega arith
