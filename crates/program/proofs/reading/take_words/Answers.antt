-- `take_words` meets its contract: after k turns the first k words stand in the part of the buffer.
use Rattle.std.proofs.Common.{◌+◌, ◌*◌, ◌<◌, ◌≡◌, [], ◌∷◌, append-nil, zero-add, sym, ap, ◌∙◌, add-one, arith, length, take, length-take}
use Rattle.std.proofs.Math.ListN.{set}
use Rattle.std.proofs.lemmas.List.{drop_all}
use Rattle.text.proofs.Placing.{next, writes_one, writes-none, buffer-is}
use Rattle.little_endian.proofs.Numbers.{words-length}
use Rattle.text.specs.Buffer.{writes}
use Rattle.little_endian.specs.Numbers.{number_at, words_of}
use Rattle.program.proofs.reading.take_words.Goals as goal

pub loop-k-init : goal.loop-k-init
unfolding words_of
loop-k-init c = writes-none _ 0

pub loop-k-preserved : goal.loop-k-preserved
unfolding words_of
loop-k-preserved c =
    let s = c.args in
    let l = c.loop-k in
    let b = take s.count s.program.now in
    let w = number_at 4 s.input.now (4 * l.k) in
    let h : l.k < length l.word-items = omega arith in
    rw c.word_at.ensures
    (next b 0 (words_of l.k s.input.now) (omega (arith, words-length l.k s.input.now)) (w ∷ [])
    l.k l.word-items (l.k + 1) (set l.word-items l.k w) l.invariant (writes_one l.word-items l.k w h) ∙
    ap (λ n. writes b 0 (words_of n s.input.now)) (sym (add-one l.k)))

pub returns : goal.returns
returns c =
    let s = c.args in
    let n = s.count in
    let p = s.program.now in
    let m = words-length n s.input.now in
    let long = length-take n p in
    let e : c.loop-k.k ≡ n = omega (arith, length-take n p) in
    let items = buffer-is (rw e at c.loop-k.invariant) in
    rw (items, m, zero-add n, drop_all n (take n p) (omega (arith, long)), append-nil (words_of n s.input.now))
