-- `put_words` meets its contract: after k turns the bytes of the first k words stand in the buffer.
use Rattle.std.proofs.Common.{ℕ, ◌≡◌, List, length, get_or, sym, ap, ◌∙◌, add-one, arith}
use Rattle.text.specs.Buffer.{wrote, writes, puts}
use Rattle.text.proofs.Placing.{next, puts-at, writes-none, length-wrote}
use Rattle.little_endian.specs.Numbers.{number_bytes, bytes_of}
use Rattle.little_endian.proofs.Numbers.{bytes-length, bytes-of-length}
use Rattle.program.proofs.writing.put_words.Goals as goal

pub loop-word-init : goal.loop-word-init
unfolding bytes_of
loop-word-init c = writes-none _ 0

pub loop-word-preserved : goal.loop-word-preserved
unfolding bytes_of
loop-word-preserved c =
    let x = c.args in
    let l = c.loop-word in
    let k = l.word-index in
    let q = c.put_text-at in
    let ws = x.words.now in
    let w : List ℕ = number_bytes 4 (get_or ws k 0) in
    let z = bytes-length 4 (get_or ws k 0) in
    let m = bytes-of-length k ws in
    let at = length-wrote x.out.now 0 (bytes_of k ws) l.at l.out (omega arith) l.invariant in
    let e : wrote q.result q.new.out ≡ writes l.out l.at w =
    q.ensures ∙ ap (λ (u : List ℕ). puts (wrote l.at l.out) u) c.bytes_of.ensures ∙ puts-at l.out l.at w (omega arith) in
    next x.out.now 0 (bytes_of k ws) (omega arith) w l.at l.out q.result q.new.out l.invariant e
    ∙ ap (λ n. writes x.out.now 0 (bytes_of n ws)) (sym (add-one k))

pub returns : goal.returns
returns c =
    let e : c.loop-word.word-index ≡ length c.args.words.now = omega arith in
    rw (← e) c.loop-word.invariant
