-- `put_text` meets its contract: by whether the text has room.
use borrow.Author.Tests.{lt-ltb, le-ltb}
use Rattle.std.proofs.Common.{◌+◌, ◌-◌, ◌<◌, ◌≤◌, ◌≡◌, length, take, drop, append_assoc, arith}
use lib.Seq.{drop-drop}
use Rattle.text.specs.Buffer.{puts}
use Rattle.text.proofs.buffer.put_text.Goals as goal

pub returns-then-out-text : goal.returns-then-out-text
unfolding puts
returns-then-out-text c =
    let x = c.args in
    let h : length x.out.now < x.at + length x.text.now = elim c.then-out-text.branch [ goal.then-out-text-via-then-out-text w ↦ omega arith | goal.then-out-text-via-else-out-text+then-out-text-2 w ↦ omega arith ] in
    rw (lt-ltb (length x.out.now) (x.at + length x.text.now) h)

pub returns : goal.returns
unfolding puts
returns c =
    let x = c.args in
    let n = length x.text.now in
    let h : x.at + n ≤ length x.out.now = omega arith in
    let k : x.at + n - x.at ≡ n = omega arith in
    rw (le-ltb (length x.out.now) (x.at + n) h, c.copy_from_slice.ensures.after, k, drop-drop n x.at x.out.now, append_assoc (take x.at x.out.now) x.text.now (drop (x.at + n) x.out.now))
