-- `put_body` meets its contract: after k turns the first k records stand in the buffer.
use Prim.Native.Nat.{ℕ, ◌+◌, ◌*◌, ◌/◌}
use mathlib.Core.List.{List}
use mathlib.Core.Path.{◌≡◌, ap, ◌∙◌}
use native.Mathlib.Omega.{arith}
use lib.ListN.{length, take, drop}
use Rattle.text.specs.Buffer.{writes}
use Rattle.text.proofs.Placing.{length-wrote, next, writes-none}
use Rattle.intel_hex.specs.Export.{record_text, body}
use Rattle.intel_hex.specs.Program.{program_bytes}
use Rattle.intel_hex.proofs.Bodies.{length-body, next-record}
use Rattle.intel_hex.proofs.exporting.put_body.Goals as goal

pub loop-k-init : goal.loop-k-init
unfolding body
loop-k-init c = (writes-none _ 0, omega arith)

pub put_record-p-requires : goal.put_record-p-requires
put_record-p-requires c =
    let l = c.loop-k in
    let b = length-body c.args.words.now l.k (omega arith) in
    (omega arith, omega arith, omega arith, omega arith, omega arith)

pub loop-k-preserved : goal.loop-k-preserved
loop-k-preserved c =
    let x = c.args in
    let l = c.loop-k in
    let z = c.min-n in
    let q = c.put_record-p in
    let ws = x.words.now in
    let o = x.out.now in
    let b = length-body ws l.k (omega arith) in
    let r = next-record ws l.k z.result (omega arith) c.min-n.ensures in
    let e = next o 0 (body (program_bytes ws) l.k) (omega arith) (record_text 0 (16 * l.k) (take z.result (drop (16 * l.k) (program_bytes ws)))) l.p l.out q.result q.new.out l.invariant.0 q.ensures in
    let f = e ∙ ap (λ (u : List ℕ). writes o 0 u) r in
    let m = length-body ws (l.k + 1) (omega arith) in
    let w = length-wrote o 0 (body (program_bytes ws) (l.k + 1)) q.result q.new.out (omega arith) f in
    (f, omega (arith, w.0))

pub returns : goal.returns
returns c =
    let x = c.args in
    let l = c.loop-k in
    let e : l.k ≡ (length x.words.now + 3) / 4 = omega arith in
    rw (← e) l.invariant.0
