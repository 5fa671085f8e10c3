-- `put_bytes` meets its contract: after i turns the first i bytes stand in the buffer.
use Prim.Native.Nat.{ℕ}
use mathlib.Core.List.{List, [], ◌∷◌}
use mathlib.Core.Path.{◌≡◌, sym, ap, ◌∙◌}
use native.Mathlib.Omega.{arith}
use lib.ListN.{take, drop}
use Rattle.text.specs.Buffer.{writes}
use Rattle.text.proofs.Placing.{next, writes-none, end_is}
use Rattle.intel_hex.specs.Digits.{hexes}
use Rattle.intel_hex.specs.Program.{program_bytes}
use Rattle.intel_hex.proofs.Texts.{hexes-more, length-hexes-take, length-pair}
use Rattle.intel_hex.proofs.exporting.put_bytes.Goals as goal

pub loop-i-init : goal.loop-i-init
unfolding hexes
loop-i-init c = (writes-none _ _, omega arith)

pub put_byte-p-requires : goal.put_byte-p-requires
put_byte-p-requires c = (omega arith, c.program_byte.ensures.1)

pub loop-i-preserved : goal.loop-i-preserved
loop-i-preserved c =
    let l = c.loop-i in
    let x = c.args in
    let b = c.program_byte in
    let q = c.put_byte-p in
    let ws = x.words.now in
    let t = hexes (take l.i (drop x.from (program_bytes ws))) in
    let m = length-hexes-take ws x.from l.i (omega arith) in
    let e = next x.out.now x.at t (omega arith) (hexes (b.result ∷ [])) l.p l.out q.result _ l.invariant.0 q.ensures in
    let f = hexes-more ws x.from l.i b.result (omega arith) b.ensures.0 in
    (e ∙ ap (λ (u : List ℕ). writes x.out.now x.at u) (sym f), omega (arith, length-pair b.result, end_is q.ensures))

pub returns : goal.returns
returns c =
    let x = c.args in
    let l = c.loop-i in
    let e : l.i ≡ x.n = omega arith in
    rw (← e) l.invariant.0
