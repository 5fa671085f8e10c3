-- `put_record` meets its contract: head, bytes and tail one behind the other.
use Prim.Native.Nat.{ℕ}
use mathlib.Core.List.{List, [], ◌∷◌, ◌++◌}
use mathlib.Core.Path.{◌≡◌, ap, ◌∙◌}
use native.Mathlib.Omega.{arith}
use lib.ListN.{take, drop, length-append}
use Rattle.text.specs.Buffer.{Wrote, wrote, writes, puts}
use Rattle.text.proofs.Placing.{length-wrote, next, puts-at, puts-fits}
use Rattle.intel_hex.specs.Digits.{hexes}
use Rattle.intel_hex.specs.Export.{heads, checksum}
use Rattle.intel_hex.specs.Program.{program_bytes}
use Rattle.intel_hex.proofs.Texts.{length-head, length-tail, length-hexes-take, record-parts}
use Rattle.intel_hex.proofs.exporting.put_record.Goals as goal

pub put_bytes-p-requires : goal.put_bytes-p-requires
put_bytes-p-requires c =
    let h = c.head_of-head in
    let q = c.put_text-p in
    let l = c.args.out.now in
    let t : List ℕ = 58 ∷ hexes (heads c.args.n c.args.from c.args.kind) in
    let e : wrote q.result q.new.out ≡ writes l c.args.at t = q.ensures ∙ ap (λ (u : List ℕ). puts (wrote c.args.at l) u) h.ensures ∙ puts-at l c.args.at t (omega (arith, length-head c.args.n c.args.from c.args.kind)) in
    let r = length-wrote l c.args.at t q.result q.new.out (omega (arith, length-head c.args.n c.args.from c.args.kind)) e in
    (omega arith, omega (arith, r.0, r.1, length-head c.args.n c.args.from c.args.kind))

pub returns : goal.returns
returns c =
    let h = c.head_of-head in
    let s = c.sum_from in
    let y = c.tail_of-tail in
    let q = c.put_text-p in
    let b = c.put_bytes-p in
    let z = c.put_text in
    let l = c.args.out.now in
    let at = c.args.at in
    let n = c.args.n in
    let from = c.args.from in
    let ws = c.args.words.now in
    let kind = c.args.kind in
    let t : List ℕ = 58 ∷ hexes (heads n from kind) in
    let u = hexes (take n (drop from (program_bytes ws))) in
    let v : List ℕ = hexes (checksum s.result ∷ []) ++ 10 ∷ [] in
    let a = length-head n from kind in
    let d = length-hexes-take ws from n (omega arith) in
    let k = length-tail (checksum s.result) in
    let e : wrote q.result q.new.out ≡ writes l at t = q.ensures ∙ ap (λ (u : List ℕ). puts (wrote at l) u) h.ensures ∙ puts-at l at t (omega arith) in
    let f : wrote b.result b.new.out ≡ writes l at (t ++ u) = next l at t (omega arith) u q.result q.new.out b.result b.new.out e b.ensures in
    z.ensures ∙ ap (λ (w : Wrote). puts w y.result) f ∙ ap (λ (w : List ℕ). puts (writes l at (t ++ u)) w) y.ensures
    ∙ puts-fits l at (t ++ u) v (omega (arith, length-append t u)) ∙ ap (λ (w : List ℕ). writes l at w) (record-parts ws kind from n s.result (omega arith) s.ensures)
