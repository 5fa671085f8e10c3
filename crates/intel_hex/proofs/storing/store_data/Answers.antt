-- `store_data` meets its contract: what is stored and what is left to store are the whole.
use Prim.Native.Nat.{ℕ, ◌+◌, ◌-◌}
use mathlib.Core.List.{List}
use mathlib.Core.Path.{sym, ap, ◌∙◌}
use native.Mathlib.Omega.{arith}
use Rattle.intel_hex.specs.Storing.{store_all, pair_bytes}
use Rattle.intel_hex.proofs.Stored.{data-start, data-step, data-end}
use Rattle.intel_hex.proofs.storing.store_data.Goals as goal

pub loop-i-init : goal.loop-i-init
loop-i-init c = data-start c.args.digits.now c.args.words.now c.args.from c.args.n

pub loop-i-preserved : goal.loop-i-preserved
loop-i-preserved c =
    let x = c.args in
    let l = c.loop-i in
    let b = c.byte_at in
    let d = x.digits.now in
    l.invariant ∙ data-step d l.words x.from x.n l.i b.result (omega arith) b.ensures.0
    ∙ ap (λ (m : List ℕ). store_all m (x.from + (l.i + 1)) (pair_bytes d (4 + (l.i + 1)) (x.n - (l.i + 1)))) (sym c.put_at.ensures)

pub returns : goal.returns
returns c =
    let x = c.args in
    let l = c.loop-i in
    sym (l.invariant ∙ data-end x.digits.now l.words x.from x.n l.i (omega arith))
