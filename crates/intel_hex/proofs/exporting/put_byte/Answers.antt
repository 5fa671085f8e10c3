-- `put_byte` meets its contract: two digits, one behind the other.
use Prim.Native.Nat.{◌+◌, ◌/◌}
use native.Mathlib.Omega.{arith}
use mathlib.Core.List.{[], ◌∷◌}
use mathlib.Core.Path.{◌≡◌, sym, ◌∙◌, ap}
use lib.ListN.{length-set, set}
use Rattle.text.specs.Buffer.{Wrote, wrote}
use Rattle.text.specs.Number.{digit}
use Rattle.text.proofs.Placing.{next, writes_one}
use Rattle.intel_hex.specs.Digits.{hexes}
use Rattle.intel_hex.proofs.HighDigit.{high-digit}
use Rattle.intel_hex.proofs.exporting.put_byte.Goals as goal

pub bounds-out-at-2 : goal.bounds-out-at-2
bounds-out-at-2 c = simp length-set (omega arith)

pub returns : goal.returns
unfolding hexes
returns c =
    let x = c.args in
    let l = x.out.now in
    let a = x.at in
    let d = c.digit_of.result in
    let e = c.digit_of-2.result in
    let m : a + 1 + 1 ≡ a + 2 = omega arith in
    let h : d ≡ digit (x.b / 16) = c.digit_of.ensures ∙ ap digit (high-digit x.b c.requires.1) in
    ap {B = Wrote} (λ n. wrote n (set (set l a d) (a + 1) e)) (sym m) ∙
    rw (← h, ← c.digit_of-2.ensures)
    (next l a (d ∷ []) (omega arith) (e ∷ []) (a + 1) (set l a d) (a + 1 + 1) (set (set l a d) (a + 1) e) (writes_one l a d (omega arith)) (writes_one (set l a d) (a + 1) e (simp length-set (omega arith))))
