-- `heads::four_stand` meets its contract.
use Rattle.std.proofs.Common.{rules}
use Prim.Native.Nat.{ℕ, ◌+◌, ◌*◌, ◌<◌}
use mathlib.Core.Path.{◌≡◌, ap, ◌∙◌}
use lib.Dec.{eqb}
use lib.ListN.{length, get_or}
use native.Mathlib.Omega.{arith}
use Rattle.image_layout.specs.Layout.{stands_at}
use Rattle.image.proofs.FourBytes.{four-stand}
use Rattle.image.proofs.Words.{four-of}
use Rattle.image.proofs.heads.four_stand.Goals as goal

pub returns : goal.returns
returns c =
    let a = c.args in
    let f = a.four in
    let n : length f ≡ 4 = search rules in
    let b : (k : ℕ) → get_or f k 0 < 256 = search rules in
    let z : get_or f 0 0 + get_or f 1 0 * 256 + get_or f 2 0 * 65536 + get_or f 3 0 * 16777216 ≡ get_or f 0 0 + 256 * (get_or f 1 0 + 256 * (get_or f 2 0 + 256 * (get_or f 3 0 + 256 * 0))) = omega arith in
    (λ i. eqb (c.word_at.ensures i) ((c.from_le_bytes.ensures ∙ z) i))
    ∙ (four-stand a.image.now a.at (get_or f 0 0) (get_or f 1 0) (get_or f 2 0) (get_or f 3 0) (λ k. omega (arith, c.type_inv.image k)) (b 0) (b 1) (b 2) (b 3)
    ∙ ap (λ x. stands_at x a.image.now a.at) (four-of f n))
