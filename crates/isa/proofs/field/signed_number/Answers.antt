-- `signed_number` meets its contract: what half of the room is taken away from, that half added is what it was.
use Rattle.std.proofs.Common.{◌≡◌, ℕ, ◌+◌, ◌-◌, ◌*◌, ◌%◌, ◌<◌, ◌≤◌, mod-lt, arith}
use Rattle.word_layout.proofs.Signed.{signed-field}
use Rattle.isa.proofs.field.signed_number.Goals as goal

back : (half x : ℕ) → half ≤ 0x40000000 → x < 2 * half → ((x + (4294967296 - half)) % 4294967296 + half) % 4294967296 ≡ x
back half x h l = omega arith

pub returns : goal.returns
returns g c =
    let half = g.row.HALF in
    let q = c.requires in
    let l : (c.args.n + half) % (2 * half) < 2 * half = mod-lt _ (omega (arith, q.0)) in
    signed-field half _ _ q.2 (omega (arith, q.1)) (omega arith) (back half _ q.1 l)
