-- Laws of the minutes of a day.
use Prim.Native.Nat.{ℕ, ◌≤◌}
use mathlib.Core.Bool.{false}
use mathlib.Core.Path.{◌≡◌}
use native.Mathlib.Omega.{arith}
use borrow.Author.Tests.{ltb-false, ne_eqb}
use Rattle.std.specs.Prelude.{Some}
use Rattle.machine.proofs.Tests.{neither}
use Rattle.night.specs.Claims.{SkippedBetween}
use Rattle.night.specs.Clock.{out_of_day, skipped}
use Rattle.night.specs.Refusal.{bad_minute}
use Rattle.night.specs.Types.{Kept}

-- two readings that are taken are minutes of a day
pub in-day : (kept : Kept) (last minute : ℕ) → kept ≡ Some last → bad_minute kept minute ≡ false → (last ≤ 1439) × (minute ≤ 1439)
in-day kept last minute e h =
    let n = neither (out_of_day minute) (out_of_day last) (rw e at h) in
    (ltb-false 1439 last n.1, ltb-false 1439 minute n.0)

pub skipped-between : SkippedBetween
unfolding skipped
skipped-between kept minute a b n =
    let f = ne_eqb kept minute n in
    record { reaches = rw f (omega arith); strictly = λ i l h. let g = rw f at h in (λ e. omega arith, λ e. omega arith) }
