-- `verdicts::no_counts` meets its contract.
use Rattle.std.proofs.Common.{rules, ◌≡◌, length}
use Rattle.std.specs.Prelude.{◌↔◌, IsTrue, EachIndex}
use native.Mathlib.Omega.{arith}
use borrow.Author.Tests.{eqb-true, eq-eqb}
use lib.Dec.{eqb}
use Rattle.image_layout.proofs.Tests.{all-tested}
use Rattle.machine.specs.Machine.{turns_at}
use Rattle.image.specs.Refusal.{no_counts}
use Rattle.image.proofs.verdicts.no_counts.Goals as goal

pub returns : goal.returns
unfolding no_counts
returns c =
    let m = c.args.machine in
    let eight : length m.threads ≡ 8 = search rules in
    let e : IsTrue c.all.result ↔ EachIndex m.threads (λ k. turns_at m k ≡ 0) = search rules in
    all-tested 8 (λ k. eqb (turns_at m k) 0) c.all.result
    (λ t k h. eq-eqb (turns_at m k) 0 (e.0 t k (omega arith)))
    (λ f. e.1 (λ k h. eqb-true (turns_at m k) 0 (f k (omega arith))))
