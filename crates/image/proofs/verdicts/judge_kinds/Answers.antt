-- `verdicts::judge_kinds` meets its contract.
use mathlib.Core.Bool.{true, false}
use mathlib.Core.Path.{◌≡◌}
use native.Mathlib.Omega.{arith}
use Rattle.image_layout.proofs.Rows.{start-few}
use Rattle.image_layout.specs.Layout.{record_kinds, heads_up_to}
use Rattle.image.specs.Image.{machine_in, record_in}
use Rattle.image.proofs.Refusals.{judged-heads, judged-record}
use Rattle.image.proofs.verdicts.judge_kinds.Goals as goal

pub record_in-requires : goal.record_in-requires
record_in-requires c = omega (arith, start-few c.args.shape record_kinds c.args.n c.requires.0, c.requires.1)

pub returns-then-not-kinds_stand : goal.returns-then-not-kinds_stand
returns-then-not-kinds_stand c =
    let a = c.args in
    let h : heads_up_to a.n a.shape a.image.now ≡ false = cc in
    judged-heads _ (record_in a.shape a.image.now) (machine_in a.shape a.image.now) h

pub returns : goal.returns
returns c =
    let a = c.args in
    let h : heads_up_to a.n a.shape a.image.now ≡ true = cc in
    judged-record c.record_in.result _ (record_in a.shape a.image.now) (machine_in a.shape a.image.now) h c.record_in.ensures
