-- `verdicts::judge_record` meets its contract.
use mathlib.Core.Bool.{true, false}
use mathlib.Core.Path.{◌≡◌, sym}
use Rattle.machine.specs.WellFormed.{well_formed}
use Rattle.image.specs.Refusal.{loses_counts}
use Rattle.image.proofs.Refusals.{record-bad, record-loses, record-none}
use Rattle.image.proofs.verdicts.judge_record.Goals as goal

pub returns-then-not-well_formed : goal.returns-then-not-well_formed
returns-then-not-well_formed c =
    let a = c.args in
    let w : well_formed a.machine ≡ false = cc in
    sym (record-bad a.form a.dropping a.machine w)

pub returns-then-loses_counts : goal.returns-then-loses_counts
returns-then-loses_counts c =
    let a = c.args in
    let w : well_formed a.machine ≡ true = cc in
    let l : loses_counts a.form a.dropping a.machine ≡ true = cc in
    sym (record-loses a.form a.dropping a.machine w l)

pub returns : goal.returns
returns c =
    let a = c.args in
    let w : well_formed a.machine ≡ true = cc in
    let l : loses_counts a.form a.dropping a.machine ≡ false = cc in
    sym (record-none a.form a.dropping a.machine w l)
