-- `opening::read_record` meets its contract.
use Rattle.std.proofs.Common.{rules, ◌≡◌, length}
use native.Mathlib.Omega.{arith}
use Rattle.image.specs.Opening.{record_length, opening_number, read_opening}
use Rattle.image.specs.Refusal.{content_number}
use Rattle.image.proofs.Openings.{opening-start}
use Rattle.image.proofs.opening.read_record.Goals as goal

pub judge_kinds-requires : goal.judge_kinds-requires
judge_kinds-requires c =
    let long : length c.args.bytes.now ≡ record_length = search rules in
    (omega arith, omega (arith, opening-start, long))

pub returns : goal.returns
unfolding read_opening opening_number content_number
returns c = c.judge_kinds.ensures
