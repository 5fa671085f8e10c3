-- `opening::write_record` meets its contract.
use Rattle.std.proofs.Common.{rules, ◌≡◌, length, sym, ◌∙◌}
use Rattle.image.specs.Opening.{record_bytes, record_length}
use Rattle.image.proofs.Openings.{opening-start, opening-suits}
use Rattle.image.proofs.opening.write_record.Goals as goal

pub put_kinds-requires : goal.put_kinds-requires
put_kinds-requires c =
    let long : length c.args.buffer.now ≡ record_length = search rules in
    (opening-suits, opening-start ∙ sym long)

pub returns : goal.returns
unfolding record_bytes
returns c = c.put_kinds.ensures
