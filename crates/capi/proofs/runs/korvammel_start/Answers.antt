-- `korvammel_start` meets its contract: what the start made, with its record in bytes.
use Rattle.std.proofs.Common.{rules, ◌≡◌, ap, ◌∙◌}
use Rattle.image.specs.Opening.{record_bytes}
use Rattle.capi.specs.Runs.{start_call}
use Rattle.capi.proofs.Handed.{record_or, start-handed}
use Rattle.capi.proofs.runs.korvammel_start.Goals as goal

pub returns : goal.returns
unfolding start_call
returns c =
    let u : c.unwrap_or.result ≡ record_or c.start-start.result = search rules in
    start-handed c.start-start.result c.number.ensures (c.write_record.ensures ∙ ap record_bytes u) c.start-start.ensures
