-- `korvammel_image_read` meets its contract: what the reading restored, with its record in bytes.
use Rattle.std.proofs.Common.{rules, ◌≡◌, ap, ◌∙◌}
use Rattle.image.specs.Opening.{record_bytes}
use Rattle.capi.specs.Images.{read_call}
use Rattle.capi.proofs.Handed.{record_or, read-handed}
use Rattle.capi.proofs.images.korvammel_image_read.Goals as goal

pub returns : goal.returns
unfolding read_call
returns c =
    let u : c.unwrap_or.result ≡ record_or c.read-read.result = search rules in
    read-handed c.read-read.result c.number.ensures (c.write_record.ensures ∙ ap record_bytes u) c.read-read.ensures
