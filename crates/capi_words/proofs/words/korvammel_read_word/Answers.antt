-- `korvammel_read_word` meets its contract: by what the word is read as.
use Rattle.std.proofs.Common.{ap, sym, ◌∙◌, rules}
use Rattle.answer.specs.Left.{left}
use Rattle.fields.proofs.Again.{numbered}
use Rattle.fields.specs.Claims.{Numbered}
use Rattle.isa.specs.Answer.{reading}
use Rattle.capi_words.specs.Words.{list_of, read_word}
use Rattle.capi_words.proofs.words.korvammel_read_word.Goals as goal

pub returns-in-Ok : goal.returns-in-Ok
unfolding read_word Numbered
returns-in-Ok c =
    let r = sym c.read_word.ensures ∙ ap reading c.in-Ok.is in
    rw r (ap (left 0) (c.put_numbers.ensures ∙ ap list_of (c.unpack.ensures ∙ numbered _ _ (search rules) r)))
