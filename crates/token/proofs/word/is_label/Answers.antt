-- `is_label` meets its contract.
use Rattle.std.proofs.Common.{◌∙◌, ◌≡◌, rules, tests}
use Rattle.std.proofs.lemmas.Iterator.{YieldsList-from_slice}
use Rattle.std.proofs.lemmas.Iterator.Search.{all_from_yields_List}
use Rattle.token.specs.Byte.{is_letter}
use Rattle.token.specs.Name.{all_letters}
use Rattle.token.proofs.Numbers.{letters_are}
use Rattle.token.proofs.word.is_label.Goals as goal

pub returns : goal.returns
returns c =
    let w = c.args.word.now in
    let e : c.all.result ≡ all_letters w = all_from_yields_List is_letter _ _ c.all.result c.all.ensures.ran (YieldsList-from_slice w cc) (λ x b q k. search (rules, tests)) ∙ letters_are w in
    rw e
