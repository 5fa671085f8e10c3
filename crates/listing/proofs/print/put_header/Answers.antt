-- `put_header` meets its contract: its three texts have room.
use mathlib.Core.List.{[], ◌∷◌, ◌++◌}
use mathlib.Core.Path.{◌∙◌, ap}
use native.Mathlib.Omega.{arith}
use lib.ListN.{length-append}
use Rattle.isa.specs.Text.{bytes}
use Rattle.text.proofs.Lengths.{decimal-short}
use Rattle.text.proofs.Placing.{puts-at, puts-fits}
use Rattle.text.specs.Buffer.{Wrote, puts}
use Rattle.listing.specs.Listing.{header}
use Rattle.text.specs.Number.{decimal}
use Rattle.listing.proofs.print.put_header.Goals as goal

pub returns : goal.returns
unfolding header bytes
returns c =
    let l = c.args.out.now in
    let w = bytes "words " in
    let d = decimal c.args.n in
    let short = decimal-short c.args.n c.requires.1 in
    let e = c.put_text-at.ensures ∙ puts-at l 0 w (omega (arith, c.requires.0)) in
    let f = c.put_decimal-at.ensures ∙ ap (λ (z : Wrote). puts z d) e ∙ puts-fits l 0 w d (omega (arith, c.requires.0, short)) in
    c.put_text.ensures ∙ ap (λ (z : Wrote). puts z (10 ∷ [])) f ∙ puts-fits l 0 (w ++ d) (10 ∷ []) (omega (arith, c.requires.0, short, length-append w d))
