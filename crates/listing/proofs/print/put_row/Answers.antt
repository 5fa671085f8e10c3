-- `put_row` meets its contract: its three texts have room.
use mathlib.Core.List.{[], ◌∷◌, ◌++◌}
use mathlib.Core.Path.{◌∙◌, ap}
use native.Mathlib.Omega.{arith}
use lib.ListN.{length-append}
use Rattle.isa.specs.Text.{bytes}
use Rattle.text.proofs.Placing.{puts-at, puts-fits}
use Rattle.text.specs.Buffer.{Wrote, puts}
use Rattle.listing.proofs.print.put_row.Goals as goal

pub returns : goal.returns
unfolding bytes
returns c =
    let l = c.args.out.now in
    let at = c.args.at in
    let first = c.args.first.now in
    let rest = c.args.rest.now in
    let p = c.put_text-at in
    let q = c.put_text-at-2 in
    let r = c.put_text in
    let e = p.ensures ∙ puts-at l at first (omega (arith, c.requires)) in
    let f = q.ensures ∙ ap (λ (z : Wrote). puts z rest) e ∙ puts-fits l at first rest (omega (arith, c.requires)) in
    r.ensures ∙ ap (λ (z : Wrote). puts z (10 ∷ [])) f ∙ puts-fits l at (first ++ rest) (10 ∷ []) (omega (arith, c.requires, length-append first rest))
