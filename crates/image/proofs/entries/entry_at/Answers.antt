-- `entries::entry_at` meets its contract.
use mathlib.Core.Path.{◌≡◌, sym, ap, ◌∙◌}
use native.Mathlib.Omega.{arith}
use lib.ListN.{take, drop}
use Rattle.image_layout.proofs.Rows.{entry-least}
use Rattle.image_layout.specs.Layout.{thread_row}
use Rattle.little_endian.specs.Numbers.{number_at}
use Rattle.image.specs.Fields.{thread_of}
use Rattle.image.proofs.RecordIn.{fields_at, turns-newest, turns-old}
use Rattle.image.proofs.entries.entry_at.Goals as goal
use Rattle.image.proofs.entries.entry_at.Goals.{in-Newest, in-Old}

pub returns : goal.returns
returns c =
    let a = c.args in
    let l = a.image.now in
    let t : c.match-form.turns ≡ number_at 4 (take (thread_row a.form).size (drop a.at l)) 4 =
    elim c.match-form.branch [
      | in-Newest w ↦ w.turns-is ∙ (w.word_at-turns.ensures ∙ (turns-newest l a.at ∙ ap (λ f. number_at 4 (take (thread_row f).size (drop a.at l)) 4) (sym w.in-Newest.is)))
      | in-Old w ↦ w.turns-is ∙ (turns-old l a.at (omega (arith, entry-least a.form, c.requires)) ∙ ap (λ f. number_at 4 (take (thread_row f).size (drop a.at l)) 4) (sym w.in-Old.is))
    ] in
    c.try_from.ensures ∙ ap thread_of (fields_at a.form l a.at c.match-form.turns t)
