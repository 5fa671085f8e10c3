-- `put_line` meets its contract: by what the word is read as.
use native.Mathlib.Omega.{arith}
use Rattle.names.proofs.Names.{fits}
use Rattle.names.specs.Name.{name_of}
use Rattle.isa.specs.Text.{bytes}
use Rattle.listing.proofs.Lengths.{name-taken}
use Rattle.std.proofs.Common.{◌≡◌, ◌∙◌, sym, ap, ℕ, List, ◌++◌}
use Rattle.std.specs.Prelude.{Result, Ok, Err}
use Rattle.isa.specs.Answer.{reading}
use Rattle.isa.specs.Read.{read}
use Rattle.isa.specs.declared.instruction.Instruction.{Instruction}
use Rattle.isa.specs.declared.instruction.Unreadable.{Unreadable}
use Rattle.isa.specs.declared.instruction.Unreadable.TheVariants.{Undefined, NotFitted}
use Rattle.text.specs.Buffer.{writes}
use Rattle.listing.specs.Listing.{columns_of, label_of, label, line}
use Rattle.listing.proofs.print.put_line.Goals as goal

pub put_row-requires : goal.put_row-requires
unfolding line label bytes
put_row-requires c = rw (name-taken c.name_of-name.result (name_of c.in-Ok.i) c.name_of-name.ensures) (omega (arith, fits c.in-Ok.i, c.requires))

-- what stands for the name, by what a word is read as
label-is : (w : ℕ) (r s : Result Instruction Unreadable) → reading r ≡ read w → r ≡ s → label w ≡ label_of (reading s)
unfolding label
label-is w r s e f = ap label_of (sym e ∙ ap reading f)

pub returns-in-Ok : goal.returns-in-Ok
unfolding line
returns-in-Ok c =
    let x = c.args in
    let f = rw (c.columns-first.ensures, name-taken c.name_of-name.result (name_of c.in-Ok.i) c.name_of-name.ensures) at c.put_row.ensures in
    f ∙ ap (λ (t : List ℕ). writes x.out.now x.at (columns_of x.address x.w ++ t ++ bytes "\n")) (sym (label-is x.w c.read_word.result (Ok c.in-Ok.i) c.read_word.ensures c.in-Ok.is))

pub returns-in-Err-Undefined : goal.returns-in-Err-Undefined
unfolding line bytes
returns-in-Err-Undefined c =
    let x = c.args in
    let f = rw c.columns-first.ensures at c.put_row-in-Err-Undefined.ensures in
    f ∙ ap (λ (t : List ℕ). writes x.out.now x.at (columns_of x.address x.w ++ t ++ bytes "\n")) (sym (label-is x.w c.read_word.result (Err Undefined) c.read_word.ensures (c.in-Err-Undefined.is ∙ ap Err c.in-Err-Undefined.field-0-is)))

pub returns-in-Err-NotFitted : goal.returns-in-Err-NotFitted
unfolding line bytes
returns-in-Err-NotFitted c =
    let x = c.args in
    let f = rw c.columns-first.ensures at c.put_row-in-Err-NotFitted.ensures in
    f ∙ ap (λ (t : List ℕ). writes x.out.now x.at (columns_of x.address x.w ++ t ++ bytes "\n")) (sym (label-is x.w c.read_word.result (Err NotFitted) c.read_word.ensures (c.in-Err-NotFitted.is ∙ ap Err c.in-Err-NotFitted.field-0-is)))
