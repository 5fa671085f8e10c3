-- `find` meets its contract: by what the word is read as, and whether the numbers are its own.
use Rattle.std.proofs.Common.{◌≡◌, Bool, true, false, cond, refl, ◌∙◌}
use Rattle.std.specs.Prelude as code
use Rattle.std.specs.Bool.{then_some}
use Rattle.std.specs.Result.{result_ok}
use Rattle.answer.specs.Answer.{given, refused, no_word}
use Rattle.isa.specs.Answer.{reading}
use Rattle.isa.specs.declared.instruction.Unreadable.{Unreadable}
use Rattle.isa.specs.declared.instruction.Unreadable.TheVariants.{Undefined, NotFitted}
use Rattle.fields.proofs.Search.{matched, search_is, equal-numbers}
use Rattle.fields.specs.Find.{held, found}
use Rattle.fields.specs.Types.{Numbers, Found, Instruction}
use Rattle.fields.proofs.layout.find.Goals as goal

unread : (n : Numbers) (w : code.ℕ) (r : code.Result Instruction Unreadable) → ◌≡◌ {A = code.Option Instruction} code.None (result_ok r) →
    refused no_word ≡ matched n w (reading r)
unread n w (code.Ok i) e = cc
unread n w (code.Err Undefined) e = refl
unread n w (code.Err NotFitted) e = refl

is-read : (r : code.Result Instruction Unreadable) (i : Instruction) → ◌≡◌ {A = code.Option Instruction} (code.Some i) (result_ok r) → reading r ≡ given i
is-read (code.Ok j) i e = cc
is-read (code.Err x) i e = cc

found-if : (t : Bool) (f : Found) → found (then_some t f) ≡ cond t (given (held f.word f.instruction)) (refused no_word)
found-if true f = refl
found-if false f = refl

pub returns-in_err-instruction : goal.returns-in_err-instruction
returns-in_err-instruction c =
    rw (← search_is, ← c.pack-word.ensures, ← c.read_word.ensures, c.from_residual.ensures)
    (unread _ _ c.read_word.result c.in_err-instruction.ensures.value)

pub returns : goal.returns
returns c =
    let r = is-read c.read_word.result c.in_ok-instruction.instruction c.in_ok-instruction.ensures.value in
    let s = c.eq.ensures ∙ equal-numbers c.unpack.result c.args.n in
    rw (← search_is, ← c.pack-word.ensures, ← c.read_word.ensures, r, ← c.unpack.ensures, c.then_some.ensures, s) (found-if _ _)
