-- An entry is read from its numbers.
use Rattle.std.proofs.Common.{◌≡◌, Bool, true, false, refl, sym, ap, ◌∙◌, Some}
use mathlib.Core.Bool.{◌&&◌, cond}
use lib.Dec.{eqb}
use Rattle.answer.specs.Answer.{given, refused, bad-record}
use Rattle.thread_entry.specs.Entry.{entry_of}
use Rattle.image.specs.Fields.{status_fields, fields_of, status_of, same_fields, checked_thread, thread_of}
use Rattle.image.specs.Types.{Status, ThreadFields}
use Rattle.image.proofs.fields.ThreadTryFromThreadFields.try_from.Goals as goal

regroup : (a b c d e : Bool) → (a && (b && (c && (d && e)))) ≡ (a && b && c && d && e)
regroup false b c d e = refl
regroup true false c d e = refl
regroup true true false d e = refl
regroup true true true false e = refl
regroup true true true true e = refl

-- numbers that name a status are read as its entry, if they are its own
named : (s : Status) (f u : ThreadFields) (b : Bool) → u ≡ status_fields s f.turns
    → b ≡ (eqb u.status f.status && (eqb u.reason f.reason && (eqb u.id f.id && (eqb u.count f.count && eqb u.turns f.turns))))
    → Some s ≡ status_of f → cond b (given (entry_of s f.turns)) (refused bad-record) ≡ thread_of f
unfolding thread_of checked_thread
named s f u b q h e =
    ap (λ x. cond x (given (entry_of s f.turns)) (refused bad-record)) (h ∙ (regroup (eqb u.status f.status) (eqb u.reason f.reason) (eqb u.id f.id) (eqb u.count f.count) (eqb u.turns f.turns) ∙ ap (λ w. same_fields w f) q))
    ∙ ap (checked_thread f) e

pub returns-in_default : goal.returns-in_default
unfolding thread_of checked_thread
returns-in_default c = ap (checked_thread c.args.fields) (sym c.in_default.is ∙ c.status_of.ensures)

pub returns-then-eq : goal.returns-then-eq
returns-then-eq c =
    let q = c.from.ensures ∙ ap fields_of c.new-thread.ensures in
    ap given c.new-thread.ensures ∙ named c.in-Some.status c.args.fields c.from.result true q c.if-eq.ensures c.in-Some.ensures

pub returns-else-eq : goal.returns-else-eq
returns-else-eq c =
    let q = c.from.ensures ∙ ap fields_of c.new-thread.ensures in
    named c.in-Some.status c.args.fields c.from.result false q c.if-eq.ensures c.in-Some.ensures
