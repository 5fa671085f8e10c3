-- Entries and their numbers are inverse.
use Prim.Native.Nat.{ℕ}
use mathlib.Core.Bool.{Bool, true, false, cond, ◌&&◌, and-eq-true_iff}
use Rattle.std.proofs.Common.{Option, None, Some}
use mathlib.Core.Path.{◌≡◌, refl, sym, ap, ◌∙◌}
use native.Mathlib.Omega.{arith}
use borrow.Author.Tests.{eqb-true, eq-eqb}
use lib.Dec.{eqb}
use Rattle.image.specs.Claims.{Exact}
use Rattle.answer.specs.Answer.{given, refused, bad-record}
use Rattle.image.specs.Fields.{status_fields, fields_of, status_of, same_fields, checked_thread, thread_of}
use Rattle.image.specs.Types.{Status, Idle, Running, Ended, Trapped, Waiting, ThreadFields}
use Rattle.thread_entry.specs.Entry.{entry_of}

-- the numbers of a status name it
named : (s : Status) (turns : ℕ) → status_of (status_fields s turns) ≡ Some s
named Idle turns = refl
named Running turns = refl
named Ended turns = refl
named (Trapped reason) turns = refl
named (Waiting id count) turns = refl

-- and have its count of turns
pub turns-of : (s : Status) (turns : ℕ) → (status_fields s turns).turns ≡ turns
turns-of Idle turns = refl
turns-of Running turns = refl
turns-of Ended turns = refl
turns-of (Trapped reason) turns = refl
turns-of (Waiting id count) turns = refl

same_self : (f : ThreadFields) → same_fields f f ≡ true
same_self f = rw (eq-eqb f.status f.status refl, eq-eqb f.reason f.reason refl, eq-eqb f.id f.id refl, eq-eqb f.count f.count refl, eq-eqb f.turns f.turns refl)

same-fields : (f g : ThreadFields) → same_fields f g ≡ true → f ≡ g
same-fields f g h =
    let e = (and-eq-true_iff (eqb f.status g.status && eqb f.reason g.reason && eqb f.id g.id && eqb f.count g.count) (eqb f.turns g.turns)).0 h in
    let a = (and-eq-true_iff (eqb f.status g.status && eqb f.reason g.reason && eqb f.id g.id) (eqb f.count g.count)).0 e.0 in
    let b = (and-eq-true_iff (eqb f.status g.status && eqb f.reason g.reason) (eqb f.id g.id)).0 a.0 in
    let c = (and-eq-true_iff (eqb f.status g.status) (eqb f.reason g.reason)).0 b.0 in
    let status = eqb-true f.status g.status c.0 in
    let reason = eqb-true f.reason g.reason c.1 in
    let id = eqb-true f.id g.id b.1 in
    let count = eqb-true f.count g.count a.1 in
    let turns = eqb-true f.turns g.turns e.1 in
    (λ i. record { status = status i; reason = reason i; id = id i; count = count i; turns = turns i })

pub exact : Exact
unfolding thread_of checked_thread
exact f e = (there (status_of f), back)
  where
    picked : (s : Status) (b : Bool) → same_fields (status_fields s f.turns) f ≡ b → cond b (given (entry_of s f.turns)) (refused 4) ≡ given e → fields_of e ≡ f
    picked s true h g = let q : entry_of s f.turns ≡ e = cc in ap fields_of (sym q) ∙ same-fields (status_fields s f.turns) f h
    picked s false h g = absurd (let z : ◌≡◌ {A = ℕ} 0 1 = cc in omega arith)

    there : (o : Option Status) → checked_thread f o ≡ given e → fields_of e ≡ f
    there None h = absurd (let z : ◌≡◌ {A = ℕ} 0 1 = cc in omega arith)
    there (Some s) h = picked s (same_fields (status_fields s f.turns) f) refl h

    back : fields_of e ≡ f → checked_thread f (status_of f) ≡ given e
    back h =
        let a : checked_thread (fields_of e) (Some e.status) ≡ given e =
        ap (λ t. cond (same_fields (status_fields e.status t) (fields_of e)) (given (entry_of e.status t)) (refused 4)) (turns-of e.status e.turns)
        ∙ ap (λ b. cond b (given e) (refused 4)) (same_self (fields_of e)) in
        sym (ap (λ g. checked_thread g (status_of g)) h) ∙ (ap (checked_thread (fields_of e)) (named e.status e.turns) ∙ a)

-- numbers are refused for one reason
pub refused-entry : (f : ThreadFields) (n : ℕ) → refused n ≡ thread_of f → n ≡ bad-record
unfolding thread_of checked_thread
refused-entry f n e = there (status_of f) e
  where
    picked : (s : Status) (b : Bool) → refused n ≡ cond b (given (entry_of s f.turns)) (refused bad-record) → n ≡ bad-record
    picked s true h = absurd (let z : ◌≡◌ {A = ℕ} 0 1 = cc in omega arith)
    picked s false h = cc

    there : (o : Option Status) → refused n ≡ checked_thread f o → n ≡ bad-record
    there None h = cc
    there (Some s) h = picked s (same_fields (status_fields s f.turns) f) h
