-- Tests taken together: what each of them says where all pass.
use Rattle.std.proofs.Common.{◌≡◌, Bool, true, false, ◌&&◌, List, [], ◌∷◌, refl}
use mathlib.Core.Bool.{false≢true}
use Rattle.isa.specs.Test.{all, all_from}

pub and_left : (a b : Bool) → (a && b) ≡ true → a ≡ true
and_left true b e = refl
and_left false b e = absurd (false≢true e)

pub and_right : (a b : Bool) → (a && b) ≡ true → b ≡ true
and_right true b e = e
and_right false b e = absurd (false≢true e)

pub and_both : (a b : Bool) → a ≡ true → b ≡ true → (a && b) ≡ true
and_both true b p q = q
and_both false b p q = p

-- the tests one by one
abbrev pub Each : List Bool → Type 0
Each [] = Unit
Each (b ∷ bs) = (b ≡ true) × Each bs

each_from : (a : Bool) (bs : List Bool) → all_from a bs ≡ true → (a ≡ true) × Each bs
unfolding all_from
each_from a [] e = (e, tt)
each_from a (b ∷ bs) e = let h = each_from (a && b) bs e in (and_left a b h.0, (and_right a b h.0, h.1))

pub each : (bs : List Bool) → all bs ≡ true → Each bs
unfolding all
each [] e = tt
each (b ∷ bs) e = each_from b bs e

together-from : (a : Bool) (bs : List Bool) → a ≡ true → Each bs → all_from a bs ≡ true
unfolding all_from
together-from a [] p h = p
together-from a (b ∷ bs) p h = together-from (a && b) bs (and_both a b p h.0) h.1

pub together : (bs : List Bool) → Each bs → all bs ≡ true
unfolding all
together [] h = refl
together (b ∷ bs) h = together-from b bs h.0 h.1
