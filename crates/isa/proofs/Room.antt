-- Whether an instruction's numbers have room in its word: the fixed parts have, so that the tests of the others decide.
use Rattle.std.proofs.Common.{◌≡◌, ℕ, Bool, true, false, ◌&&◌, List, [], ◌∷◌, refl, ap, ◌∙◌}
use mathlib.Core.Bool.{and-true}
use mathlib.Core.Option.{Option, none, some}
use Rattle.answer.specs.Answer.{given, refused, no_word}
use Rattle.isa.specs.Test.{all, all_from}
use Rattle.isa.specs.Write.{written}

-- tests, of which those of fixed parts are not named
abbrev pub every : List (Option Bool) → List Bool
every [] = []
every (none ∷ ts) = true ∷ every ts
every (some t ∷ ts) = t ∷ every ts

-- the named ones taken together, after t, as the code does it
abbrev pub named : Bool → List (Option Bool) → Bool
named t [] = t
named t (none ∷ ts) = named t ts
named t (some u ∷ ts) = named (t && u) ts

decide : (t : Bool) (ts : List (Option Bool)) → all (t ∷ every ts) ≡ named t ts
unfolding all
decide t ts = from t ts
  where
    from : (t : Bool) (ts : List (Option Bool)) → all_from t (every ts) ≡ named t ts
    from t [] = refl
    from t (none ∷ ts) = ap (λ (u : Bool). all_from u (every ts)) (and-true t) ∙ from t ts
    from t (some u ∷ ts) = from (t && u) ts

pub word : (t : Bool) (ts : List (Option Bool)) {v w : ℕ} → named t ts ≡ true → v ≡ w → given v ≡ written (all (t ∷ every ts)) w
unfolding written
word t ts h e = rw (decide t ts, h, e)

pub none_written : (t : Bool) (ts : List (Option Bool)) (w : ℕ) → named t ts ≡ false → refused no_word ≡ written (all (t ∷ every ts)) w
unfolding written
none_written t ts w h = rw (decide t ts, h)
