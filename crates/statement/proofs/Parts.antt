-- Parts of a list, as the code lends them.
use Prim.Native.Nat.{ℕ, ◌+◌, ◌-◌, ◌<◌}
use mathlib.Core.List.{List, ◌∷◌}
use mathlib.Core.Path.{◌≡◌, sym, ap, ◌∙◌}
use native.Mathlib.Omega.{arith}
use lib.ListN.{length, take, drop, get_or, length-drop}
use lib.Seq.{drop-cons, take_all}
use Rattle.token.specs.Token.{leading_word}
use Rattle.token.proofs.Runs.{part-is, run-part}

-- what stands behind the first
pub behind-first : (l : List ℕ) → 0 < length l → l ≡ get_or l 0 0 ∷ take (length l - 1) (drop 1 l)
behind-first l h = drop-cons l 0 0 h ∙ ap (λ r. get_or l 0 0 ∷ r) (sym (take_all (length l - 1) (drop 1 l) (omega (arith, length-drop 1 l))))

-- a word is the part of its line that it takes
pub word-part : (l : List ℕ) (s e : ℕ) → s < e → e ≡ s + length (leading_word (drop s l)) → take (e - s) (drop s l) ≡ leading_word (drop s l)
word-part l s e h q = part-is s e l (omega arith) ∙ run-part l s e q
