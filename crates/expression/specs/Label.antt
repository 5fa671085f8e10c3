-- The labels of a source, as the code holds them: for each the place of its first letter in the source, and its address.
use Rattle.std.specs.Prelude.{ℕ, Bool, true, false, ◌&&◌, cond, List, [], ◌∷◌, eqb, drop}
use Rattle.std.proofs.Math.Option.{Option, none, some}
use Rattle.token.specs.Token.{leading_word}

-- two texts are the same
unfoldable pub same : List ℕ → List ℕ → Bool
same [] [] = true
same [] (d ∷ ds) = false
same (c ∷ cs) [] = false
same (c ∷ cs) (d ∷ ds) = eqb c d && same cs ds

-- the address of the first label with this name, of places and addresses in turn
unfoldable pub address_in : List ℕ → List ℕ → List ℕ → Option ℕ
address_in source [] w = none
address_in source (place ∷ []) w = none
address_in source (place ∷ address ∷ rest) w = cond (same (leading_word (drop place source)) w) (some address) (address_in source rest w)
