-- Lines by their next token.
use Rattle.std.proofs.Common.{◌≡◌, ℕ, List, ◌∷◌, drop, ◌⊎◌, inl, inr}
use Rattle.std.proofs.Math.Option.{none}
use Rattle.std.proofs.Math.Seq.{slice}
use Rattle.token.specs.Token as T
use Rattle.token.specs.Token.{tokens}
use Rattle.token.specs.Scan.{beginning_with}
use Rattle.token.specs.declared.token.Token.{Token}
use Rattle.token.specs.declared.token.Token.TheVariants.{End, Word, Mark}
use Rattle.statement.specs.Register.{register_at}

-- no register stands where no word does
pub no_register_at : (line : List ℕ) (at : ℕ) (t : Token) → tokens (drop at line) ≡ beginning_with line t → (t ≡ End) ⊎ ((x : ℕ) × (y : ℕ) × (t ≡ Mark x y)) → none ≡ register_at (tokens (drop at line))
no_register_at line at t e (inl h) = rw (e, h)
no_register_at line at t e (inr (x, y, h)) = rw (e, h)

-- a token more
pub a_token : (line : List ℕ) (at : ℕ) (t : Token) → tokens (drop at line) ≡ beginning_with line t → ((x : ℕ) × (y : ℕ) × (t ≡ Word x y)) ⊎ ((x : ℕ) × (y : ℕ) × (t ≡ Mark x y)) → (u : T.Token) × (us : List T.Token) × (tokens (drop at line) ≡ u ∷ us)
a_token line at t e (inl (x, y, h)) = (T.word (slice x y line), tokens (drop y line), rw h at e)
a_token line at t e (inr (x, y, h)) = (T.mark x, tokens (drop y line), rw h at e)
