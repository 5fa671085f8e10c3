-- Lines whose next token is no mark.
use Rattle.std.proofs.Common.{◌≡◌, ℕ, List, drop, ◌⊎◌, inl, inr}
use Rattle.std.proofs.Math.Option.{none}
use Rattle.token.specs.Token.{tokens}
use Rattle.token.specs.Scan.{beginning_with}
use Rattle.token.specs.declared.token.Token.{Token}
use Rattle.token.specs.declared.token.Token.TheVariants.{End, Word}
use Rattle.expression.specs.Types.{Plus}
use Rattle.expression.specs.Grammar.{sign_at, lead_at}

pub no_sign : (line : List ℕ) (at : ℕ) (t : Token) → tokens (drop at line) ≡ beginning_with line t → (t ≡ End) ⊎ ((x : ℕ) × (y : ℕ) × (t ≡ Word x y)) → none ≡ sign_at (tokens (drop at line))
no_sign line at t e (inl h) = rw (e, h)
no_sign line at t e (inr (x, y, h)) = rw (e, h)

pub no_lead : (line : List ℕ) (at : ℕ) (t : Token) → tokens (drop at line) ≡ beginning_with line t → (t ≡ End) ⊎ ((x : ℕ) × (y : ℕ) × (t ≡ Word x y)) → record { value = Plus; rest = tokens (drop at line) } ≡ lead_at (tokens (drop at line))
no_lead line at t e (inl h) = rw (e, h)
no_lead line at t e (inr (x, y, h)) = rw (e, h)
