-- The cases of the code's answers about tokens and words.
use Rattle.std.specs.Prelude.{ℕ, ◌+◌, ◌≤◌, ◌<◌, cond, List, [], ◌∷◌, ◌≡◌, eqb, leb, length, drop, get_or, Some, None}
use Rattle.std.specs.Prelude as code
use Rattle.std.proofs.Math.Option.{Option, none, some}
use Rattle.std.proofs.Math.Seq.{slice}
use Rattle.token.specs.Token as T
use Rattle.token.specs.declared.token.Token.{Token}
use Rattle.token.specs.declared.token.Token.TheVariants.{End, Word, Mark}

-- the token from a place on: behind the blanks there, a word with all letters and digits in a row, or a mark
abbrev pub token_starting : List ℕ → ℕ → Token
token_starting line s =
    cond (leb (length line) s) End
    (cond (eqb (length (T.leading_word (drop s line))) 0) (Mark (get_or line s 0) (s + 1)) (Word s (s + length (T.leading_word (drop s line)))))

unfoldable pub token_from : List ℕ → ℕ → Token
token_from line at = token_starting line (at + T.leading_blanks (drop at line))

-- behind a mark, if it is the token
abbrev pub past_token : ℕ → Token → code.Option ℕ
past_token c End = None
past_token c (Word start stop) = None
past_token c (Mark d next) = cond (eqb d c) (Some next) None

unfoldable pub place_past : ℕ → List ℕ → ℕ → code.Option ℕ
place_past c line at = past_token c (token_from line at)

-- the tokens of which one is the first
abbrev pub beginning_with : List ℕ → Token → List T.Token
beginning_with line End = []
beginning_with line (Word start stop) = T.word (slice start stop line) ∷ T.tokens (drop stop line)
beginning_with line (Mark c next) = T.mark c ∷ T.tokens (drop next line)

abbrev pub TokenAdvances : ℕ → ℕ → Token → Type 0
TokenAdvances at end End = 0 ≤ 0
TokenAdvances at end (Word start stop) = (at ≤ start) × (start < stop) × (stop ≤ end)
TokenAdvances at end (Mark c next) = (at < next) × (next ≤ end)

-- a word is whole: it begins behind the blanks, and takes all letters and digits in a row
abbrev pub WholeWord : List ℕ → ℕ → Token → Type 0
WholeWord line at End = 0 ≤ 0
WholeWord line at (Word start stop) =
    (start ≡ at + T.leading_blanks (drop at line)) × (stop ≡ start + length (T.leading_word (drop start line)))
WholeWord line at (Mark c next) = 0 ≤ 0

abbrev pub place_of : List ℕ → code.Option ℕ → Option (List T.Token)
place_of line (Some next) = some (T.tokens (drop next line))
place_of line None = none

abbrev pub PlaceAdvances : ℕ → ℕ → code.Option ℕ → Type 0
PlaceAdvances at end (Some next) = (at < next) × (next ≤ end)
PlaceAdvances at end None = 0 ≤ 0
