-- The cases of the code's answers about expressions.
use Rattle.std.specs.Prelude.{ℕ, ◌+◌, ◌-◌, ◌*◌, ◌≤◌, ◌<◌, List, ◌≡◌, length, drop, Some, None}
use Rattle.std.specs.Prelude as code
use Rattle.std.proofs.Math.Option.{Option, none, some}
use Rattle.expression.specs.Grammar.{Parse, parse, term_at, sum_at}
use Rattle.token.specs.Token.{past, Token, tokens}
use Rattle.expression.specs.Syntax.{Term}
use Rattle.expression.specs.Types.{Sign, Value, Known, TooLarge, Unknown}
use Rattle.expression.specs.Value.{bias, nested, value_term, value_sum}
use Rattle.token.specs.Number.{limit}

-- a value is within its bounds
abbrev pub InRange : Value → Type 0
InRange (Known n) = (bias - limit ≤ n) × (n ≤ bias + limit)
InRange TooLarge = 0 ≤ 0
InRange Unknown = 0 ≤ 0

-- the value that a word is as a term
abbrev pub term_valued : code.Option Value → Option Value
term_valued (Some v) = some v
term_valued None = none

abbrev pub TermInRange : code.Option Value → Type 0
TermInRange (Some v) = InRange v
TermInRange None = 0 ≤ 0

abbrev pub term_value_of : (Term → Value) → Option Term → Option Value
term_value_of f none = none
term_value_of f (some t) = some (f t)

-- a sign and the tokens behind it
abbrev pub signed : List ℕ → code.Option (Sign × ℕ) → Option (Parse Sign)
signed line (Some (s, next)) = parse s (tokens (drop next line))
signed line None = none

abbrev pub SignAdvances : ℕ → ℕ → code.Option (Sign × ℕ) → Type 0
SignAdvances at end (Some (s, next)) = (at < next) × (next ≤ end)
SignAdvances at end None = 0 ≤ 0

abbrev pub lead_of : List ℕ → Sign × ℕ → Parse Sign
lead_of line (s, next) = record { value = s; rest = tokens (drop next line) }

-- a value and the tokens behind it
abbrev pub parsed_as : List ℕ → code.Option (Value × ℕ) → Option (Parse Value)
parsed_as line (Some (v, at)) = some (record { value = v; rest = tokens (drop at line) })
parsed_as line None = none

-- a word's value, and the tokens behind the word
abbrev pub word_value : (Term → Value) → Option Term → List Token → Option (Parse Value)
word_value f none ts = none
word_value f (some t) ts = some (record { value = f t; rest = ts })

-- what stands in parentheses, if they close behind it
abbrev pub grouped_at : ℕ → Value → Option (List Token) → Option (Parse Value)
grouped_at depth v none = none
grouped_at depth v (some ts) = some (record { value = nested depth v; rest = ts })

abbrev pub grouped : ℕ → Option (Parse Value) → Option (Parse Value)
grouped depth none = none
grouped depth (some v) = grouped_at depth v.value (past 41 v.rest)

-- what a tree comes to
abbrev pub evaluated : {A : Type 0} → (A → Value) → Option (Parse A) → Option (Parse Value)
evaluated f none = none
evaluated f (some a) = some (record { value = f a.value; rest = a.rest })

-- what was read ends behind its start and within the line
abbrev pub Advances : ℕ → ℕ → code.Option (Value × ℕ) → Type 0
Advances at end (Some (v, next)) = (at < next) × (next ≤ end) × InRange v
Advances at end None = 0 ≤ 0

abbrev pub ParsedInRange : code.Option (Value × ℕ) → Type 0
ParsedInRange (Some (v, next)) = InRange v
ParsedInRange None = 0 ≤ 0

-- and behind what was read before it
abbrev pub AdvancesPast : ℕ → code.Option (Value × ℕ) → code.Option (Value × ℕ) → Type 0
AdvancesPast end (Some (v, next)) r = Advances next end r
AdvancesPast end None r = r ≡ None

-- What `term` and `sum` promise, at whatever number bounds the calls, if it is large enough.
unfoldable pub TermRead : List ℕ → (List ℕ → Option ℕ) → ℕ → ℕ → code.Option (Value × ℕ) → Type 0
TermRead line addresses at depth r =
    (n : ℕ) → 2 * (length line - at) < n
    → parsed_as line r ≡ evaluated (value_term addresses depth) (term_at n (tokens (drop at line)))

unfoldable pub SumRead : List ℕ → (List ℕ → Option ℕ) → ℕ → ℕ → Value → Sign → code.Option (Value × ℕ) → Type 0
SumRead line addresses at depth v s r =
    (n : ℕ) → 2 * (length line - at) + 1 < n
    → parsed_as line r ≡ evaluated (value_sum addresses depth v s) (sum_at n (tokens (drop at line)))
