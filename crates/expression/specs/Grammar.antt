-- Which sum, term or sign the tokens of a line begin with, and the tokens behind it.
use Rattle.std.specs.Prelude.{ℕ, zero, suc, ◌+◌, ◌*◌, cond, List, [], ◌∷◌, eqb, length}
use Rattle.std.proofs.Math.Option.{Option, none, some}
use Rattle.token.specs.Name.{is_label}
use Rattle.token.specs.Number.{number as number_of}
use Rattle.expression.specs.Syntax.{Term, number, label, group, Sum, last, next, Expression}
use Rattle.token.specs.Token.{Token, word, mark, past}
use Rattle.expression.specs.Types.{Sign, Plus, Minus}

-- what stands in front, and the tokens behind it; none where it does not stand there
pub record Parse (A : Type 0) : Type 0 where
  pub value : A
  pub rest : List Token

abbrev pub parse : {A : Type 0} → A → List Token → Option (Parse A)
parse a ts = some (record { value = a; rest = ts })

abbrev pub and_then : {A : Type 0} {B : Type 0} → Option (Parse A) → (A → List Token → Option (Parse B)) → Option (Parse B)
and_then none f = none
and_then (some a) f = f a.value a.rest

-- a sign between two terms
abbrev pub sign_at : List Token → Option (Parse Sign)
sign_at [] = none
sign_at (word w ∷ ts) = none
sign_at (mark c ∷ ts) = cond (eqb c 43) (parse Plus ts) (cond (eqb c 45) (parse Minus ts) none)

-- "perhaps led by a minus"
abbrev pub lead_at : List Token → Parse Sign
lead_at [] = record { value = Plus; rest = [] }
lead_at (word w ∷ ts) = record { value = Plus; rest = word w ∷ ts }
lead_at (mark c ∷ ts) = cond (eqb c 45) (record { value = Minus; rest = ts }) (record { value = Plus; rest = mark c ∷ ts })

-- a word as a term: a number, or else a label
abbrev pub number_or : Option ℕ → Option Term → Option Term
number_or none t = t
number_or (some n) t = some (number n)

unfoldable pub word_term : List ℕ → Option Term
word_term w = number_or (number_of w) (cond (is_label w) (some (label w)) none)

abbrev pub behind_it : {A : Type 0} → Option A → List Token → Option (Parse A)
behind_it none ts = none
behind_it (some a) ts = parse a ts

-- a sum in parentheses, of which the closing one is still to come
abbrev pub closed : Sign → Sum → List Token → Option (Parse Term)
closed s e ts = elim (past 41 ts) [ none ↦ none | some rest ↦ parse (group s e) rest ]

-- a sum that begins with a term: no sign behind it, or a sign and a sum
abbrev pub goes_on : Term → List Token → Option (Parse Sign) → (List Token → Option (Parse Sum)) → Option (Parse Sum)
goes_on t ts none f = parse (last t) ts
goes_on t ts (some s) f = and_then (f s.rest) (λ e rest. parse (next t s.value e) rest)

-- The number n bounds how often the two call each other: twice the number of tokens, and two, is enough.
unfoldable mutual
  pub term_at : ℕ → List Token → Option (Parse Term)
  term_at zero ts = none
  term_at (suc n) [] = none
  term_at (suc n) (word w ∷ ts) = behind_it (word_term w) ts
  term_at (suc n) (mark c ∷ ts) =
      cond (eqb c 40) (and_then (sum_at n (lead_at ts).rest) (λ e rest. closed (lead_at ts).value e rest)) none

  pub sum_at : ℕ → List Token → Option (Parse Sum)
  sum_at zero ts = none
  sum_at (suc n) ts = and_then (term_at n ts) (λ t rest. goes_on t rest (sign_at rest) (λ us. sum_at n us))

-- as often as the tokens can ask for
abbrev pub calls : List Token → ℕ
calls ts = 2 * length ts + 2

unfoldable pub expression_at : List Token → Option (Parse Expression)
expression_at ts =
    and_then (sum_at (calls (lead_at ts).rest) (lead_at ts).rest)
    (λ e rest. parse (record { lead = (lead_at ts).value; sum = e }) rest)
