-- The grammar of sums as a relation, and what is proved of the definitions.
use Rattle.std.specs.Prelude.{ℕ, ◌+◌, ◌*◌, ◌<◌, true, List, [], ◌∷◌, ◌++◌, ◌↔◌, ◌≡◌, length}
use Rattle.std.proofs.Math.Option.{some}
use Rattle.expression.specs.Grammar.{parse, sum_at}
use Rattle.token.specs.Name.{is_label}
use Rattle.token.specs.Number.{number as number_of}
use Rattle.expression.specs.Syntax.{Term, number, label, group, Sum, last, next}
use Rattle.token.specs.Token.{Token, word, mark}
use Rattle.expression.specs.Types.{Sign, Plus, Minus}

-- the mark of a sign: + or -
abbrev pub sign_mark : Sign → ℕ
sign_mark Plus = 43
sign_mark Minus = 45

-- "perhaps led by a minus"
abbrev pub leading : Sign → List Token → List Token
leading Plus ts = ts
leading Minus ts = mark 45 ∷ ts

-- "a sum or difference .. of decimal or 0x numbers, labels and parenthesised sums": which tokens are a term, and which a sum
mutual
  pub data IsTerm : List Token → Term → Type 0 where
    a-number : (w : List ℕ) (n : ℕ) → number_of w ≡ some n → IsTerm (word w ∷ []) (number n)
    a-label : (w : List ℕ) → is_label w ≡ true → IsTerm (word w ∷ []) (label w)
    a-group : (us ts : List Token) (s : Sign) (e : Sum) → us ≡ mark 40 ∷ leading s (ts ++ mark 41 ∷ []) → IsSum ts e → IsTerm us (group s e)

  pub data IsSum : List Token → Sum → Type 0 where
    one : (ts : List Token) (t : Term) → IsTerm ts t → IsSum ts (last t)
    more : (vs ts us : List Token) (t : Term) (s : Sign) (e : Sum) → vs ≡ ts ++ mark (sign_mark s) ∷ us
        → IsTerm ts t → IsSum us e → IsSum vs (next t s e)

-- Tokens are read as a sum exactly if the grammar says that they are that sum. So no tokens are two sums.
unfoldable pub Exact : Type 0
Exact = (ts : List Token) (e : Sum) (n : ℕ) → 2 * length ts + 1 < n → (sum_at n ts ≡ parse e []) ↔ IsSum ts e
