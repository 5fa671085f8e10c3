-- The tokens of a line: "spaces and tabs may stand anywhere but inside a name, label, register or number".
use Rattle.std.specs.Prelude.{ℕ, suc, Bool, true, false, cond, List, [], ◌∷◌, eqb}
use Rattle.std.proofs.Math.Option.{Option, none, some}
use Rattle.token.specs.Byte.{is_blank, in_word}

-- letters and digits in a row; or any other byte that is no blank, by itself
pub data Token : Type 0 where
  word : List ℕ → Token
  mark : ℕ → Token

-- how many blanks a text begins with
unfoldable pub leading_blanks : List ℕ → ℕ
leading_blanks [] = 0
leading_blanks (c ∷ cs) = cond (is_blank c) (suc (leading_blanks cs)) 0

-- the letters and digits in a row that a text begins with
unfoldable pub leading_word : List ℕ → List ℕ
leading_word [] = []
leading_word (c ∷ cs) = cond (in_word c) (c ∷ leading_word cs) []

-- The tokens of a text, of which a word may be going on: a word begins where none is going on, and takes all letters and digits in a row.
unfoldable pub tokens_in : Bool → List ℕ → List Token
tokens_in going [] = []
tokens_in going (c ∷ cs) =
    cond (is_blank c) (tokens_in false cs)
    (cond (in_word c) (cond going (tokens_in true cs) (word (leading_word (c ∷ cs)) ∷ tokens_in true cs))
    (mark c ∷ tokens_in false cs))

abbrev pub tokens : List ℕ → List Token
tokens text = tokens_in false text

-- the tokens behind the mark c
abbrev pub past : ℕ → List Token → Option (List Token)
past c [] = none
past c (word w ∷ ts) = none
past c (mark d ∷ ts) = cond (eqb d c) (some ts) none
