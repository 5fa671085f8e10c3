-- The operations on sixteen lanes (document 01, "One issue" and "The words").
use Rattle.std.specs.Prelude.{ℕ, zero, suc, ◌%◌, Bool, cond, List, [], ◌∷◌, ◌++◌, get_or}
use Rattle.bits.specs.Bit.{is_set}
use Rattle.isa.specs.declared.instruction.BinaryOp.{BinaryOp}
use Rattle.isa.specs.declared.instruction.UnaryOp.{UnaryOp}
use Rattle.alu.specs.Binary.{binary}
use Rattle.alu.specs.Unary.{unary}

-- f 0, f 1, .., f (n - 1)
unfoldable pub tab : ℕ → (ℕ → ℕ) → List ℕ
tab zero f = []
tab (suc n) f = tab n f ++ f n ∷ []

-- g 0, then g 1, .., then g (n - 1)
unfoldable pub each : ℕ → (ℕ → List ℕ → List ℕ) → List ℕ → List ℕ
each zero g l = l
each (suc n) g l = g n (each n g l)

abbrev pub lane : List ℕ → ℕ → ℕ
lane v j = get_or v j 0

-- "Lane j is on when bit j of s59 is 1"
abbrev pub is_on : ℕ → ℕ → Bool
is_on mask j = is_set mask j

unfoldable pub binary_lanes : BinaryOp → List ℕ → List ℕ → List ℕ
binary_lanes op x y = tab 16 (λ j. binary op (lane x j) (lane y j))

unfoldable pub unary_lanes : UnaryOp → List ℕ → List ℕ
unary_lanes op x = tab 16 (λ j. unary op (lane x j))

-- "d[j] = a[b[j] mod 16]"
unfoldable pub shuffled : List ℕ → List ℕ → List ℕ
shuffled x y = tab 16 (λ j. lane x (lane y j % 16))

-- "a vector destination changes in lanes that are on"
unfoldable pub blended : ℕ → List ℕ → List ℕ → List ℕ
blended mask new old = tab 16 (λ j. cond (is_on mask j) (lane new j) (lane old j))

-- "A scalar among vectors counts as sixteen equal lanes."
unfoldable pub splatted : ℕ → List ℕ
splatted x = tab 16 (λ j. x)
