-- Words as terms.
use Prim.Native.Nat.{ℕ, ◌+◌}
use mathlib.Core.Bool.{Bool, true, false, cond}
use mathlib.Core.List.{List}
use mathlib.Core.Option.{Option, none, some}
use mathlib.Core.Path.{◌≡◌, refl, sym, ap, ◌∙◌}
use native.Mathlib.Omega.{arith}
use borrow.Author.Tests.{ltb-true, ltb-false}
use lib.Dec.{ltb}
use Rattle.expression.specs.Grammar.{word_term, number_or}
use Rattle.token.specs.Name.{is_label}
use Rattle.token.specs.Number.{number as number_of}
use Rattle.expression.specs.Reading.{word_value, term_value_of}
use Rattle.expression.specs.Syntax.{Term, label}
use Rattle.token.specs.Token.{Token}
use Rattle.expression.specs.Types.{Value}
use Rattle.expression.specs.Value.{bounded, bias, label_value, value_term}
use Rattle.token.specs.Word.{cap, capped}
use Rattle.token.proofs.Numbers.{cap-large, cap-small}
use Rattle.expression.proofs.Values.{too_large}

pub worth-some : (f : Term → Value) (o : Option Term) (v : Value) (ts : List Token) → some v ≡ term_value_of f o → some (record { value = v; rest = ts }) ≡ word_value f o ts
worth-some f none v ts e = absurd (let z : ◌≡◌ {A = ℕ} 0 1 = cc in omega arith)
worth-some f (some t) v ts e = let d : v ≡ f t = cc in rw d

pub worth-none : (f : Term → Value) (o : Option Term) (ts : List Token) → none ≡ term_value_of f o → none ≡ word_value f o ts
worth-none f none ts e = refl
worth-none f (some t) ts e = absurd (let z : ◌≡◌ {A = ℕ} 0 1 = cc in omega arith)

-- a number beyond the limit is too large, whichever it is
bounded-cap-by : (n : ℕ) (b : Bool) → ltb 0x80000000 n ≡ b → bounded (bias + cap n) ≡ bounded (bias + n)
bounded-cap-by n true e = rw (cap-large n (ltb-true 0x80000000 n e)) (sym (too_large 0x80000001 (omega arith)) ∙ too_large n (ltb-true 0x80000000 n e))
bounded-cap-by n false e = rw (cap-small n (omega (arith, ltb-false 0x80000000 n e)))

number_by : (a : List ℕ → Option ℕ) (w : List ℕ) (n : ℕ) (v : Value) (o : Option ℕ) → some n ≡ capped o → v ≡ bounded (bias + n) → some v ≡ term_value_of (value_term a 0) (number_or o (cond (is_label w) (some (label w)) none))
unfolding value_term
number_by a w n v none e h = absurd (let z : ◌≡◌ {A = ℕ} 0 1 = cc in omega arith)
number_by a w n v (some m) e h =
    let d : n ≡ cap m = cc in
    ap some (h ∙ ap (λ k. bounded (bias + k)) d ∙ bounded-cap-by m (ltb 0x80000000 m) refl)

pub a-number : (a : List ℕ → Option ℕ) (w : List ℕ) (n : ℕ) (v : Value) → some n ≡ capped (number_of w) → v ≡ bounded (bias + n) → some v ≡ term_value_of (value_term a 0) (word_term w)
unfolding word_term
a-number a w n v e h = number_by a w n v (number_of w) e h

no-number-by : (o : Option ℕ) → none ≡ capped o → o ≡ none
no-number-by none e = refl
no-number-by (some n) e = absurd (let z : ◌≡◌ {A = ℕ} 0 1 = cc in omega arith)

pub a-label : (a : List ℕ → Option ℕ) (w : List ℕ) (v : Value) → none ≡ capped (number_of w) → is_label w ≡ true → v ≡ label_value (a w) → some v ≡ term_value_of (value_term a 0) (word_term w)
unfolding word_term value_term
a-label a w v e l h = rw (no-number-by (number_of w) e, l, h)

pub no-term : (a : List ℕ → Option ℕ) (w : List ℕ) → none ≡ capped (number_of w) → is_label w ≡ false → none ≡ term_value_of (value_term a 0) (word_term w)
unfolding word_term
no-term a w e l = rw (no-number-by (number_of w) e, l)
