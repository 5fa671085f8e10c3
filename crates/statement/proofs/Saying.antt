-- What a line says, from what its parts say.
use Prim.Native.Nat.{ℕ, ◌+◌}
use mathlib.Core.Bool.{Bool, true, false, ◌||◌, not}
use mathlib.Core.List.{List, [], ◌∷◌}
use mathlib.Core.Option.{Option, none, some}
use mathlib.Core.Path.{◌≡◌, refl, sym, ap, ◌∙◌}
use native.Mathlib.Omega.{arith}
use Rattle.statement.specs.Types.{Instruction}
use Rattle.expression.specs.Grammar.{Parse, parse}
use Rattle.token.specs.Name.{is_label}
use Rattle.token.specs.Token.{Token, leading_blanks, leading_word}
use Rattle.statement.specs.Types.{OperandValues}
use Rattle.statement.specs.Mnemonic.{slots, has_operands}
use Rattle.statement.specs.Operand.{Operands}
use Rattle.statement.specs.Field.{operand_values_of, operands_evaluated}
use Rattle.statement.specs.Line.{ended, instruction_by, label_line, uncommented, word_end}
use Rattle.statement.specs.Evaluation.{label, code, evaluated_line, line_value, LabelInside}
use Rattle.statement.specs.declared.lines.Line.{Line as Line-as-Line}
use Rattle.statement.specs.declared.lines.Line.TheVariants.{Blank, Label, Code}
use Rattle.std.specs.Prelude.{Some, None}
use Rattle.std.specs.Prelude as std
use Rattle.statement.proofs.Ends.{word-in-line, upto-short}
use lib.ListN.{length, drop}

module _ (a : List ℕ → Option ℕ) (i : Instruction) (spaced : Bool) where
  pub malformed : (o : Option (Parse Operands)) → none ≡ operands_evaluated a o → none ≡ evaluated_line a (instruction_by i spaced (ended o))
  malformed none h = refl
  malformed (some x) h = absurd (let z : ◌≡◌ {A = ℕ} 0 1 = cc in omega arith)

  -- the fields that were read are those of the operands, and so are the tokens behind them
  same-front : (f : OperandValues) (ts : List Token) (x : Parse Operands) → parse f ts ≡ operands_evaluated a (some x) → (f ≡ operand_values_of a x.value) × (ts ≡ x.rest)
  same-front f ts x h =
      let p : ◌≡◌ {A = Parse OperandValues} (record { value = f; rest = ts }) (record { value = operand_values_of a x.value; rest = x.rest }) = cc in
      (ap (λ y. y.value) p, ap (λ y. y.rest) p)

  pub stated : (o : Option (Parse Operands)) (f : OperandValues) (ts : List Token) → parse f ts ≡ operands_evaluated a o → ts ≡ [] → spaced || not (has_operands (slots i)) ≡ true → some (code i f) ≡ evaluated_line a (instruction_by i spaced (ended o))
  stated none f ts h e s = absurd (let z : ◌≡◌ {A = ℕ} 0 1 = cc in omega arith)
  stated (some x) f ts h e s =
      let p = same-front f ts x h in
      let b : x.rest ≡ [] = sym p.1 ∙ e in
      rw (b, s, p.0)

  any-unspaced : (o : Option Operands) → spaced || not (has_operands (slots i)) ≡ false → none ≡ evaluated_line a (instruction_by i spaced o)
  any-unspaced none s = refl
  any-unspaced (some os) s = rw s

  pub unspaced : (o : Option (Parse Operands)) → spaced || not (has_operands (slots i)) ≡ false → none ≡ evaluated_line a (instruction_by i spaced (ended o))
  unspaced o s = any-unspaced (ended o) s

  pub overlong : (o : Option (Parse Operands)) (f : OperandValues) (t : Token) (ts us : List Token) → parse f ts ≡ operands_evaluated a o → ts ≡ t ∷ us → none ≡ evaluated_line a (instruction_by i spaced (ended o))
  overlong none f t ts us h e = absurd (let z : ◌≡◌ {A = ℕ} 0 1 = cc in omega arith)
  overlong (some x) f t ts us h e =
      let p = same-front f ts x h in
      let b : x.rest ≡ t ∷ us = sym p.1 ∙ e in
      rw b

-- a label's line
module _ (a : List ℕ → Option ℕ) (w : List ℕ) where
  pub no_label : (ts : List Token) → is_label w ≡ false → none ≡ evaluated_line a (label_line w ts)
  no_label [] h = rw h
  no_label (t ∷ ts) h = refl

  pub a-label : (ts : List Token) → is_label w ≡ true → ts ≡ [] → some (label w) ≡ evaluated_line a (label_line w ts)
  a-label ts h e = rw (e, h)

  pub label-more : (t : Token) (ts us : List Token) → ts ≡ t ∷ us → none ≡ evaluated_line a (label_line w ts)
  label-more t ts us e = rw e

-- where a line's first word ends
pub word_end_lem : (l : List ℕ) (s e : ℕ) → s ≡ 0 + leading_blanks l → e ≡ s + length (leading_word (drop s l)) → word_end l ≡ e
word_end_lem l s e h q =
    let k : leading_blanks l ≡ s = omega arith in
    ap (λ i. i + length (leading_word (drop i l))) k ∙ sym q

-- a line without its comment says what the line says
pub seen-in-line : (l : List ℕ) (r : std.Option Line-as-Line) → LabelInside (length (uncommented l)) r → line_value (uncommented l) r ≡ line_value l r
seen-in-line l None h = refl
seen-in-line l (Some Blank) h = refl
seen-in-line l (Some (Label start)) h = rw (word-in-line 59 l start refl (omega arith))
seen-in-line l (Some (Code i f)) h = refl

pub label-in : (l : List ℕ) (r : std.Option Line-as-Line) → LabelInside (length (uncommented l)) r → LabelInside (length l) r
label-in l None h = h
label-in l (Some Blank) h = h
label-in l (Some (Label start)) h = omega (arith, upto-short 59 l)
label-in l (Some (Code i f)) h = h
