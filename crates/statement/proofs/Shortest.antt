-- A line with an instruction has at least three bytes.
use Prim.Native.Nat.{ℕ, ◌+◌, ◌≤◌, ◌<◌}
use mathlib.Core.Bool.{Bool, true, false, ◌&&◌, ◌||◌, not, cond}
use mathlib.Core.List.{List, [], ◌∷◌}
use mathlib.Core.Option.{Option, none, some}
use mathlib.Core.Path.{◌≡◌, refl, sym, ap, ◌∙◌}
use native.Mathlib.Omega.{arith}
use borrow.Author.Tests.{eqb-true, eqb-false, leb-true, leb-false, ltb-true, ltb-false}
use lib.Dec.{eqb, leb, ltb}
use lib.ListN.{length, drop, get_or, get_or-eq_default}
use lib.Seq.{slice, length-slice}
use Rattle.isa.specs.Text.{bytes, bytes_from}
use Rattle.names.specs.Name.{name_of}
use Rattle.statement.specs.Types.{Instruction}
use Rattle.token.specs.Byte.{is_blank}
use Rattle.token.specs.Token.{past, Token, word, mark, leading_blanks, leading_word, tokens}
use Rattle.token.specs.Name.{is_label}
use Rattle.expression.specs.Label.{same}
use Rattle.token.proofs.Runs.{skipped, behind-blanks, none_left, a-mark, a_word, run_fits}
use Rattle.statement.specs.Mnemonic.{with_immediate, nameable, named_in, named, slots, has_operands}
use Rattle.statement.specs.Operand.{Operands, operands_at}
use Rattle.statement.specs.Line.{label, instruction, uncommented, ended, instruction_by, named_line, label_line, by_colon, token_line, word_end, is_spaced, code_line, line_of}
use Rattle.statement.specs.Meaning.{bit}
use Rattle.statement.specs.Claims.{Shortest}
use Rattle.statement.proofs.Claims.{same_true}
use Rattle.statement.proofs.Digits.{both}
use Rattle.statement.proofs.Ends.{upto-short}

-- a name without operands has three letters, one with operands two and a blank behind it

enough : Instruction → Bool
enough i = leb 3 (length (name_of i) + bit (has_operands (slots i)))

all-enough : List Instruction → Bool
all-enough [] = true
all-enough (i ∷ is) = enough i && all-enough is

every-name : all-enough nameable ≡ true
unfolding bytes bytes_from with_immediate nameable enough all-enough
every-name = refl

named_by : (w : List ℕ) (i j : Instruction) (o : Option Instruction) (t : Bool) → same (name_of j) w ≡ t → enough j ≡ true → (o ≡ some i → 3 ≤ length w + bit (has_operands (slots i))) → cond t (some j) o ≡ some i → 3 ≤ length w + bit (has_operands (slots i))
unfolding enough
named_by w i j o true s e h q =
    let k : j ≡ i = cc in
    let n = leb-true 3 (length (name_of j) + bit (has_operands (slots j))) e in
    rw (← same_true (name_of j) w s, ← k) n
named_by w i j o false s e h q = h q

named-enough : (w : List ℕ) (i : Instruction) (is : List Instruction) → all-enough is ≡ true → named_in is w ≡ some i → 3 ≤ length w + bit (has_operands (slots i))
unfolding named_in all-enough
named-enough w i [] e h = absurd (let z : ◌≡◌ {A = ℕ} 0 1 = cc in omega arith)
named-enough w i (j ∷ is) e h =
    let p = both (enough j) (all-enough is) e in
    named_by w i j (named_in is w) (same (name_of j) w) refl p.0 (named-enough w i is p.1) h

-- a text's first word

abbrev Fits : List ℕ → List ℕ → Type 0
Fits t w = (length w ≡ length (leading_word (drop (leading_blanks t) t))) × (leading_blanks t + length w ≤ length t)

word-by : (t w : List ℕ) (ts : List Token) (b : Bool) → eqb (length (leading_word (drop (leading_blanks t) t))) 0 ≡ b → leading_blanks t < length t → is_blank (get_or t (leading_blanks t) 0) ≡ false → tokens (drop (leading_blanks t) t) ≡ word w ∷ ts → Fits t w
word-by t w ts true e l n h =
    let m = a-mark t (leading_blanks t) l n (eqb-true (length (leading_word (drop (leading_blanks t) t))) 0 e) in
    absurd (let z : ◌≡◌ {A = ℕ} 0 1 = cc in omega arith)
word-by t w ts false e l n h =
    let s = leading_blanks t in
    let k = s + length (leading_word (drop s t)) in
    let d : k ≡ s → ⊥ = λ q. eqb-false (length (leading_word (drop s t))) 0 e (omega arith) in
    let m = a_word t s k l n refl d in
    let q : w ≡ slice s k t = cc in
    let f : k ≤ length t = run_fits t s (omega arith) in
    let g : length w ≡ length (leading_word (drop s t)) = ap length q ∙ length-slice s k t f ∙ omega arith in
    (g, omega arith)

first_by : (t w : List ℕ) (ts : List Token) (b : Bool) → leb (length t) (leading_blanks t) ≡ b → tokens t ≡ word w ∷ ts → Fits t w
first_by t w ts true e h =
    let l = leb-true (length t) (leading_blanks t) e in
    let q : leading_blanks t ≡ 0 + leading_blanks t = omega arith in
    let m : tokens t ≡ [] = skipped t 0 (leading_blanks t) q ∙ none_left t (leading_blanks t) l in
    absurd (let z : ◌≡◌ {A = ℕ} 0 1 = cc in omega arith)
first_by t w ts false e h =
    let l = leb-false (length t) (leading_blanks t) e in
    let q : leading_blanks t ≡ 0 + leading_blanks t = omega arith in
    word-by t w ts (eqb (length (leading_word (drop (leading_blanks t) t))) 0) refl l (behind-blanks t 0 (leading_blanks t) q l) (sym (skipped t 0 (leading_blanks t) q) ∙ h)

first_word : (t w : List ℕ) (ts : List Token) → tokens t ≡ word w ∷ ts → Fits t w
first_word t w ts h = first_by t w ts (leb (length t) (leading_blanks t)) refl h

-- a blank stands in the text
blank-by : (t : List ℕ) (k : ℕ) (b : Bool) → ltb k (length t) ≡ b → is_blank (get_or t k 0) ≡ true → k < length t
blank-by t k true e h = ltb-true k (length t) e
blank-by t k false e h =
    let z : false ≡ true = rw (get_or-eq_default t 0 {n = k} (ltb-false k (length t) e)) at h in
    absurd (let y : ◌≡◌ {A = ℕ} 0 1 = cc in omega arith)

-- a line by its parts

long-enough : (t w : List ℕ) (i : Instruction) (ts : List Token) (b : Bool) → has_operands (slots i) ≡ b → named w ≡ some i → tokens t ≡ word w ∷ ts → is_spaced t || not (has_operands (slots i)) ≡ true → 3 ≤ length t
long-enough t w i ts false e n h s =
    let f = first_word t w ts h in
    let k : 3 ≤ length w + bit false = rw e at (named-enough w i nameable every-name n) in omega arith
long-enough t w i ts true e n h s =
    let f = first_word t w ts h in
    let k : 3 ≤ length w + bit true = rw e at (named-enough w i nameable every-name n) in
    let o : is_spaced t || false ≡ true = rw e at s in
    let l = blank-by t (word_end t) (ltb (word_end t) (length t)) refl (or-false (is_spaced t) o) in omega arith
  where
    or-false : (b : Bool) → b || false ≡ true → b ≡ true
    or-false true h = refl
    or-false false h = h

module _ (i : Instruction) (os : Operands) where
  by-operands : (j : Instruction) (sp : Bool) (o : Option Operands) → instruction_by j sp o ≡ some (instruction i os) → (j ≡ i) × (sp || not (has_operands (slots j)) ≡ true)
  by-operands j sp none h = absurd (let z : ◌≡◌ {A = ℕ} 0 1 = cc in omega arith)
  by-operands j sp (some q) h = spaced (sp || not (has_operands (slots j))) h
    where
      spaced : (b : Bool) → cond b (some (instruction j q)) none ≡ some (instruction i os) → (j ≡ i) × (b ≡ true)
      spaced true h = let k : j ≡ i = cc in (k, refl)
      spaced false h = absurd (let z : ◌≡◌ {A = ℕ} 0 1 = cc in omega arith)

  no-label-by : (w : List ℕ) (b : Bool) → cond b (some (label w)) none ≡ some (instruction i os) → ⊥
  no-label-by w true h = let z : ◌≡◌ {A = ℕ} 0 1 = cc in omega arith
  no-label-by w false h = let z : ◌≡◌ {A = ℕ} 0 1 = cc in omega arith

  no_label : (w : List ℕ) (ts : List Token) → label_line w ts ≡ some (instruction i os) → ⊥
  no_label w [] h = no-label-by w (is_label w) h
  no_label w (t ∷ ts) h = let z : ◌≡◌ {A = ℕ} 0 1 = cc in omega arith

  by_name : (sp : Bool) (ts : List Token) (o : Option Instruction) → named_line o sp ts ≡ some (instruction i os) → (o ≡ some i) × (sp || not (has_operands (slots i)) ≡ true)
  by_name sp ts none h = absurd (let z : ◌≡◌ {A = ℕ} 0 1 = cc in omega arith)
  by_name sp ts (some j) h =
      let p = by-operands j sp (ended (operands_at (slots j) ts)) h in
      (ap some p.0, ap (λ k. sp || not (has_operands (slots k))) (sym p.0) ∙ p.1)

  by_word : (w : List ℕ) (sp : Bool) (ts : List Token) (o : Option (List Token)) → by_colon w sp ts o ≡ some (instruction i os) → (named w ≡ some i) × (sp || not (has_operands (slots i)) ≡ true)
  by_word w sp ts none h = by_name sp ts (named w) h
  by_word w sp ts (some rest) h = absurd (no_label w rest h)

  by-tokens : (t : List ℕ) (us : List Token) → tokens t ≡ us → token_line (is_spaced t) us ≡ some (instruction i os) → 3 ≤ length t
  by-tokens t [] e h = absurd (let z : ◌≡◌ {A = ℕ} 0 1 = cc in omega arith)
  by-tokens t (word w ∷ ts) e h =
      let p = by_word w (is_spaced t) ts (past 58 ts) h in
      long-enough t w i ts (has_operands (slots i)) refl p.0 e p.1
  by-tokens t (mark c ∷ ts) e h = absurd (let z : ◌≡◌ {A = ℕ} 0 1 = cc in omega arith)

  by_length : (text : List ℕ) (b : Bool) → cond b none (code_line (uncommented text)) ≡ some (instruction i os) → 3 ≤ length (uncommented text)
  by_length text true h = absurd (let z : ◌≡◌ {A = ℕ} 0 1 = cc in omega arith)
  by_length text false h = by-tokens (uncommented text) (tokens (uncommented text)) refl h

pub shortest : Shortest
unfolding Shortest line_of
shortest text i os h = omega (arith, by_length i os text (ltb 120 (length text)) h, upto-short 59 text)
