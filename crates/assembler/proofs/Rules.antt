-- What a rule says of a text, from what the code sees of it.
use Prim.Native.Nat.{ℕ, ◌+◌, ◌*◌}
use mathlib.Core.List.{List, [], ◌∷◌, ◌++◌, map}
use mathlib.Core.Option.{Option, none, some}
use mathlib.Core.Path.{◌≡◌, refl, sym, ap, ◌∙◌}
use native.Mathlib.Omega.{arith}
use lib.ListN.{length, drop}
use Rattle.statement.specs.Line.{Line, blank, label, instruction, line_of}
use Rattle.statement.specs.Evaluation.{LineValue, evaluated_line, line_value}
use Rattle.statement.specs.Field.{value_in, operand_values_of}
use Rattle.token.specs.Token.{leading_word}
use Rattle.statement.specs.declared.lines.Line as C
use Rattle.statement.specs.declared.lines.Line.TheVariants.{Blank, Label, Code}
use Rattle.std.specs.Prelude.{Some, None}
use Rattle.std.specs.Prelude as std
use Rattle.assembler.specs.Types.{Pass, Texts, Labels, Words}
use Rattle.assembler.specs.Source.{line_or, line_in, named, count, labels_from, labels_of, malformed_in, label_number, word_number, value_word, and_word, words_from}
use Rattle.assembler.specs.Source.{Label as Source-as-Label}
use Rattle.assembler.specs.Walk.{rule_of, line_number_of, labels_in, words_in, line_word, instruction_word}

texts-rule : (a : List ℕ → Option ℕ) (before : List Line) (o : Option Line) → malformed_in o ≡ line_number_of Texts (labels_of before) (count before) (evaluated_line a o)
texts-rule a before none = refl
texts-rule a before (some blank) = refl
texts-rule a before (some (label w)) = refl
texts-rule a before (some (instruction i os)) = refl

labels-rule : (a : List ℕ → Option ℕ) (before : List Line) (o : Option Line) → label_number a before (line_or o) ≡ line_number_of Labels (labels_of before) (count before) (evaluated_line a o)
labels-rule a before none = refl
labels-rule a before (some blank) = refl
labels-rule a before (some (label w)) = refl
labels-rule a before (some (instruction i os)) = refl

words-rule : (a : List ℕ → Option ℕ) (before : List Line) (o : Option Line) → word_number a before (line_or o) ≡ line_number_of Words (labels_of before) (count before) (evaluated_line a o)
words-rule a before none = refl
words-rule a before (some blank) = refl
words-rule a before (some (label w)) = refl
words-rule a before (some (instruction i os)) = refl

pub rule-is : (pass : Pass) (a : List ℕ → Option ℕ) (before : List (List ℕ)) (text : List ℕ) → rule_of pass a before text ≡ line_number_of pass (labels_of (map line_in before)) (count (map line_in before)) (evaluated_line a (line_of text))
rule-is Texts a before text = texts-rule a (map line_in before) (line_of text)
rule-is Labels a before text = labels-rule a (map line_in before) (line_of text)
rule-is Words a before text = words-rule a (map line_in before) (line_of text)

-- A line by what is said of it: its labels at an address, how many words it has, and its word behind so many instructions.
unfoldable pub said_labels : ℕ → Option LineValue → List Source-as-Label
said_labels at none = []
said_labels at (some LineValue.nothing) = []
said_labels at (some (LineValue.label w)) = named w at ∷ []
said_labels at (some (LineValue.code i f)) = []

said_words : Option LineValue → ℕ
said_words none = 0
said_words (some LineValue.nothing) = 0
said_words (some (LineValue.label w)) = 0
said_words (some (LineValue.code i f)) = 1

said_word : ℕ → Option LineValue → Option ℕ
said_word k none = none
said_word k (some LineValue.nothing) = none
said_word k (some (LineValue.label w)) = none
said_word k (some (LineValue.code i f)) = value_word (instruction_word i f k) f.value

labels-said : (a : List ℕ → Option ℕ) (k : ℕ) (o : Option Line) (ls : List Line) → labels_from (4 * k) (line_or o ∷ ls) ≡ said_labels (4 * k) (evaluated_line a o) ++ labels_from (4 * (k + said_words (evaluated_line a o))) ls
unfolding labels_from said_labels said_words
labels-said a k none ls = let q : 4 * k ≡ 4 * (k + 0) = omega arith in ap (λ x. labels_from x ls) q
labels-said a k (some blank) ls = let q : 4 * k ≡ 4 * (k + 0) = omega arith in ap (λ x. labels_from x ls) q
labels-said a k (some (label w)) ls = let q : 4 * k ≡ 4 * (k + 0) = omega arith in ap (λ x. named w (4 * k) ∷ labels_from x ls) q
labels-said a k (some (instruction i os)) ls = let q : 4 * k + 4 ≡ 4 * (k + 1) = omega arith in ap (λ x. labels_from x ls) q

count-said : (a : List ℕ → Option ℕ) (o : Option Line) (ls : List Line) → count (line_or o ∷ ls) ≡ said_words (evaluated_line a o) + count ls
unfolding count said_words
count-said a none ls = omega arith
count-said a (some blank) ls = omega arith
count-said a (some (label w)) ls = omega arith
count-said a (some (instruction i os)) ls = omega arith

words-said : (a : List ℕ → Option ℕ) (k : ℕ) (o : Option Line) (ls : List Line) → words_from a (4 * k) (line_or o ∷ ls) ≡ and_word (said_word k (evaluated_line a o)) (words_from a (4 * (k + said_words (evaluated_line a o))) ls)
unfolding words_from said_word said_words
words-said a k none ls = let q : 4 * k ≡ 4 * (k + 0) = omega arith in ap (λ x. words_from a x ls) q
words-said a k (some blank) ls = let q : 4 * k ≡ 4 * (k + 0) = omega arith in ap (λ x. words_from a x ls) q
words-said a k (some (label w)) ls = let q : 4 * k ≡ 4 * (k + 0) = omega arith in ap (λ x. words_from a x ls) q
words-said a k (some (instruction i os)) ls =
    let q : 4 * k + 4 ≡ 4 * (k + 1) = omega arith in
    ap (λ x. and_word (value_word (instruction_word i (operand_values_of a os) k) (value_in a os.expression)) (words_from a x ls)) q

-- the same of what the code sees
seen-labels : (text : List ℕ) (at : ℕ) (r : std.Option C.Line) → length (said_labels at (line_value text r)) ≡ labels_in r
unfolding said_labels
seen-labels text at None = refl
seen-labels text at (Some Blank) = refl
seen-labels text at (Some (Label s)) = refl
seen-labels text at (Some (Code i f)) = refl

seen-words : (text : List ℕ) (r : std.Option C.Line) → said_words (line_value text r) ≡ words_in r
unfolding said_words
seen-words text None = refl
seen-words text (Some Blank) = refl
seen-words text (Some (Label s)) = refl
seen-words text (Some (Code i f)) = refl

seen-word : (text : List ℕ) (k : ℕ) (r : std.Option C.Line) → said_word k (line_value text r) ≡ line_word k r
unfolding said_word
seen-word text k None = refl
seen-word text k (Some Blank) = refl
seen-word text k (Some (Label s)) = refl
seen-word text k (Some (Code i f)) = refl

-- a text that the code sees as a line
module _ (a : List ℕ → Option ℕ) (text : List ℕ) (r : std.Option C.Line) (h : line_value text r ≡ evaluated_line a (line_of text)) where
  words-seen : said_words (evaluated_line a (line_of text)) ≡ words_in r
  words-seen = ap said_words (sym h) ∙ seen-words text r

  pub line-count : (ls : List Line) → count (line_in text ∷ ls) ≡ words_in r + count ls
  line-count ls = count-said a (line_of text) ls ∙ ap (λ n. n + count ls) words-seen

  -- the line's labels, if it stands behind k instructions
  unfoldable pub labels_here : ℕ → List Source-as-Label
  labels_here k = said_labels (4 * k) (line_value text r)

  pub line-labels : (k : ℕ) (ls : List Line) → labels_from (4 * k) (line_in text ∷ ls) ≡ labels_here k ++ labels_from (4 * (k + words_in r)) ls
  unfolding labels_here
  line-labels k ls = labels-said a k (line_of text) ls ∙ ap (λ s. said_labels (4 * k) s ++ labels_from (4 * (k + said_words (evaluated_line a (line_of text)))) ls) (sym h) ∙ ap (λ n. said_labels (4 * k) (line_value text r) ++ labels_from (4 * (k + n)) ls) words-seen

  pub labels-here : (k : ℕ) → length (labels_here k) ≡ labels_in r
  unfolding labels_here
  labels-here k = seen-labels text (4 * k) r

  pub line-words : (k : ℕ) (ls : List Line) → words_from a (4 * k) (line_in text ∷ ls) ≡ and_word (line_word k r) (words_from a (4 * (k + words_in r)) ls)
  line-words k ls = words-said a k (line_of text) ls ∙ ap (λ s. and_word (said_word k s) (words_from a (4 * (k + said_words (evaluated_line a (line_of text)))) ls)) (sym h) ∙ ap (λ s. and_word s (words_from a (4 * (k + said_words (evaluated_line a (line_of text)))) ls)) (seen-word text k r) ∙ ap (λ n. and_word (line_word k r) (words_from a (4 * (k + n)) ls)) words-seen

-- the label of a line that the code sees, in words of its place
pub label-here : (a : List ℕ → Option ℕ) (text : List ℕ) (s k : ℕ) (h : line_value text (Some (Label s)) ≡ evaluated_line a (line_of text)) → labels_here a text (Some (Label s)) h k ≡ named (leading_word (drop s text)) (4 * k) ∷ []
unfolding labels_here said_labels
label-here a text s k h = refl
