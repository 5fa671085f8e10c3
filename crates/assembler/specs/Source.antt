-- The words of a source, or why it is refused (document 02, T-01): its lines, its labels, and the refusals as walks over the lines.
use Rattle.std.specs.Prelude.{ℕ, suc, ◌+◌, ◌*◌, Bool, true, false, ◌||◌, cond, List, [], ◌∷◌, ◌++◌, map, eqb, leb, ltb, length}
use Rattle.std.proofs.Math.Option.{Option, none, some}
use Rattle.answer.specs.Answer.{bad-program, bad-source, bad-label, too_large, short-buffer}
use Rattle.answer.specs.Refusal.{bad_program}
use Rattle.expression.specs.Label.{same}
use Rattle.statement.specs.Field.{value_in}
use Rattle.statement.specs.Line.{Line, blank, label, instruction, line_of}
use Rattle.statement.specs.Meaning.{word_of}
use Rattle.assembler.specs.Types.{Value, Known, TooLarge, Unknown}

-- "lines .. before their LF (the last needs none)": each line ends at its LF, the last at the source's end
abbrev pub longer : ℕ → List (List ℕ) → List (List ℕ)
longer c [] = (c ∷ []) ∷ []
longer c (l ∷ ls) = (c ∷ l) ∷ ls

unfoldable pub texts_of : List ℕ → List (List ℕ)
texts_of [] = [] ∷ []
texts_of (c ∷ cs) = cond (eqb c 10) ([] ∷ texts_of cs) (longer c (texts_of cs))

-- "A refusal names its first line, counted from 1", or 0
pub record Refusal : Type 0 where
  pub number : ℕ
  pub line : ℕ

abbrev pub at-line : ℕ → ℕ → Refusal
at-line number line = record { number = number; line = line }

-- the first of some things that is refused, by a rule that gives a number by those before it and itself
abbrev pub or_later : Option ℕ → ℕ → Option Refusal → Option Refusal
or_later none line later = later
or_later (some n) line later = some (at-line n line)

unfoldable pub first_from : {A : Type 0} → (List A → A → Option ℕ) → List A → List A → Option Refusal
first_from f before [] = none
first_from f before (x ∷ xs) = or_later (f before x) (suc (length before)) (first_from f (before ++ x ∷ []) xs)

abbrev pub first : {A : Type 0} → (List A → A → Option ℕ) → List A → Option Refusal
first f xs = first_from f [] xs

-- "then 12 too long or malformed (a wrong register letter is not)"
abbrev pub malformed_in : Option Line → Option ℕ
malformed_in none = some bad-source
malformed_in (some l) = none

abbrev pub text_number : List (List ℕ) → List ℕ → Option ℕ
text_number before text = malformed_in (line_of text)

-- what the lines say, once none of them is malformed
abbrev pub line_or : Option Line → Line
line_or none = blank
line_or (some l) = l

abbrev pub line_in : List ℕ → Line
line_in text = line_or (line_of text)

-- the number of words of lines
unfoldable pub count : List Line → ℕ
count [] = 0
count (blank ∷ ls) = count ls
count (label w ∷ ls) = count ls
count (instruction i os ∷ ls) = suc (count ls)

-- a label: its name, and the address that it means
pub record Label : Type 0 where
  pub name : List ℕ
  pub address : ℕ

abbrev pub named : List ℕ → ℕ → Label
named w address = record { name = w; address = address }

-- "A label .. means the next word's byte address": the labels of lines, counted on from an address
unfoldable pub labels_from : ℕ → List Line → List Label
labels_from at [] = []
labels_from at (blank ∷ ls) = labels_from at ls
labels_from at (label w ∷ ls) = named w at ∷ labels_from at ls
labels_from at (instruction i os ∷ ls) = labels_from (at + 4) ls

abbrev pub labels_of : List Line → List Label
labels_of ls = labels_from 0 ls

-- the address of the first label of a name
unfoldable pub address_among : List Label → List ℕ → Option ℕ
address_among [] w = none
address_among (l ∷ ls) w = cond (same l.name w) (some l.address) (address_among ls w)

abbrev pub is_known : Option ℕ → Bool
is_known none = false
is_known (some a) = true

-- What a line is refused with, by the addresses of all labels and the lines before it.

-- "13 label unknown, repeated or the 257th"
abbrev pub unknown_in : Value → Option ℕ
unknown_in (Known v) = none
unknown_in TooLarge = none
unknown_in Unknown = some bad-label

abbrev pub name_number : List Label → List ℕ → Option ℕ
name_number before w = cond (is_known (address_among before w) || leb 256 (length before)) (some bad-label) none

abbrev pub label_number : (List ℕ → Option ℕ) → List Line → Line → Option ℕ
label_number addresses before blank = none
label_number addresses before (label w) = name_number (labels_of before) w
label_number addresses before (instruction i os) = unknown_in (value_in addresses os.expression)

-- "by line 14 too deep or a number or sum too large, else 12 without a word"
abbrev pub without_word : Option ℕ → Option ℕ
without_word none = some bad-source
without_word (some w) = none

abbrev pub value_number : (ℕ → Option ℕ) → Value → Option ℕ
value_number word (Known v) = without_word (word v)
value_number word TooLarge = some too_large
value_number word Unknown = some bad-label

abbrev pub word_number : (List ℕ → Option ℕ) → List Line → Line → Option ℕ
word_number addresses before blank = none
word_number addresses before (label w) = none
word_number addresses before (instruction i os) = value_number (λ v. word_of i os v (4 * count before)) (value_in addresses os.expression)

-- the words of lines, counted on from an address
abbrev pub value_word : (ℕ → Option ℕ) → Value → Option ℕ
value_word word (Known v) = word v
value_word word TooLarge = none
value_word word Unknown = none

abbrev pub and_word : Option ℕ → List ℕ → List ℕ
and_word none ws = ws
and_word (some w) ws = w ∷ ws

unfoldable pub words_from : (List ℕ → Option ℕ) → ℕ → List Line → List ℕ
words_from addresses at [] = []
words_from addresses at (blank ∷ ls) = words_from addresses at ls
words_from addresses at (label w ∷ ls) = words_from addresses at ls
words_from addresses at (instruction i os ∷ ls) =
    and_word (value_word (λ v. word_of i os v at) (value_in addresses os.expression)) (words_from addresses (at + 4) ls)

pub data Assembly : Type 0 where
  words : List ℕ → Assembly
  refused : Refusal → Assembly

abbrev pub refused_or : Option Refusal → Assembly → Assembly
refused_or none a = a
refused_or (some r) a = refused r

-- "then 1; 18 last, word buffer too short; both name line 0"
abbrev pub in_room : ℕ → List ℕ → Assembly
in_room room ws =
    cond (bad_program (length ws)) (refused (at-line bad-program 0))
    (cond (ltb room (length ws)) (refused (at-line short-buffer 0)) (words ws))

abbrev pub of_lines : (List ℕ → Option ℕ) → ℕ → List Line → Assembly
of_lines addresses room ls =
    refused_or (first (label_number addresses) ls) (refused_or (first (word_number addresses) ls) (in_room room (words_from addresses 0 ls)))

abbrev pub lines_of : List ℕ → List Line
lines_of source = map line_in (texts_of source)

abbrev pub of_texts : ℕ → List ℕ → Assembly
of_texts room source =
    refused_or (first text_number (texts_of source)) (of_lines (address_among (labels_of (lines_of source))) room (lines_of source))

-- "first 12 at line 0, source too long"
unfoldable pub assembly : List ℕ → ℕ → Assembly
assembly source room = cond (ltb 65536 (length source)) (refused (at-line bad-source 0)) (of_texts room source)
