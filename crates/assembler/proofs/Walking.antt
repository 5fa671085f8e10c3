-- A walk over the lines of a source: what a line's place says of it.
use Prim.Native.Nat.{ℕ, ◌+◌, ◌-◌, ◌*◌, ◌≤◌}
use mathlib.Core.List.{List, [], ◌∷◌, ◌++◌, map, map-append}
use mathlib.Core.Option.{Option, none, some}
use mathlib.Core.Path.{◌≡◌, refl, sym, ap, ◌∙◌}
use native.Mathlib.Omega.{arith}
use lib.ListN.{length, take, drop, take-append-drop, length-append}
use lib.Seq.{take_at, drop-drop}
use Rattle.token.specs.Token.{leading_word}
use Rattle.statement.specs.Line.{Line, line_of}
use Rattle.statement.specs.Evaluation.{LineValue, evaluated_line, line_value, LabelInside}
use Rattle.statement.specs.declared.lines.Line as C
use Rattle.statement.specs.declared.lines.Line.TheVariants.{Blank, Label, Code}
use Rattle.std.specs.Prelude.{Some, None}
use Rattle.std.specs.Prelude as std
use Rattle.token.proofs.Runs.{part-is}
use Rattle.statement.proofs.Ends.{take-upto, word-in-line}
use Rattle.assembler.specs.Types.{Pass, Texts, Labels, Words}
use Rattle.assembler.specs.Source.{texts_of, line_in, lines_of, count, labels_from, labels_of}
use Rattle.assembler.specs.Source.{Label as Source-as-Label}
use Rattle.assembler.specs.Walk.{first_text, rule_of, entries, line_number_of, labels_in, words_in, TableAt, TableFor}
use Rattle.assembler.proofs.Counted.{count-append, labels_append}
use Rattle.assembler.proofs.Rules.{rule-is, line-count, labels_here, line-labels, labels-here}
use Rattle.assembler.proofs.Tables.{entries-take}
use Rattle.assembler.proofs.Texts.{texts_at, texts-on, walk-take}

-- the text of a line, as the code lends it
abbrev pub text_at : List ℕ → ℕ → ℕ → List ℕ
text_at source start end = take (end - start) (drop start source)

module _ (source : List ℕ) (start end : ℕ) (h : start ≤ length source) (e : end ≡ start + length (first_text (drop start source))) where
  pub text-here : texts_at source start ≡ text_at source start end ∷ texts_at source (end + 1)
  text-here = texts-on source start end h e ∙ ap (λ t. t ∷ texts_at source (end + 1)) (sym (part-is start end source (omega arith)))

  text-is : text_at source start end ≡ first_text (drop start source)
  text-is = let q : end - start ≡ length (first_text (drop start source)) = omega arith in ap (λ n. take n (drop start source)) q ∙ take-upto 10 (drop start source)

  pub text-length : length (text_at source start end) ≡ end - start
  text-length = ap length text-is ∙ omega arith

  -- a word of the line is the word there in the source
  pub text-word : (s : ℕ) → s ≤ end - start → leading_word (drop s (text_at source start end)) ≡ leading_word (drop (start + s) source)
  text-word s k =
      let q : s ≤ length (first_text (drop start source)) = omega arith in
      ap (λ t. leading_word (drop s t)) text-is ∙ word-in-line 10 (drop start source) s refl q ∙ ap leading_word (drop-drop s start source)

-- what is judged does not go by labels, but for the pass that judges them
any-labels : (pass : Pass) (ls ms : List Source-as-Label) (k : ℕ) (s : Option LineValue) → (pass ≡ Labels → ls ≡ ms) → line_number_of pass ls k s ≡ line_number_of pass ms k s
any-labels Texts ls ms k none h = refl
any-labels Texts ls ms k (some s) h = refl
any-labels Labels ls ms k s h = ap (λ x. line_number_of Labels x k s) (h refl)
any-labels Words ls ms k none h = refl
any-labels Words ls ms k (some LineValue.nothing) h = refl
any-labels Words ls ms k (some (LineValue.label w)) h = refl
any-labels Words ls ms k (some (LineValue.code i f)) h = refl

entries-short : (source t : List ℕ) → 2 * length (entries source t) ≤ length t
unfolding entries
entries-short source [] = omega arith
entries-short source (p ∷ []) = omega arith
entries-short source (p ∷ a ∷ t) = let q = entries-short source t in omega arith

-- Behind `before` lines, of which n have labels and `words` instructions.
module _ (source labels : List ℕ) (before : ℕ) where
  prefix : List Line
  prefix = map line_in (take before (texts_of source))

  prefix-labels : labels_of (lines_of source) ≡ labels_of prefix ++ labels_from (4 * count prefix) (map line_in (drop before (texts_of source)))
  unfolding prefix
  prefix-labels =
      let q : 0 + 4 * count prefix ≡ 4 * count prefix = omega arith in
      ap (λ t. labels_of (map line_in t)) (sym (take-append-drop before (texts_of source))) ∙ ap labels_of (map-append line_in (take before (texts_of source)) (drop before (texts_of source)))
      ∙ labels_append 0 prefix (map line_in (drop before (texts_of source))) ∙ ap (λ a. labels_of prefix ++ labels_from a (map line_in (drop before (texts_of source)))) q

  module _ (n : ℕ) (nq : n ≡ length (labels_of (map line_in (take before (texts_of source))))) where
    table-prefix : entries source labels ≡ labels_of (lines_of source) → entries source (take (2 * n) labels) ≡ labels_of (map line_in (take before (texts_of source)))
    unfolding prefix
    table-prefix t = entries-take source n labels ∙ ap (take n) (t ∙ prefix-labels) ∙ take_at (labels_of prefix) (labels_from (4 * count prefix) (map line_in (drop before (texts_of source)))) n (sym nq)

    table-room : entries source labels ≡ labels_of (lines_of source) → 2 * n ≤ length labels
    unfolding prefix
    table-room t =
        let l : length (entries source labels) ≡ n + length (labels_from (4 * count prefix) (map line_in (drop before (texts_of source)))) = ap length (t ∙ prefix-labels) ∙ length-append (labels_of prefix) (labels_from (4 * count prefix) (map line_in (drop before (texts_of source)))) ∙ ap (λ x. x + length (labels_from (4 * count prefix) (map line_in (drop before (texts_of source))))) (sym nq) in
        let s = entries-short source labels in omega arith

    pub table_at : (pass : Pass) → TableFor pass source labels → TableAt pass labels n
    table_at Texts t = t
    table_at Labels t = table-room t
    table_at Words t = t

    labels-equal : (pass : Pass) → TableFor pass source labels → pass ≡ Labels → entries source (take (2 * n) labels) ≡ labels_of (map line_in (take before (texts_of source)))
    labels-equal Texts t q = absurd (let z : ◌≡◌ {A = ℕ} 0 1 = cc in omega arith)
    labels-equal Labels t q = table-prefix t
    labels-equal Words t q = absurd (let z : ◌≡◌ {A = ℕ} 0 1 = cc in omega arith)

    -- what is judged of a line is what the rule says of its text
    pub number_is : (pass : Pass) (a : List ℕ → Option ℕ) (words : ℕ) (text : List ℕ) (r : std.Option C.Line) → TableFor pass source labels → words ≡ count (map line_in (take before (texts_of source))) → line_value text r ≡ evaluated_line a (line_of text) → line_number_of pass (entries source (take (2 * n) labels)) words (line_value text r) ≡ rule_of pass a (take before (texts_of source)) text
    number_is pass a words text r t wq h =
        any-labels pass (entries source (take (2 * n) labels)) (labels_of (map line_in (take before (texts_of source)))) words (line_value text r) (labels-equal pass t)
        ∙ ap (λ k. line_number_of pass (labels_of (map line_in (take before (texts_of source)))) k (line_value text r)) wq
        ∙ ap (λ s. line_number_of pass (labels_of (map line_in (take before (texts_of source)))) (count (map line_in (take before (texts_of source)))) s) h
        ∙ sym (rule-is pass a (take before (texts_of source)) text)

-- one line further
module _ (source : List ℕ) (before : ℕ) (a : List ℕ → Option ℕ) (text : List ℕ) (rest : List (List ℕ)) (r : std.Option C.Line) (at : drop before (texts_of source) ≡ text ∷ rest) (h : line_value text r ≡ evaluated_line a (line_of text)) where
  one_more : map line_in (take (before + 1) (texts_of source)) ≡ map line_in (take before (texts_of source)) ++ line_in text ∷ []
  one_more = ap (map line_in) (walk-take (texts_of source) before text rest at) ∙ map-append line_in (take before (texts_of source)) (text ∷ [])

  pub words-on : (words : ℕ) → words ≡ count (map line_in (take before (texts_of source))) → words + words_in r ≡ count (map line_in (take (before + 1) (texts_of source)))
  unfolding count
  words-on words q =
      let c : count (line_in text ∷ []) ≡ words_in r + 0 = line-count a text r h [] in
      let d : count (map line_in (take (before + 1) (texts_of source))) ≡ count (map line_in (take before (texts_of source))) + count (line_in text ∷ []) = ap count one_more ∙ count-append (map line_in (take before (texts_of source))) (line_in text ∷ []) in
      omega arith

  pub labels-on : (n : ℕ) → n ≡ length (labels_of (map line_in (take before (texts_of source)))) → n + labels_in r ≡ length (labels_of (map line_in (take (before + 1) (texts_of source))))
  unfolding labels_from
  labels-on n q =
      let p = map line_in (take before (texts_of source)) in
      let z : 0 + 4 * count p ≡ 4 * count p = omega arith in
      let l : labels_of (map line_in (take (before + 1) (texts_of source))) ≡ labels_of p ++ labels_from (4 * count p) (line_in text ∷ []) = ap labels_of one_more ∙ labels_append 0 p (line_in text ∷ []) ∙ ap (λ x. labels_of p ++ labels_from x (line_in text ∷ [])) z in
      let m : labels_from (4 * count p) (line_in text ∷ []) ≡ labels_here a text r h (count p) ++ [] = line-labels a text r h (count p) [] in
      let k : length (labels_from (4 * count p) (line_in text ∷ [])) ≡ labels_in r + 0 = ap length m ∙ length-append (labels_here a text r h (count p)) [] ∙ ap (λ x. x + 0) (labels-here a text r h (count p)) in
      let d : length (labels_of (map line_in (take (before + 1) (texts_of source)))) ≡ length (labels_of p) + length (labels_from (4 * count p) (line_in text ∷ [])) = ap length l ∙ length-append (labels_of p) (labels_from (4 * count p) (line_in text ∷ [])) in
      omega arith

pub label-longer : (m n : ℕ) (r : std.Option C.Line) → m ≤ n → LabelInside m r → LabelInside n r
label-longer m n None h l = l
label-longer m n (Some Blank) h l = l
label-longer m n (Some (Label s)) h l = omega arith
label-longer m n (Some (Code i f)) h l = l

pub few-labels : (m : ℕ) (r : std.Option C.Line) → LabelInside m r → 2 * labels_in r ≤ m
few-labels m None l = omega arith
few-labels m (Some Blank) l = omega arith
few-labels m (Some (Label s)) l = omega arith
few-labels m (Some (Code i f)) l = omega arith

pub few_words : (r : std.Option C.Line) → words_in r ≤ 1
few_words None = omega arith
few_words (Some Blank) = omega arith
few_words (Some (Label s)) = omega arith
few_words (Some (Code i f)) = omega arith

pub one_label : (r : std.Option C.Line) → labels_in r ≤ 1
one_label None = omega arith
one_label (Some Blank) = omega arith
one_label (Some (Label s)) = omega arith
one_label (Some (Code i f)) = omega arith
