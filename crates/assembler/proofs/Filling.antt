-- The table of labels, one line further.
use Prim.Native.Nat.{ℕ, ◌+◌, ◌*◌, ◌≤◌, ◌<◌}
use mathlib.Core.List.{List, [], ◌∷◌, ◌++◌, map, append_assoc, append-nil}
use mathlib.Core.Option.{Option}
use mathlib.Core.Path.{◌≡◌, refl, sym, ap, ◌∙◌}
use native.Mathlib.Omega.{arith}
use lib.ListN.{length, take, drop, set, length-set}
use lib.Seq.{length-take-le}
use Rattle.token.specs.Token.{leading_word}
use Rattle.statement.specs.Line.{line_of}
use Rattle.statement.specs.Evaluation.{evaluated_line, line_value, LabelInside}
use Rattle.statement.specs.declared.lines.Line as C
use Rattle.statement.specs.declared.lines.Line.TheVariants.{Blank, Label, Code}
use Rattle.std.specs.Prelude.{Some, None}
use Rattle.std.specs.Prelude as std
use Rattle.assembler.specs.Source.{line_in, lines_of, named, count, labels_from, labels_of}
use Rattle.assembler.specs.Walk.{first_text, entries, labels_in, words_in}
use Rattle.assembler.specs.Table.{entered}
use Rattle.assembler.proofs.Rules.{said_labels, labels_here, line-labels, line-count}
use Rattle.assembler.proofs.Tables.{entries-more, take-entered}
use Rattle.assembler.proofs.Texts.{texts_at, texts-all}
use Rattle.assembler.proofs.Walking.{text_at, text-here, text-length, text-word}

pub entered-length : (r : std.Option C.Line) (start n words : ℕ) (t : List ℕ) → length (entered r start n words t) ≡ length t
entered-length None start n words t = refl
entered-length (Some Blank) start n words t = refl
entered-length (Some (Label s)) start n words t = length-set (set t (2 * n) (start + s)) (2 * n + 1) (4 * words) ∙ length-set t (2 * n) (start + s)
entered-length (Some (Code i f)) start n words t = refl

no_more : (source t : List ℕ) (n : ℕ) → entries source (take (2 * n) t) ++ [] ≡ entries source (take (2 * (n + 0)) t)
no_more source t n = let q : 2 * n ≡ 2 * (n + 0) = omega arith in append-nil (entries source (take (2 * n) t)) ∙ ap (λ k. entries source (take k t)) q

module _ (source : List ℕ) (start end : ℕ) (h : start ≤ length source) (e : end ≡ start + length (first_text (drop start source))) (a : List ℕ → Option ℕ) where
  entered-entries : (r : std.Option C.Line) (hs : line_value (text_at source start end) r ≡ evaluated_line a (line_of (text_at source start end))) (t : List ℕ) (n words : ℕ) → 2 * n + 1 < length t → LabelInside (length (text_at source start end)) r → entries source (take (2 * n) t) ++ labels_here a (text_at source start end) r hs words ≡ entries source (take (2 * (n + labels_in r)) (entered r start n words t))
  unfolding labels_here said_labels
  entered-entries None hs t n words room l = no_more source t n
  entered-entries (Some Blank) hs t n words room l = no_more source t n
  entered-entries (Some (Code i f)) hs t n words room l = no_more source t n
  entered-entries (Some (Label s)) hs t n words room l =
      let w : leading_word (drop s (text_at source start end)) ≡ leading_word (drop (start + s) source) = text-word source start end h e s (omega (arith, text-length source start end h e)) in
      let m : entries source (take (2 * n) t ++ (start + s) ∷ (4 * words) ∷ []) ≡ entries source (take (2 * n) t) ++ named (leading_word (drop (start + s) source)) (4 * words) ∷ [] = entries-more source n (take (2 * n) t) (start + s) (4 * words) (length-take-le (2 * n) t (omega arith)) in
      rw w (sym (ap (entries source) (take-entered t n (start + s) (4 * words) room) ∙ m))

  module _ (r : std.Option C.Line) (hs : line_value (text_at source start end) r ≡ evaluated_line a (line_of (text_at source start end))) (words : ℕ) where
    pub labels-further : (t : List ℕ) (n : ℕ) → 2 * n + 1 < length t → LabelInside (length (text_at source start end)) r → labels_of (lines_of source) ≡ entries source (take (2 * n) t) ++ labels_from (4 * words) (map line_in (texts_at source start)) → labels_of (lines_of source) ≡ entries source (take (2 * (n + labels_in r)) (entered r start n words t)) ++ labels_from (4 * (words + words_in r)) (map line_in (texts_at source (end + 1)))
    labels-further t n room l i =
        i ∙ ap (λ ts. entries source (take (2 * n) t) ++ labels_from (4 * words) (map line_in ts)) (text-here source start end h e)
        ∙ ap (λ ls. entries source (take (2 * n) t) ++ ls) (line-labels a (text_at source start end) r hs words (map line_in (texts_at source (end + 1))))
        ∙ sym (append_assoc (entries source (take (2 * n) t)) (labels_here a (text_at source start end) r hs words) (labels_from (4 * (words + words_in r)) (map line_in (texts_at source (end + 1)))))
        ∙ ap (λ ls. ls ++ labels_from (4 * (words + words_in r)) (map line_in (texts_at source (end + 1)))) (entered-entries r hs t n words room l)

    pub count-further : count (lines_of source) ≡ words + count (map line_in (texts_at source start)) → count (lines_of source) ≡ words + words_in r + count (map line_in (texts_at source (end + 1)))
    count-further i =
        let c : count (map line_in (texts_at source start)) ≡ words_in r + count (map line_in (texts_at source (end + 1))) = ap (λ ts. count (map line_in ts)) (text-here source start end h e) ∙ line-count a (text_at source start end) r hs (map line_in (texts_at source (end + 1))) in
        omega arith

-- before the first line, and behind the last
pub labels-begin : (source t : List ℕ) → labels_of (lines_of source) ≡ entries source (take (2 * 0) t) ++ labels_from (4 * 0) (map line_in (texts_at source 0))
unfolding entries
labels-begin source t = ap (λ ts. labels_of (map line_in ts)) (sym (texts-all source))

pub count-begin : (source : List ℕ) → count (lines_of source) ≡ 0 + count (map line_in (texts_at source 0))
count-begin source = let q = ap (λ ts. count (map line_in ts)) (texts-all source) in omega arith

pub labels-end : (source t : List ℕ) (start n words : ℕ) → texts_at source start ≡ [] → labels_of (lines_of source) ≡ entries source (take (2 * n) t) ++ labels_from (4 * words) (map line_in (texts_at source start)) → entries source (take (2 * n) t) ≡ labels_of (lines_of source)
unfolding labels_from
labels-end source t start n words e i = sym (i ∙ ap (λ ts. entries source (take (2 * n) t) ++ labels_from (4 * words) (map line_in ts)) e ∙ append-nil (entries source (take (2 * n) t)))

pub count-end : (source : List ℕ) (start words : ℕ) → texts_at source start ≡ [] → count (lines_of source) ≡ words + count (map line_in (texts_at source start)) → words ≡ count (lines_of source)
unfolding count
count-end source start words e i = let q : count (map line_in (texts_at source start)) ≡ 0 = ap (λ ts. count (map line_in ts)) e in omega arith
