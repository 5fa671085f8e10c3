-- Words in a buffer, one line further.
use Prim.Native.Nat.{ℕ, ◌+◌, ◌*◌, ◌≤◌}
use mathlib.Core.List.{List, [], ◌∷◌, ◌++◌, map, append_assoc, append-nil}
use mathlib.Core.Option.{Option, none, some}
use mathlib.Core.Path.{◌≡◌, refl, sym, ap, ◌∙◌}
use native.Mathlib.Numerals.{add-one}
use native.Mathlib.Omega.{arith}
use lib.ListN.{length, take, drop, set, length-set, length-append, length-take, take-append-drop}
use lib.Seq.{take-suc-set, drop-drop, length-take-le, drop-set-lt}
use Rattle.statement.specs.Line.{line_of}
use Rattle.statement.specs.Evaluation.{evaluated_line, line_value}
use Rattle.statement.specs.declared.lines.Line as C
use Rattle.statement.specs.declared.lines.Line.TheVariants.{Blank, Label, Code}
use Rattle.std.specs.Prelude.{Some, None}
use Rattle.std.specs.Prelude as std
use Rattle.assembler.specs.Source.{line_in, lines_of, and_word, words_from}
use Rattle.assembler.specs.Into.{over}
use Rattle.assembler.specs.Walk.{first_text, words_in, line_word, stored, RoomFor, onwards}
use Rattle.assembler.proofs.Rules.{line-words}
use Rattle.assembler.proofs.Texts.{texts_at, texts-all}
use Rattle.assembler.proofs.Walking.{text_at, text-here}

pub stored-length : (k : ℕ) (o : Option ℕ) (l : List ℕ) → length (stored k o l) ≡ length l
stored-length k none l = refl
stored-length k (some w) l = length-set l k w

pub at_most_one : (k : ℕ) (o : Option ℕ) → onwards k o ≤ k + 1
at_most_one k none = omega arith
at_most_one k (some w) = omega arith

-- a line has no more words than instructions
pub few : (k n : ℕ) (r : std.Option C.Line) → onwards k (line_word n r) ≤ k + words_in r
few k n None = omega arith
few k n (Some Blank) = omega arith
few k n (Some (Label s)) = omega arith
few k n (Some (Code i f)) = at_most_one k (line_word n (Some (Code i f)))

-- words that begin with those of a buffer's first k places, and go on with one more
module _ (k : ℕ) (buffer ws rest : List ℕ) where
  pub room : (o : Option ℕ) → ws ≡ take k buffer ++ and_word o rest → length ws ≤ length buffer → RoomFor o k (length buffer)
  room none e h = omega arith
  room (some w) e h = omega (arith, ap length e ∙ length-append (take k buffer) (w ∷ rest), length-take k buffer)

  pub words-stored : (o : Option ℕ) → RoomFor o k (length buffer) → ws ≡ take k buffer ++ and_word o rest → ws ≡ take (onwards k o) (stored k o buffer) ++ rest
  words-stored none h e = e
  words-stored (some w) h e =
      let t : take (k + 1) (set buffer k w) ≡ take k buffer ++ w ∷ [] = rw (add-one k) (take-suc-set buffer k w h) in
      rw t (e ∙ sym (append_assoc (take k buffer) (w ∷ []) rest))

  pub stored-fits : (o : Option ℕ) → RoomFor o k (length buffer) → k ≤ length buffer → onwards k o ≤ length (stored k o buffer)
  stored-fits none h i = i
  stored-fits (some w) h i = omega (arith, length-set buffer k w)

  pub rest-stored : (old : List ℕ) (o : Option ℕ) → drop k buffer ≡ drop k old → drop (onwards k o) (stored k o buffer) ≡ drop (onwards k o) old
  rest-stored old none e = e
  rest-stored old (some w) e =
      drop-set-lt (k + 1) buffer k w (omega arith) ∙ sym (drop-drop 1 k buffer) ∙ ap (drop 1) e ∙ drop-drop 1 k old

module _ (source : List ℕ) (start end : ℕ) (h : start ≤ length source) (e : end ≡ start + length (first_text (drop start source))) (a : List ℕ → Option ℕ) (r : std.Option C.Line) (hs : line_value (text_at source start end) r ≡ evaluated_line a (line_of (text_at source start end))) where
  pub words-here : (ws done : List ℕ) (n : ℕ) → ws ≡ done ++ words_from a (4 * n) (map line_in (texts_at source start)) → ws ≡ done ++ and_word (line_word n r) (words_from a (4 * (n + words_in r)) (map line_in (texts_at source (end + 1))))
  words-here ws done n i =
      i ∙ ap (λ ts. done ++ words_from a (4 * n) (map line_in ts)) (text-here source start end h e)
      ∙ ap (λ ls. done ++ ls) (line-words a (text_at source start end) r hs n (map line_in (texts_at source (end + 1))))

pub words-begin : (a : List ℕ → Option ℕ) (source buffer : List ℕ) → words_from a 0 (lines_of source) ≡ take 0 buffer ++ words_from a (4 * 0) (map line_in (texts_at source 0))
words-begin a source buffer = ap (λ ts. words_from a 0 (map line_in ts)) (sym (texts-all source))

pub words-end : (a : List ℕ → Option ℕ) (source buffer old ws : List ℕ) (start n k : ℕ) → texts_at source start ≡ [] → k ≤ length buffer → drop k buffer ≡ drop k old → ws ≡ take k buffer ++ words_from a (4 * n) (map line_in (texts_at source start)) → buffer ≡ over ws old
unfolding words_from
words-end a source buffer old ws start n k e h d i =
    let w : ws ≡ take k buffer = i ∙ ap (λ ts. take k buffer ++ words_from a (4 * n) (map line_in ts)) e ∙ append-nil (take k buffer) in
    let l : length ws ≡ k = ap length w ∙ length-take-le k buffer h in
    sym (take-append-drop k buffer) ∙ ap (λ x. x ++ drop k buffer) (sym w) ∙ ap (λ x. ws ++ x) d ∙ ap (λ j. ws ++ drop j old) (sym l)
