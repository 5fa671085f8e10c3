-- What is printed byte by byte is what is printed line by line.
use Prim.Native.Nat.{ℕ}
use mathlib.Core.Bool.{Bool, true, false, cond}
use mathlib.Core.List.{List, [], ◌∷◌, ◌++◌, append-nil}
use mathlib.Core.Path.{◌≡◌, refl, sym, ap, ◌∙◌}
use lib.Dec.{eqb}
use Rattle.machine.specs.State.{State}
use Rattle.minute_lines.specs.Claims.{PrintsLines}
use Rattle.minute_lines.specs.Answers.{answer_text}
use Rattle.minute_lines.specs.Line.{is_digit, read_line}
use Rattle.minute_lines.specs.Parsing.{with_digit, with_byte, with_bytes}
use Rattle.minute_lines.specs.Taking.{Between, Took, tick_on, printed, last_line, lines_from, took, end_line, take_byte, is_empty, take_end, take_all}
use Rattle.minute_lines.specs.Types.{Line, Empty, Digits, Marked, Wrong, Kept}
use Rattle.minute_lines.proofs.Lines.{reads_lines, with-last}

-- a line with a byte in it is not empty
with-some : (line : Line) (byte : ℕ) → is_empty (with_byte line byte) ≡ false
unfolding with_byte
with-some Empty byte = go (is_digit byte)
  where
    go : (d : Bool) → is_empty (cond d (Digits (with_digit 0 byte)) Wrong) ≡ false
    go true = refl
    go false = refl
with-some (Digits n) byte = go (is_digit byte) (eqb byte 102)
  where
    go : (d q : Bool) → is_empty (cond d (Digits (with_digit n byte)) (cond q (Marked n) Wrong)) ≡ false
    go true q = refl
    go false true = refl
    go false false = refl
with-some (Marked n) byte = refl
with-some Wrong byte = refl

some-stays : (line : Line) (bytes : List ℕ) → is_empty line ≡ false → is_empty (with_bytes line bytes) ≡ false
unfolding with_bytes
some-stays line [] h = h
some-stays line (byte ∷ bytes) h = some-stays (with_byte line byte) bytes (with-some line byte)

module _ (p : List ℕ) where
  -- what is held with some bytes of a line read
  after : State → Kept → List ℕ → Between
  after s kept line = record { kept = kept; line = with_bytes Empty line; left = s }

  ended : (s : State) (kept : Kept) (line : List ℕ) → end_line p (after s kept line) ≡ took (tick_on p s kept (read_line line))
  unfolding end_line after
  ended s kept line = ap (λ g. took (tick_on p s kept g)) (reads_lines line)

  at-end : (s : State) (kept : Kept) (line : List ℕ) → (take_end p (after s kept line)).text ≡ printed p s kept (last_line line)
  unfolding take_end printed after with_bytes
  at-end s kept [] = refl
  at-end s kept (byte ∷ line) =
      rw (some-stays (with_byte Empty byte) line (with-some Empty byte))
      (ap (λ (t : Took). t.text) (ended s kept (byte ∷ line)) ∙ sym (append-nil (answer_text (tick_on p s kept (read_line (byte ∷ line))).answer)))

  prints : (input line : List ℕ) (s : State) (kept : Kept) → take_all p (after s kept line) input ≡ printed p s kept (lines_from line input)
  unfolding take_all lines_from take_byte printed after with_bytes
  prints [] line s kept = at-end s kept line
  prints (byte ∷ input) line s kept = go (eqb byte 10) (prints input)
    where
      go : (q : Bool) → ((line' : List ℕ) (s' : State) (kept' : Kept) → take_all p (after s' kept' line') input ≡ printed p s' kept' (lines_from line' input))
          → (cond q (end_line p (after s kept line)) (record { then = record { kept = kept; line = with_byte (after s kept line).line byte; left = s }; text = [] })).text
          ++ take_all p (cond q (end_line p (after s kept line)) (record { then = record { kept = kept; line = with_byte (after s kept line).line byte; left = s }; text = [] })).then input
          ≡ printed p s kept (cond q (line ∷ lines_from [] input) (lines_from (line ++ byte ∷ []) input))
      go true rest =
          let o = tick_on p s kept (read_line line) in
          ap (λ (t : Took). t.text ++ take_all p t.then input) (ended s kept line)
          ∙ ap (λ text. answer_text o.answer ++ text) (rest [] o.left o.kept)
      go false rest =
          ap (λ l. take_all p (record { kept = kept; line = l; left = s }) input) (with-last Empty line byte) ∙ rest (line ++ byte ∷ []) s kept

pub prints-lines : PrintsLines
unfolding after with_bytes
prints-lines p s kept input = prints p input [] s kept
