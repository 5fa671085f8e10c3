-- What import answers and leaves (document 02, T-06).
use Rattle.std.specs.Prelude.{ℕ, ◌/◌, cond, List, ◌++◌, ltb, length, drop, Result, Ok, Err}
use Rattle.answer.specs.Answer.{Answer, given, refused, bad-program, short-buffer}
use Rattle.program.specs.Program.{bad_bytes, program_in}
use Rattle.intel_hex.specs.File.{Image, image, no_image, image_of}
use Rattle.answer.specs.Refusal.{row_of}
use Rattle.answer.specs.declared.refusal.RefusedLine.{RefusedLine}

-- the number of words or of the refusal, the line that is refused (0 where none is meant), and the lent words
pub record Import : Type 0 where
  pub answer : Answer ℕ
  pub line : ℕ
  pub words : List ℕ

abbrev pub imports : Answer ℕ → ℕ → List ℕ → Import
imports answer line words = record { answer = answer; line = line; words = words }

-- the same of the code's answer
abbrev pub imported : Result ℕ RefusedLine → List ℕ → Import
imported (Ok n) words = imports (given n) 0 words
imported (Err e) words = imports (refused (row_of e.refusal)) e.line words

-- "then 1 for size or part words; then 18 buffer too short": both name line 0. A refusal changes nothing, and places of the buffer past the
-- words keep their content
abbrev pub import_image : Image → List ℕ → Import
import_image (no_image number line) buffer = imports (refused number) line buffer
import_image (image bytes) buffer =
    cond (bad_bytes (length bytes)) (imports (refused bad-program) 0 buffer)
    (cond (ltb (length buffer) (length bytes / 4)) (imports (refused short-buffer) 0 buffer)
    (imports (given (length bytes / 4)) 0 (program_in bytes ++ drop (length bytes / 4) buffer)))

-- a text, and a buffer for words
abbrev pub import_into : List ℕ → List ℕ → Import
import_into text buffer = import_image (image_of text) buffer
