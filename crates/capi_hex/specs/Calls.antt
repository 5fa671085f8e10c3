-- Import and export (document 02, T-06), with what they hand back in lent numbers.
use Rattle.std.specs.Prelude.{ℕ, List, [], ◌∷◌}
use Rattle.answer.specs.Answer.{Answer, given, refused}
use Rattle.intel_hex.specs.Import.{Import, import_into}
use Rattle.intel_hex.specs.Export.{Export, export_into}

-- what an import answers and leaves: 0 or a number of the table; the words and the refused line; the program
pub record Took : Type 0 where
  pub answer : ℕ
  pub result : List ℕ
  pub program : List ℕ

abbrev pub took : ℕ → List ℕ → List ℕ → Took
took answer result program = record { answer = answer; result = result; program = program }

-- a refused call has no words, and an accepted one no line
abbrev pub takes : Answer ℕ → ℕ → List ℕ → Took
takes (given count) line program = took 0 (count ∷ 0 ∷ []) program
takes (refused number) line program = took number (0 ∷ line ∷ []) program

abbrev pub taking : Import → Took
taking i = takes i.answer i.line i.words

unfoldable pub import_call : List ℕ → List ℕ → Took
import_call text program = taking (import_into text program)

-- what an export answers and leaves: 0 or a number; the length of the text, which a refusal leaves as it was; the text
pub record Gave : Type 0 where
  pub answer : ℕ
  pub length : ℕ
  pub text : List ℕ

abbrev pub gave : ℕ → ℕ → List ℕ → Gave
gave answer length text = record { answer = answer; length = length; text = text }

abbrev pub gives : Answer ℕ → ℕ → List ℕ → Gave
gives (given n) before text = gave 0 n text
gives (refused number) before text = gave number before text

abbrev pub giving : Export → ℕ → Gave
giving e before = gives e.answer before e.text

unfoldable pub export_call : List ℕ → List ℕ → ℕ → Gave
export_call program text before = giving (export_into program text) before
