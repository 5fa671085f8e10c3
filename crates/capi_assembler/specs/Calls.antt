-- A program assembled (document 02, T-01), with what is handed back in lent numbers.
use Rattle.std.specs.Prelude.{ℕ, List, [], ◌∷◌}
use Rattle.assembler.specs.Into.{Answer, assembled, refusal, Outcome, assembled_into}

-- what the call answers and leaves: 0 or a number of the table; the words and the refused line; the program
pub record Took : Type 0 where
  pub answer : ℕ
  pub result : List ℕ
  pub program : List ℕ

abbrev pub took : ℕ → List ℕ → List ℕ → Took
took answer result program = record { answer = answer; result = result; program = program }

-- a refused call has no words, and an accepted one no line
abbrev pub takes : Answer → List ℕ → Took
takes (assembled count) program = took 0 (count ∷ 0 ∷ []) program
takes (refusal r) program = took r.number (0 ∷ r.line ∷ []) program

abbrev pub taking : Outcome → Took
taking o = takes o.answer o.buffer

unfoldable pub assemble_call : List ℕ → List ℕ → Took
assemble_call source program = taking (assembled_into source program)
