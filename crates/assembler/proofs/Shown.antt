-- The words of a source are a part of the buffer that they are put into.
use Prim.Native.Nat.{ℕ, ◌≤◌}
use mathlib.Core.List.{List}
use mathlib.Core.Path.{◌≡◌, sym, ap, ◌∙◌}
use native.Mathlib.Omega.{arith}
use lib.ListN.{length, drop, length-append}
use Rattle.assembler.specs.Into.{Outcome, into, outcome_of, assembled_into}
use Rattle.assembler.specs.Source.{Assembly, words, refused, assembly}
use Rattle.std.specs.Prelude.{Result, Ok}
use Rattle.answer.specs.declared.refusal.RefusedLine.{RefusedLine}

pub words-within : (r : Result ℕ RefusedLine) (source buffer l : List ℕ) (n : ℕ) → outcome_of r l ≡ assembled_into source buffer → r ≡ Ok n → n ≤ length l
unfolding assembled_into
words-within r source buffer l n e f = go (assembly source (length buffer)) (ap (λ (x : Result ℕ RefusedLine). outcome_of x l) (sym f) ∙ e)
  where
    go : (a : Assembly) → outcome_of (Ok n) l ≡ into a buffer → n ≤ length l
    go (refused x) e = let f = ap (λ (o : Outcome). o.answer) e in let z : ◌≡◌ {A = ℕ} 0 1 = cc in absurd (omega arith)
    go (words ws) e =
        let f = ap (λ (o : Outcome). o.answer) e in
        let g : n ≡ length ws = cc in
        let h = ap (λ (o : Outcome). o.buffer) e in
        omega (arith, ap length h, length-append ws (drop (length ws) buffer))
