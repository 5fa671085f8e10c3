-- What is shown of a buffer is a part of it.
use Prim.Native.Nat.{ℕ, ◌/◌, ◌≤◌}
use mathlib.Core.Bool.{Bool, true, false, cond}
use mathlib.Core.List.{List, ◌++◌}
use mathlib.Core.Path.{◌≡◌, sym, ap, ◌∙◌}
use native.Mathlib.Omega.{arith}
use lib.Dec.{ltb}
use lib.ListN.{length, drop, length-append}
use Rattle.answer.specs.Answer.{given, refused}
use Rattle.answer.specs.Refusal.{bad_program}
use Rattle.little_endian.proofs.Numbers.{words-length}
use Rattle.program.specs.Program.{bad_bytes, program_in}
use Rattle.intel_hex.specs.Export.{Export, exports, exported, export_text, export_into}
use Rattle.intel_hex.specs.File.{Image, image, no_image, image_of}
use Rattle.intel_hex.specs.Import.{Import, imports, imported, import_image, import_into}
use Rattle.std.specs.Prelude.{Result, Ok}
use Rattle.answer.specs.declared.refusal.Refusal.{Refusal}
use Rattle.answer.specs.declared.refusal.RefusedLine.{RefusedLine}

-- the words of a file
pub words-within : (r : Result ℕ RefusedLine) (text buffer l : List ℕ) (n : ℕ) → imported r l ≡ import_into text buffer → r ≡ Ok n → n ≤ length l
words-within r text buffer l n e f = by-image (image_of text) (ap (λ (x : Result ℕ RefusedLine). imported x l) (sym f) ∙ e)
  where
    by-image : (i : Image) → imports (given n) 0 l ≡ import_image i buffer → n ≤ length l
    by-image (no_image number line) e = let f = ap (λ (x : Import). x.answer) e in let z : ◌≡◌ {A = ℕ} 0 1 = cc in absurd (omega arith)
    by-image (image bs) e = go (bad_bytes (length bs)) (ltb (length buffer) (length bs / 4)) e
      where
        go : (p q : Bool) → imports (given n) 0 l ≡ cond p (imports (refused 1) 0 buffer)
            (cond q (imports (refused 18) 0 buffer) (imports (given (length bs / 4)) 0 (program_in bs ++ drop (length bs / 4) buffer))) → n ≤ length l
        go true q e = let f = ap (λ (x : Import). x.answer) e in let z : ◌≡◌ {A = ℕ} 0 1 = cc in absurd (omega arith)
        go false true e = let f = ap (λ (x : Import). x.answer) e in let z : ◌≡◌ {A = ℕ} 0 1 = cc in absurd (omega arith)
        go false false e =
            let f = ap (λ (x : Import). x.answer) e in
            let g : n ≡ length bs / 4 = cc in
            let h : l ≡ program_in bs ++ drop (length bs / 4) buffer = ap (λ (x : Import). x.words) e in
            omega (arith, ap length h, length-append (program_in bs) (drop (length bs / 4) buffer), words-length (length bs / 4) bs)

-- the text of a program
pub text-within : (r : Result ℕ Refusal) (words buffer l : List ℕ) (n : ℕ) → exported r l ≡ export_into words buffer → r ≡ Ok n → n ≤ length l
unfolding export_into
text-within r words buffer l n e f = go (bad_program (length words)) (ltb (length buffer) (length (export_text words))) (ap (λ (x : Result ℕ Refusal). exported x l) (sym f) ∙ e)
  where
    go : (p q : Bool) → exports (given n) l ≡ cond p (exports (refused 1) buffer)
        (cond q (exports (refused 18) buffer) (exports (given (length (export_text words))) (export_text words ++ drop (length (export_text words)) buffer))) → n ≤ length l
    go true q e = let f = ap (λ (x : Export). x.answer) e in let z : ◌≡◌ {A = ℕ} 0 1 = cc in absurd (omega arith)
    go false true e = let f = ap (λ (x : Export). x.answer) e in let z : ◌≡◌ {A = ℕ} 0 1 = cc in absurd (omega arith)
    go false false e =
        let f = ap (λ (x : Export). x.answer) e in
        let g : n ≡ length (export_text words) = cc in
        let h : l ≡ export_text words ++ drop (length (export_text words)) buffer = ap (λ (x : Export). x.text) e in
        omega (arith, ap length h, length-append (export_text words) (drop (length (export_text words)) buffer))
