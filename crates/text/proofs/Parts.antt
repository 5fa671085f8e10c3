-- Parts put one behind the other are one text, as long as all of them.
use Prim.Native.Nat.{ℕ, ◌+◌, ◌≤◌}
use mathlib.Core.List.{List, [], ◌∷◌, ◌++◌, append_assoc, append-nil}
use mathlib.Core.Path.{◌≡◌, refl, ◌∙◌, ap}
use native.Mathlib.Omega.{arith}
use lib.ListN.{length, length-append}
use Rattle.text.specs.Buffer.{Wrote, wrote, writes, puts}
use Rattle.text.specs.Parts.{concat, puts_all}
use Rattle.text.proofs.Placing.{puts-fits, writes-none}

puts-append : (w : Wrote) (us ts : List (List ℕ)) → puts_all (puts_all w us) ts ≡ puts_all w (us ++ ts)
puts-append w [] ts = refl
puts-append w (u ∷ us) ts = puts-append (puts w u) us ts

-- parts put behind parts
pub after : (w : Wrote) {w₁ w₂ : Wrote} (us ts : List (List ℕ)) → w₁ ≡ puts_all w us → w₂ ≡ puts_all w₁ ts → w₂ ≡ puts_all w (us ++ ts)
after w us ts e f = f ∙ ap (λ (x : Wrote). puts_all x ts) e ∙ puts-append w us ts

puts-more : (l : List ℕ) (at : ℕ) (t : List ℕ) (ts : List (List ℕ)) → at + length (t ++ concat ts) ≤ length l → puts_all (writes l at t) ts ≡ writes l at (t ++ concat ts)
unfolding concat
puts-more l at t [] fits = rw (append-nil t)
puts-more l at t (u ∷ ts) fits =
    let h : at + length t + length u ≤ length l = omega (arith, length-append t (u ++ concat ts), length-append u (concat ts)) in
    let g : at + length (t ++ u ++ concat ts) ≤ length l = rw (append_assoc t u (concat ts)) fits in
    ap (λ (x : Wrote). puts_all x ts) (puts-fits l at t u h) ∙ puts-more l at (t ++ u) ts g ∙ rw (append_assoc t u (concat ts))

-- parts that have room at the start
pub puts_whole : (l : List ℕ) (ts : List (List ℕ)) → length (concat ts) ≤ length l → puts_all (wrote 0 l) ts ≡ writes l 0 (concat ts)
puts_whole l ts fits = ap (λ (x : Wrote). puts_all x ts) (writes-none l 0) ∙ puts-more l 0 [] ts (omega arith)

-- the bytes of all parts
abbrev pub total : List (List ℕ) → ℕ
total [] = 0
total (part ∷ parts) = length part + total parts

pub length-concat : (parts : List (List ℕ)) → length (concat parts) ≡ total parts
unfolding concat
length-concat [] = refl
length-concat (part ∷ parts) = length-append part (concat parts) ∙ ap (λ (n : ℕ). length part + n) (length-concat parts)

pub total-append : (parts more : List (List ℕ)) → total (parts ++ more) ≡ total parts + total more
total-append [] more = omega arith
total-append (part ∷ parts) more = omega (arith, total-append parts more)
