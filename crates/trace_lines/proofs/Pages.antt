-- The lines of a page, one behind the other.
use Prim.Native.Nat.{ℕ, suc, ◌+◌, ◌<◌, ◌≤◌}
use mathlib.Core.List.{List, [], ◌∷◌, ◌++◌, append-nil, append_assoc}
use mathlib.Core.Path.{◌≡◌, sym, ap, ◌∙◌}
use native.Mathlib.Omega.{arith}
use lib.ListN.{length, take, get_or}
use lib.Seq.{length-take-le, take-suc, take_all}
use Rattle.text.proofs.Parts.{after}
use Rattle.text.specs.Buffer.{Wrote, wrote, writes}
use Rattle.text.specs.Parts.{puts_all}
use Rattle.trace_lines.specs.Lines.{line_parts, page_parts, page_text}
use Rattle.trace_lines.specs.Types.{Row}
use Rattle.trace_lines.proofs.Lengths.{page-whole}

-- one line more
line-more : (made : ℕ) (rs : List Row) (r : Row) → page_parts made (rs ++ r ∷ []) ≡ page_parts made rs ++ line_parts (made + length rs + 1) r
unfolding page_parts
line-more made [] r =
    append-nil (line_parts (made + 1) r) ∙ ap (λ k. line_parts k r) (let e : made + 1 ≡ made + 0 + 1 = omega arith in e)
line-more made (y ∷ rs) r =
    ap (λ (l : List (List ℕ)). line_parts (made + 1) y ++ l) (line-more (made + 1) rs r)
    ∙ sym (append_assoc (line_parts (made + 1) y) (page_parts (made + 1) rs) (line_parts (made + 1 + length rs + 1) r))
    ∙ ap (λ k. line_parts (made + 1) y ++ page_parts (made + 1) rs ++ line_parts k r)
    (let e : made + 1 + length rs + 1 ≡ made + suc (length rs) + 1 = omega arith in e)

-- a turn of the loop
pub page-more : (w : Wrote) {w₁ w₂ : Wrote} (made : ℕ) (rs : List Row) (i : ℕ) (d : Row) → i < length rs
    → w₁ ≡ puts_all w (page_parts made (take i rs)) → w₂ ≡ puts_all w₁ (line_parts (made + i + 1) (get_or rs i d))
    → w₂ ≡ puts_all w (page_parts made (take (suc i) rs))
page-more w made rs i d h e f =
    after w (page_parts made (take i rs)) (line_parts (made + i + 1) (get_or rs i d)) e f
    ∙ ap (λ k. puts_all w (page_parts made (take i rs) ++ line_parts (made + k + 1) (get_or rs i d)))
    (sym (length-take-le i rs (let l : i ≤ length rs = omega arith in l)))
    ∙ ap (puts_all w) (sym (line-more made (take i rs) (get_or rs i d)))
    ∙ ap (λ (l : List Row). puts_all w (page_parts made l)) (sym (take-suc rs i d h))

-- where a page has no more rows than are asked for, all are shown
pub all_shown : (l : List ℕ) (made count : ℕ) (rs : List Row) → length l ≡ 6784 → length rs ≡ 64 → length rs ≤ count
    → puts_all (wrote 0 l) (page_parts made rs) ≡ writes l 0 (page_text made (take count rs))
all_shown l made count rs e h more =
    ap (λ (k : List Row). puts_all (wrote 0 l) (page_parts made k)) (sym (take_all count rs more)) ∙ page-whole l made count rs e h
