-- How long a line and a page can be.
use Prim.Native.Nat.{ℕ, zero, suc, ◌+◌, ◌*◌, ◌≤◌}
use mathlib.Core.Bool.{Bool, true, false, ◌&&◌, cond}
use mathlib.Core.List.{List, [], ◌∷◌, ◌++◌}
use mathlib.Core.Path.{◌≡◌}
use native.Mathlib.Omega.{arith}
use lib.Dec.{eqb, lit≤}
use lib.ListN.{length, take, length-append}
use Rattle.isa.specs.Text.{bytes}
use Rattle.listing.proofs.Lengths.{length-line}
use Rattle.listing.specs.Listing.{label, columns_of, line}
use Rattle.text.proofs.Lengths.{decimal-small, decimal-long-small}
use Rattle.text.proofs.Parts.{puts_whole, total, total-append, length-concat}
use Rattle.text.specs.Buffer.{wrote, writes}
use Rattle.text.specs.Parts.{puts_all}
use Rattle.thread_lines.proofs.Lengths.{counter-length, reason-small}
use Rattle.trace_lines.specs.Lines.{status_parts, is_outside, name_in, head_parts, line_parts, page_parts, page_text}
use Rattle.trace_lines.specs.Types.{Status, Idle, Running, Ended, Trapped, Waiting, Row}

status-small : (s : Status) → total (status_parts s) ≤ 44
unfolding bytes
status-small Idle = lit≤ tt
status-small Running = lit≤ tt
status-small Ended = lit≤ tt
status-small (Trapped number) = omega (arith, reason-small number)
status-small (Waiting id count) = omega (arith, decimal-small id, decimal-small count)

-- a line of the lister has eighteen bytes before the name, and one behind it
label_small : (word : ℕ) → length (label word) ≤ 10
unfolding line columns_of bytes
label_small word =
    omega (
      arith,
      length-line 0 word,
      length-append (columns_of 0 word ++ label word) (bytes "\n"),
      length-append (columns_of 0 word) (label word),
    )

name-small : (word : ℕ) (s : Status) → length (name_in word s) ≤ 10
unfolding name_in bytes
name-small word s = go (eqb word 0 && is_outside s)
  where
    go : (b : Bool) → length (cond b (bytes "-") (label word)) ≤ 10
    go true = lit≤ tt
    go false = label_small word

line_small : (issue : ℕ) (r : Row) → total (line_parts issue r) ≤ 106
unfolding line_parts bytes
line_small issue r =
    omega (
      arith,
      total-append (head_parts issue r) (status_parts r.status),
      total-append (status_parts r.status) (bytes "\n" ∷ []),
      decimal-long-small issue,
      decimal-small r.thread,
      counter-length r.address,
      counter-length r.word,
      name-small r.word r.status,
      status-small r.status,
    )

page-small : (made : ℕ) (rs : List Row) → total (page_parts made rs) ≤ 106 * length rs
unfolding page_parts
page-small made [] = lit≤ tt
page-small made (r ∷ rs) =
    omega (arith, total-append (line_parts (made + 1) r) (page_parts (made + 1) rs), line_small (made + 1) r, page-small (made + 1) rs)

take-few : (n : ℕ) (rs : List Row) → length (take n rs) ≤ length rs
take-few zero [] = lit≤ tt
take-few zero (r ∷ rs) = omega arith
take-few (suc n) [] = lit≤ tt
take-few (suc n) (r ∷ rs) = omega (arith, take-few n rs)

-- the first rows of a page have room in the buffer
pub page-whole : (l : List ℕ) (made n : ℕ) (rs : List Row) → length l ≡ 6784 → length rs ≡ 64
    → puts_all (wrote 0 l) (page_parts made (take n rs)) ≡ writes l 0 (page_text made (take n rs))
unfolding page_text
page-whole l made n rs e h =
    let parts = page_parts made (take n rs) in
    puts_whole l parts (omega (arith, e, h, length-concat parts, page-small made (take n rs), take-few n rs))
