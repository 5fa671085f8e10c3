-- The text of an answer has room in the buffer of 33 bytes.
use Prim.Native.Nat.{ℕ, ◌≤◌}
use mathlib.Core.List.{List}
use mathlib.Core.Path.{◌≡◌}
use native.Mathlib.Omega.{arith}
use lib.ListN.{length}
use Rattle.isa.specs.Text.{bytes}
use Rattle.text.proofs.Lengths.{decimal-small}
use Rattle.text.proofs.Parts.{puts_whole, total, length-concat}
use Rattle.text.specs.Buffer.{wrote, writes}
use Rattle.text.specs.Parts.{concat, puts_all}
use Rattle.minute_lines.specs.Answers.{report_parts, refusal_parts}

report-small : (minute skipped relays : ℕ) → total (report_parts minute skipped relays) ≤ 33
unfolding report_parts bytes
report-small minute skipped relays = omega (arith, decimal-small minute, decimal-small skipped, decimal-small relays)

refusal-small : (number : ℕ) → total (refusal_parts number) ≤ 33
unfolding refusal_parts bytes
refusal-small number = omega (arith, decimal-small number)

pub report-whole : (l : List ℕ) (minute skipped relays : ℕ) → length l ≡ 33
    → puts_all (wrote 0 l) (report_parts minute skipped relays) ≡ writes l 0 (concat (report_parts minute skipped relays))
report-whole l minute skipped relays e =
    let parts = report_parts minute skipped relays in
    puts_whole l parts (omega (arith, e, length-concat parts, report-small minute skipped relays))

pub refusal-whole : (l : List ℕ) (number : ℕ) → length l ≡ 33
    → puts_all (wrote 0 l) (refusal_parts number) ≡ writes l 0 (concat (refusal_parts number))
refusal-whole l number e = let parts = refusal_parts number in puts_whole l parts (omega (arith, e, length-concat parts, refusal-small number))
