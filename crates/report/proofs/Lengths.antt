-- The longest text has room.
use Prim.Native.Nat.{ℕ, ◌≤◌}
use mathlib.Core.Bool.{Bool, true, false, cond}
use mathlib.Core.List.{List}
use mathlib.Core.Path.{◌≡◌}
use native.Mathlib.Omega.{arith}
use lib.Dec.{eqb, lit≤}
use lib.ListN.{length}
use Rattle.isa.specs.Text.{bytes}
use Rattle.text.proofs.Lengths.{decimal-small, decimal-long-small}
use Rattle.text.specs.Buffer.{wrote, writes}
use Rattle.text.proofs.Parts.{puts_whole, total, length-concat}
use Rattle.thread_lines.proofs.Lengths.{threads-small}
use Rattle.text.specs.Parts.{concat, puts_all}
use Rattle.report.specs.Report.{counted, body_parts, looks_parts}
use Rattle.report.specs.Types.{Machine}

counted-small : (n : ℕ) → length (counted n) ≤ 8
unfolding counted bytes
counted-small n = go (eqb n 1)
  where
    go : (b : Bool) → length (cond b (bytes " issue\n") (bytes " issues\n")) ≤ 8
    go true = lit≤ tt
    go false = lit≤ tt

body-small : (word : List ℕ) (issues : ℕ) (m : Machine) (registers : List ℕ) → length word ≤ 7 → total (body_parts word issues m registers) ≤ 877
unfolding bytes
body-small word issues m registers h = omega (arith, h, decimal-small issues, counted-small issues, threads-small m registers)

-- a text whose first word is short has room
pub body-whole : (l word : List ℕ) (issues : ℕ) (m : Machine) (registers : List ℕ) → length l ≡ 877 → length word ≤ 7 →
    puts_all (wrote 0 l) (body_parts word issues m registers) ≡ writes l 0 (concat (body_parts word issues m registers))
body-whole l word issues m registers e h =
    let parts = body_parts word issues m registers in
    puts_whole l parts (omega (arith, e, length-concat parts, body-small word issues m registers h))

-- and so has the line of looks
looks-small : (looks : ℕ) → total (looks_parts looks) ≤ 27
unfolding bytes
looks-small looks = omega (arith, decimal-long-small looks)

pub looks-whole : (l : List ℕ) (looks : ℕ) → length l ≡ 27 → puts_all (wrote 0 l) (looks_parts looks) ≡ writes l 0 (concat (looks_parts looks))
looks-whole l looks e = puts_whole l (looks_parts looks) (omega (arith, e, length-concat (looks_parts looks), looks-small looks))
