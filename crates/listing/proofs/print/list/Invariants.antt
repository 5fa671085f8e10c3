-- `list` meets its contract: after k turns the lines of the first k words stand behind the header.
use mathlib.Core.Path.{◌≡◌}
use Rattle.text.specs.Buffer.{wrote, writes}
use Rattle.listing.specs.Listing.{lines}
use Rattle.listing.proofs.print.list.Given as goal

abbrev pub invariant-loop-k : goal.invariant-loop-k
invariant-loop-k l = wrote l.at l.out ≡ writes l.initial.out l.initial.at (lines l.input l.k)
