-- What is shown of a buffer is a part of it.
use Prim.Native.Nat.{ℕ, ◌≤◌}
use mathlib.Core.List.{List}
use mathlib.Core.Path.{◌≡◌}
use lib.ListN.{length}
use Rattle.listing.specs.Listing.{listing, printed}
use Rattle.text.proofs.Shown.{text-within}
use Rattle.text.specs.Buffer.{wrote}

pub within : (input l : List ℕ) (r : ℕ) (b : List ℕ) → wrote r b ≡ printed input l → r ≤ length b
within input l r b e = text-within l (listing input) r b e
