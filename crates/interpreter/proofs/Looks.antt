-- Laws of how many entries the chooser looks at.
use Prim.Native.Nat.{◌+◌, ◌*◌, ◌≤◌}
use mathlib.Core.List.{List, [], ◌∷◌, ◌++◌}
use mathlib.Core.Path.{◌≡◌, refl}
use native.Mathlib.Omega.{arith}
use lib.ListN.{length}
use Rattle.machine.proofs.Claims.{chooses}
use Rattle.std.specs.Prelude.{Some, None}
use Rattle.machine.specs.Scheduler.{Choice, choice}
use Rattle.machine.specs.State.{State}
use Rattle.interpreter.specs.Choosing.{Issue, entries_to, look, looks_for}

-- 1 to 8 in a state
pub look-bounds : (s : State) → (1 ≤ look s) × (look s ≤ 8)
unfolding look
look-bounds s = go (choice s.machine) refl
  where
    go : (c : Choice) → choice s.machine ≡ c → (1 ≤ entries_to c) × (entries_to c ≤ 8)
    go (Some x) h = let f = (chooses s.machine x.thread x.distance).0 h in (f.low, f.high)
    go None h = (omega arith, omega arith)

-- and for each issue
pub looks-bounds : (is : List Issue) → (length is ≤ looks_for is) × (looks_for is ≤ 8 * length is)
unfolding looks_for
looks-bounds [] = (omega arith, omega arith)
looks-bounds (i ∷ is) =
    let h = look-bounds i.before in
    let k = looks-bounds is in
    (omega (arith, h.0, k.0), omega (arith, h.1, k.1))

-- of two rows of issues
pub looks-append : (a b : List Issue) → looks_for (a ++ b) ≡ looks_for a + looks_for b
unfolding looks_for
looks-append [] b = omega arith
looks-append (i ∷ a) b = let h = looks-append a b in omega (arith, h)
