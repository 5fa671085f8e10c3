-- Places in a line: what is left of it falls.
use Prim.Native.Nat.{ℕ, ◌+◌, ◌-◌, ◌*◌, ◌<◌, ◌≤◌}
use mathlib.Core.Path.{◌≡◌}
use native.Mathlib.Omega.{arith}
use Rattle.expression.specs.Types.{Value}
use Rattle.expression.specs.Reading.{Advances, ParsedInRange, AdvancesPast}
use Rattle.std.specs.Prelude as code
use Rattle.std.specs.Prelude.{Some, None}

-- a sum goes on behind a term and a sign
pub later : (n at behind after t : ℕ) → 2 * (n - at) + 1 ≡ t → at < behind → behind < after → after ≤ n → 2 * (n - after) + 1 < t
later n at behind after t e h k l = omega arith

-- a sum stands behind a parenthesis
pub deeper : (n at behind first t : ℕ) → 2 * (n - at) ≡ t → at < behind → behind ≤ n → behind ≤ first → 2 * (n - first) + 1 < t
deeper n at behind first t e h k l = omega arith

pub ahead-on : (at after n : ℕ) (r : code.Option (Value × ℕ)) → at < after → Advances after n r → Advances at n r
ahead-on at after n (Some (v, next)) h k = (omega arith, k.1, k.2)
ahead-on at after n None h k = k

pub ahead-from : (at start n : ℕ) (r : code.Option (Value × ℕ)) → at ≤ start → Advances start n r → Advances at n r
ahead-from at start n (Some (v, next)) h k = (omega arith, k.1, k.2)
ahead-from at start n None h k = k

pub held_in : (at n : ℕ) (r : code.Option (Value × ℕ)) → Advances at n r → ParsedInRange r
held_in at n (Some (v, next)) h = h.2
held_in at n None h = h

pub further : (at first n : ℕ) (inside r : code.Option (Value × ℕ)) → at < first → Advances first n inside → AdvancesPast n inside r → Advances at n r
further at first n (Some (v, next)) (Some (w, after)) h i k = (omega arith, k.1, k.2)
further at first n (Some (v, next)) None h i k = k
further at first n None (Some (w, after)) h i k = absurd (let z : ◌≡◌ {A = ℕ} 0 1 = cc in omega arith)
further at first n None None h i k = omega arith
