-- The law of the loops that change memory step by step.
use mathlib.Core.Path.{◌≡◌, refl, ap, ◌∙◌}
use mathlib.Core.List.{List}
use Prim.Native.Nat.{ℕ, ◌+◌, ◌≤◌, ◌<◌}
use native.Mathlib.Numerals.{add-one}
use native.Mathlib.Omega.{arith}
use lib.ListN.{length}
use Rattle.vector.specs.Lanes.{each}

-- r is m after the first j of n steps
pub record Stepping (n : ℕ) (g : ℕ → List ℕ → List ℕ) (m r : List ℕ) (j : ℕ) : Type 0 where
  pub size : length r ≡ length m
  pub within : j ≤ n
  pub made : r ≡ each j g m

pub start : (n : ℕ) (g : ℕ → List ℕ → List ℕ) (m : List ℕ) → Stepping n g m m 0
unfolding each
start n g m = record { size = refl; within = omega arith; made = refl }

module _ {n : ℕ} {g : ℕ → List ℕ → List ℕ} {m r : List ℕ} {j : ℕ} (h : Stepping n g m r j) where
  pub more : {s : List ℕ} → j < n → length s ≡ length r → s ≡ g j r → Stepping n g m s (j + 1)
  unfolding each
  more l k e = record { size = k ∙ h.size; within = omega arith; made = rw add-one (e ∙ ap (g j) h.made) }

  pub whole : n ≤ j → r ≡ each n g m
  whole l = let e : j ≡ n = omega (arith, h.within) in rw e at h.made
