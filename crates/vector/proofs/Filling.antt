-- Arrays that a loop fills place by place: the law of every such loop, and of `tab`.
use mathlib.Core.Path.{◌≡◌, refl, sym, ◌∙◌, subst}
use mathlib.Core.List.{List, [], ◌∷◌, ◌++◌}
use Prim.Native.Nat.{ℕ, zero, suc, ◌+◌, ◌≤◌, ◌<◌}
use native.Mathlib.Numerals.{add-one}
use native.Mathlib.Omega.{arith}
use native.Mathlib.Nat.{le_of_eq}
use lib.ListN.{length, take, set, get_or, length-set, length-append, get_or-append}
use lib.Seq.{take-suc-set, take_all, get_or_at}
use mathlib.Core.Bool.{Bool, true, false}
use lib.Dec.{ltb}
use borrow.Author.Tests.{ltb-true, ltb-false}
use denote.Param.Members.{Mut, Called}
use Rattle.std.proofs.lemmas.List.{ext_get_or}
use Rattle.std.specs.Array.{IsFromFnResult, IsFromFnResultFrom}
use Rattle.vector.specs.Lanes.{tab, binary_lanes, unary_lanes, shuffled, blended, splatted}
use Rattle.vector.specs.Claims.{TabLength, TabLane, SixteenLanes}

pub tab-length : TabLength
unfolding tab
tab-length zero f = refl
tab-length (suc n) f = length-append (tab n f) (f n ∷ []) ∙ omega (arith, tab-length n f)

pub tab-lane : TabLane
unfolding tab
tab-lane zero j f h = absurd (omega arith)
tab-lane (suc n) j f h = go (ltb j n) refl (tab-lane n j f)
  where
    go : (t : Bool) → ltb j n ≡ t → (j < n → get_or (tab n f) j 0 ≡ f j) → get_or (tab n f ++ f n ∷ []) j 0 ≡ f j
    go true e ih =
        let l : j < n = ltb-true j n e in
        get_or-append (tab n f) (f n ∷ []) 0 j (omega (arith, tab-length n f)) ∙ ih l
    go false e ih =
        let i : j ≡ n = omega (arith, ltb-false j n e) in
        rw i (get_or_at (tab n f) (f n) [] 0 n (tab-length n f))

pub sixteen-lanes : SixteenLanes
unfolding binary_lanes unary_lanes shuffled blended splatted
sixteen-lanes = record {
  of-binary = λ op x y. tab-length 16 _;
  of-unary = λ op x. tab-length 16 _;
  of-shuffle = λ x y. tab-length 16 _;
  of-blend = λ mask new old. tab-length 16 _;
  of-splat = λ x. tab-length 16 _;
}

-- a list that holds what is given for each place
pub tab-of : (n : ℕ) (f : ℕ → ℕ) (r : List ℕ) → length r ≡ n → ((j : ℕ) → j < n → get_or r j 0 ≡ f j) → r ≡ tab n f
tab-of n f r e h = ext_get_or 0 r (tab n f) (e ∙ sym (tab-length n f)) (λ j l. h j (omega arith) ∙ sym (tab-lane n j f (omega arith)))

-- what `array::from_fn` makes, of a closure that answers f j at j, and that a call leaves as it is
module _ {F : Type 0} (g : Mut F (ℕ × Unit {0}) ℕ) (c : F) (n : ℕ) (f : ℕ → ℕ) (h : (j x : ℕ) (d : F) → j < n → Called g c (j, tt) x d → (x ≡ f j) × (d ≡ c)) where
  held : (r : List ℕ) (d : F) (i k : ℕ) → d ≡ c → i + k ≤ n → IsFromFnResultFrom g d r i k → (j : ℕ) → i ≤ j → j < i + k → get_or r j 0 ≡ f j
  held r d i zero e l t j p q = absurd (omega arith)
  held r d i (suc k) e l t j p q =
      let one = h i t.1 t.0 (omega arith) (subst (λ (b : F). Called g b (i, tt) t.1 t.0) e t.3) in
      go (ltb i j) refl (λ w. held r t.0 (i + 1) k one.1 (omega arith) t.4 j w (omega arith)) (t.2.1 0 ∙ one.0)
    where
      go : (u : Bool) → ltb i j ≡ u → (i + 1 ≤ j → get_or r j 0 ≡ f j) → get_or r i 0 ≡ f i → get_or r j 0 ≡ f j
      go true m later here = let w : i < j = ltb-true i j m in later (omega arith)
      go false m later here = let w : j ≡ i = omega (arith, ltb-false i j m) in rw w here

  pub filled : {r : List ℕ} → IsFromFnResult g c r n → r ≡ tab n f
  filled {r} t = tab-of n f r t.long (λ j l. held r c 0 n refl (omega arith) t.each j (omega arith) (omega arith))

-- the first j of the n places of r hold f 0, .., f (j - 1)
pub record Filling (n : ℕ) (f : ℕ → ℕ) (r : List ℕ) (j : ℕ) : Type 0 where
  pub size : length r ≡ n
  pub within : j ≤ n
  pub done : take j r ≡ tab j f

pub start : {n : ℕ} (f : ℕ → ℕ) (r : List ℕ) → length r ≡ n → Filling n f r 0
unfolding tab
start f r e = record { size = e; within = omega arith; done = refl }

module _ {n : ℕ} {f : ℕ → ℕ} {r : List ℕ} {j : ℕ} (h : Filling n f r j) where
  pub more : {x : ℕ} → j < n → x ≡ f j → Filling n f (set r j x) (j + 1)
  unfolding tab
  more {x} l e = record {
    size = length-set r j x ∙ h.size;
    within = omega arith;
    done = rw (add-one j, take-suc-set r j x (let p : j < length r = omega (arith, h.size) in p), h.done, e);
  }

  pub whole : n ≤ j → r ≡ tab n f
  whole l =
      let e : j ≡ n = omega (arith, h.within) in
      sym (take_all n r (le_of_eq h.size)) ∙ (rw e at h.done)
