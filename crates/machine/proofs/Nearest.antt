-- The first number that passes a test, found by a search and as the lowest set bit.
use Prim.Native.Nat.{ℕ, zero, suc, ◌+◌, ◌*◌, ◌/◌, ◌%◌, ◌^◌, ◌<◌, ◌≤◌}
use mathlib.Core.Bool.{Bool, true, false, cond}
use Rattle.std.specs.Prelude.{Option, Some, None}
use mathlib.Core.Path.{◌≡◌, refl, sym, ap, ◌∙◌}
use native.Mathlib.Decide.{ℕ_discrete, dec_lt}
use native.Mathlib.Nat.{pow-succ'}
use native.Mathlib.Omega.{arith}
use lib.Count.{under, count_trailing_zeros}
use borrow.Author.Tests.{lt-ltb, le-ltb}
use lib.Dec.{ltb, leb-suc-suc}
use lib.Pow.{shr-shr}
use Rattle.machine.specs.Search.{first, mask_of}
use Rattle.machine.proofs.Loops.{from}
use Rattle.machine.proofs.Tests.{never}

-- d is the first number from k up that passes
pub record Nearest (p : ℕ → Bool) (k d : ℕ) : Type 0 where
  pub after : k ≤ d
  pub passes : p d ≡ true
  pub before : (j : ℕ) → k ≤ j → j < d → p j ≡ false

-- no number from k up, n of them, passes
abbrev pub Nowhere : (ℕ → Bool) → ℕ → ℕ → Type 0
Nowhere p k n = (j : ℕ) → k ≤ j → j < k + n → p j ≡ false

-- the number from k up at which the lowest set bit stands, if it is among the first n
unfoldable pub lowest : ℕ → ℕ → ℕ → Option ℕ
lowest k n zeros = cond (ltb zeros n) (Some (k + zeros)) None

lowest-suc : (k n zeros : ℕ) → lowest (suc k) n zeros ≡ lowest k (suc n) (suc zeros)
unfolding lowest
lowest-suc k n zeros = let e : suc k + zeros ≡ k + suc zeros = omega arith in rw (e, leb-suc-suc (suc zeros) n)

module _ (p : ℕ → Bool) where
  -- what is known of k, and of the numbers after it
  none_more : (k n : ℕ) → p k ≡ false → Nowhere p (suc k) n → Nowhere p k (suc n)
  none_more k n h rest j a b = at (ℕ_discrete j k)
    where
      at : Dec (j ≡ k) → p j ≡ false
      at (yes e) = ap p e ∙ h
      at (no e) = rest j (omega (arith, e)) (omega arith)

  later : (k d : ℕ) → p k ≡ false → Nearest p (suc k) d → Nearest p k d
  later k d h r = record { after = omega (arith, r.after); passes = r.passes; before = λ j a b. at j a b (ℕ_discrete j k) }
    where
      at : (j : ℕ) → k ≤ j → j < d → Dec (j ≡ k) → p j ≡ false
      at j a b (yes e) = ap p e ∙ h
      at j a b (no e) = r.before j (omega (arith, e)) b

  -- what a search through n numbers from k up answers
  abbrev pub Found : ℕ → ℕ → Option ℕ → Type 0
  Found k n None = Nowhere p k n
  Found k n (Some d) = Nearest p k d × (d < k + n)

  pub found : (k n : ℕ) → Found k n (first p (from k n))
  unfolding first from
  found k zero = λ j a b. absurd (omega arith)
  found k (suc n) = go (p k) refl (first p (from (suc k) n)) (found (suc k) n)
    where
      go : (b : Bool) → p k ≡ b → (r : Option ℕ) → Found (suc k) n r → Found k (suc n) (cond b (Some k) r)
      go true h r f = (record { after = omega arith; passes = h; before = λ j a b. absurd (omega arith) }, omega arith)
      go false h None f = none_more k n h f
      go false h (Some d) f = (later k d h f.0, omega (arith, f.1))

  -- there is one answer
  same : (k d e : ℕ) → Nearest p k d → Nearest p k e → d ≡ e
  same k d e a b = go (dec_lt d e) (dec_lt e d)
    where
      go : Dec (d < e) → Dec (e < d) → d ≡ e
      go (yes l) r = never a.passes (b.before d a.after l)
      go (no l) (yes g) = never b.passes (a.before e b.after g)
      go (no l) (no g) = omega (arith, l, g)

  pub first-at : (k n d : ℕ) → Nearest p k d → d < k + n → first p (from k n) ≡ Some d
  first-at k n d h l = go (first p (from k n)) (found k n)
    where
      go : (r : Option ℕ) → Found k n r → r ≡ Some d
      go None f = never h.passes (f d h.after l)
      go (Some e) f = ap Some (same k e d f.0 h)

  pub first-nowhere : (k n : ℕ) → Nowhere p k n → first p (from k n) ≡ None
  first-nowhere k n h = go (first p (from k n)) (found k n)
    where
      go : (r : Option ℕ) → Found k n r → r ≡ None
      go None f = refl
      go (Some e) f = never f.0.passes (h e f.0.after f.1)

  -- the bits of the answers: one more halved away, none set, and how large they are
  mask_of-half : (k n : ℕ) → mask_of p (from k (suc n)) / 2 ≡ mask_of p (from (suc k) n)
  unfolding mask_of from
  mask_of-half k n = go (p k)
    where
      go : (b : Bool) → (cond b 1 0 + 2 * mask_of p (from (suc k) n)) / 2 ≡ mask_of p (from (suc k) n)
      go true = omega arith
      go false = omega arith

  pub mask_of-odd : (k n : ℕ) → mask_of p (from k (suc n)) % 2 ≡ cond (p k) 1 0
  unfolding mask_of from
  mask_of-odd k n = go (p k)
    where
      go : (b : Bool) → (cond b 1 0 + 2 * mask_of p (from (suc k) n)) % 2 ≡ cond b 1 0
      go true = omega arith
      go false = omega arith

  pub mask_of-lt : (k n : ℕ) → mask_of p (from k n) < 2 ^ n
  unfolding mask_of from
  mask_of-lt k zero = omega arith
  mask_of-lt k (suc n) = go (p k) (mask_of-lt (suc k) n)
    where
      go : (b : Bool) → mask_of p (from (suc k) n) < 2 ^ n → cond b 1 0 + 2 * mask_of p (from (suc k) n) < 2 ^ suc n
      go true l = omega (arith, pow-succ' 2 n)
      go false l = omega (arith, pow-succ' 2 n)

  twice-cond : (b : Bool) (x y : ℕ) → y ≡ 2 * x → 2 * cond b x 0 ≡ cond b y 0
  twice-cond true x y e = sym e
  twice-cond false x y e = refl

  -- one more test at the end, whose bit is the highest
  pub mask_of-more : (k n : ℕ) → mask_of p (from k (suc n)) ≡ mask_of p (from k n) + cond (p (k + n)) (2 ^ n) 0
  unfolding mask_of from
  mask_of-more k zero = let e : k + 0 ≡ k = omega arith in rw e (omega arith)
  mask_of-more k (suc n) =
      let e : suc k + n ≡ k + suc n = omega arith in
      let d = twice-cond (p (k + suc n)) (2 ^ n) (2 ^ suc n) (omega (arith, pow-succ' 2 n)) in
      let g : mask_of p (from (suc k) (suc n)) ≡ mask_of p (from (suc k) n) + cond (p (k + suc n)) (2 ^ n) 0 = rw (← e) (mask_of-more (suc k) n) in
      omega arith

  pub mask_of-nowhere : (k n : ℕ) → mask_of p (from k n) ≡ 0 → Nowhere p k n
  unfolding mask_of from
  mask_of-nowhere k zero h = λ j a b. absurd (omega arith)
  mask_of-nowhere k (suc n) h = go (p k) refl h (mask_of-nowhere (suc k) n)
    where
      go : (b : Bool) → p k ≡ b → cond b 1 0 + 2 * mask_of p (from (suc k) n) ≡ 0 → (mask_of p (from (suc k) n) ≡ 0 → Nowhere p (suc k) n) → Nowhere p k (suc n)
      go true e f rest = absurd (omega arith)
      go false e f rest = none_more k n e (rest (omega arith))

  pub nowhere-mask_of : (k n : ℕ) → Nowhere p k n → mask_of p (from k n) ≡ 0
  unfolding mask_of from
  nowhere-mask_of k zero h = refl
  nowhere-mask_of k (suc n) h = rw (h k (omega arith) (omega arith)) (omega (arith, nowhere-mask_of (suc k) n (λ j a b. h j (omega arith) (omega arith))))

  trailing-mask_of : (k n w : ℕ) → count_trailing_zeros (suc w) (mask_of p (from k (suc n))) ≡ under (cond (p k) 1 0) (count_trailing_zeros w (mask_of p (from (suc k) n)))
  unfolding count_trailing_zeros
  trailing-mask_of k n w = rw (mask_of-odd k n, mask_of-half k n)

  -- shifted right by j, the bits start j later
  pub mask_of-shift : (j k n : ℕ) → mask_of p (from k (j + n)) / 2 ^ j ≡ mask_of p (from (k + j) n)
  mask_of-shift zero k n =
      let e : 0 + n ≡ n = omega arith in
      let f : k + 0 ≡ k = omega arith in
      rw (e, f) (omega arith)
  mask_of-shift (suc j) k n =
      let e : suc j + n ≡ suc (j + n) = omega arith in
      let f : k + suc j ≡ suc k + j = omega arith in
      let g : suc j ≡ 1 + j = omega arith in
      rw (e, f) (ap (λ i. mask_of p (from k (suc (j + n))) / 2 ^ i) g
      ∙ (sym (shr-shr (mask_of p (from k (suc (j + n)))) 1 j) ∙ (ap (λ x. x / 2 ^ j) (mask_of-half k (j + n)) ∙ mask_of-shift j (suc k) n)))

  -- the search finds the lowest set bit
  pub first-lowest : (k n r w : ℕ) → n ≤ w → first p (from k n) ≡ lowest k n (count_trailing_zeros w (mask_of p (from k (n + r))))
  unfolding first from lowest
  first-lowest k zero r w l = rw (le-ltb (count_trailing_zeros w (mask_of p (from k (0 + r)))) 0 (omega arith))
  first-lowest k (suc n) r zero l = absurd (omega arith)
  first-lowest k (suc n) r (suc w) l =
      let e : suc n + r ≡ suc (n + r) = omega arith in
      rw e (go (p k) (first-lowest (suc k) n r w (omega arith)) ∙ sym (ap (lowest k (suc n)) (trailing-mask_of k (n + r) w)))
    where
      go : (b : Bool) → first p (from (suc k) n) ≡ lowest (suc k) n (count_trailing_zeros w (mask_of p (from (suc k) (n + r))))
          → cond b (Some k) (first p (from (suc k) n)) ≡ lowest k (suc n) (under (cond b 1 0) (count_trailing_zeros w (mask_of p (from (suc k) (n + r)))))
      go true h = let f : k + 0 ≡ k = omega arith in rw (lt-ltb 0 (suc n) (omega arith), f)
      go false h = h ∙ lowest-suc k n (count_trailing_zeros w (mask_of p (from (suc k) (n + r))))

-- the same answers from another start
pub mask_of-same : (p q : ℕ → Bool) (k i n : ℕ) → ((j : ℕ) → p (k + j) ≡ q (i + j)) → mask_of p (from k n) ≡ mask_of q (from i n)
unfolding mask_of from
mask_of-same p q k i zero h = refl
mask_of-same p q k i (suc n) h =
    let a : p k ≡ q i = ap p (omega arith) ∙ (h 0 ∙ ap q (omega arith)) in
    let b = mask_of-same p q (suc k) (suc i) n (λ j. ap p (omega arith) ∙ (h (suc j) ∙ ap q (omega arith))) in
    rw (a, b)
