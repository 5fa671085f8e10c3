-- Laws of tests over the eight threads.
use Prim.Native.Nat.{ℕ, zero, suc, ◌+◌, ◌<◌, ◌≤◌}
use mathlib.Core.Bool.{Bool, true, false, cond, ◌&&◌, ◌||◌, not, and-eq-true_iff}
use mathlib.Core.List.{List, [], ◌∷◌}
use mathlib.Core.Path.{◌≡◌, refl, sym, ap, ◌∙◌}
use native.Mathlib.Decide.{ℕ_discrete}
use native.Mathlib.Omega.{arith}
use borrow.Author.Tests.{not-true, not-false}
use Rattle.machine.specs.Machine.{thread_numbers, all_threads, any_thread, count_threads}
use Rattle.machine.specs.Search.{all, any, count}
use Rattle.machine.proofs.Loops.{from}
use Rattle.machine.proofs.Tests.{never}

module _ (p : ℕ → Bool) where
  all_from : (k n : ℕ) → all p (from k n) ≡ true → (j : ℕ) → k ≤ j → j < k + n → p j ≡ true
  unfolding all from
  all_from k zero h j a b = absurd (omega arith)
  all_from k (suc n) h j a b =
      let e = (and-eq-true_iff (p k) (all p (from (suc k) n))).0 h in
      at (ℕ_discrete j k) e.0 (λ l. all_from (suc k) n e.1 j l (omega arith))
    where
      at : Dec (j ≡ k) → p k ≡ true → (suc k ≤ j → p j ≡ true) → p j ≡ true
      at (yes e) h rest = ap p e ∙ h
      at (no e) h rest = rest (omega (arith, e))

  from_all : (k n : ℕ) → ((j : ℕ) → k ≤ j → j < k + n → p j ≡ true) → all p (from k n) ≡ true
  unfolding all from
  from_all k zero h = refl
  from_all k (suc n) h = rw (h k (omega arith) (omega arith)) (from_all (suc k) n (λ j a b. h j (omega arith) (omega arith)))

  -- every thread passes
  pub all-at : all_threads p ≡ true → (t : ℕ) → t < 8 → p t ≡ true
  unfolding all_threads from
  all-at h t l = all_from 0 8 h t (omega arith) (omega arith)

  pub all-threads : ((t : ℕ) → t < 8 → p t ≡ true) → all_threads p ≡ true
  unfolding all_threads from
  all-threads h = from_all 0 8 (λ t a b. h t (omega arith))

  -- what a search for one that fails answers
  pub all-is : (b : Bool) → (b ≡ true → (t : ℕ) → t < 8 → p t ≡ true) → (((t : ℕ) → t < 8 → p t ≡ true) → b ≡ true) → b ≡ all_threads p
  all-is b there back = go b (all_threads p) refl refl
    where
      go : (c d : Bool) → b ≡ c → all_threads p ≡ d → b ≡ all_threads p
      go true true e f = e ∙ sym f
      go false false e f = e ∙ sym f
      go true false e f = never (all-threads (there e)) f
      go false true e f = never (back (all-at f)) e

module _ (p : ℕ → Bool) where
  -- one passes unless all fail
  any-all : (xs : List ℕ) → any p xs ≡ not (all (λ x. not (p x)) xs)
  unfolding any all
  any-all [] = refl
  any-all (x ∷ xs) = go (p x) (any-all xs)
    where
      go : (b : Bool) → any p xs ≡ not (all (λ y. not (p y)) xs) → (b || any p xs) ≡ not (not b && all (λ y. not (p y)) xs)
      go true e = refl
      go false e = e

  count-few : (k n : ℕ) → count p (from k n) ≤ n
  unfolding count from
  count-few k zero = omega arith
  count-few k (suc n) = go (p k) (count-few (suc k) n)
    where
      go : (b : Bool) → count p (from (suc k) n) ≤ n → cond b (suc (count p (from (suc k) n))) (count p (from (suc k) n)) ≤ suc n
      go true l = omega arith
      go false l = omega arith

  -- there are eight
  pub threads-few : count_threads p ≤ 8
  unfolding count_threads from
  threads-few = count-few 0 8

  -- no thread passes
  pub none-at : any_thread p ≡ false → (t : ℕ) → t < 8 → p t ≡ false
  unfolding any_thread all_threads
  none-at h t l = not-true (p t) (all-at (λ u. not (p u)) (not-false (all_threads (λ u. not (p u))) (sym (any-all thread_numbers) ∙ h)) t l)

  pub no-thread : ((t : ℕ) → t < 8 → p t ≡ false) → any_thread p ≡ false
  unfolding any_thread all_threads
  no-thread h = any-all thread_numbers ∙ ap not (all-threads (λ u. not (p u)) (λ t l. ap not (h t l)))

  any-from : (k n : ℕ) → any p (from k n) ≡ true → (j : ℕ) × (j < k + n) × (p j ≡ true)
  unfolding any from
  any-from k zero h = never h refl
  any-from k (suc n) h = go (p k) refl h (any-from (suc k) n)
    where
      go : (b : Bool) → p k ≡ b → (b || any p (from (suc k) n)) ≡ true
          → (any p (from (suc k) n) ≡ true → (j : ℕ) × (j < suc k + n) × (p j ≡ true)) → (j : ℕ) × (j < k + suc n) × (p j ≡ true)
      go true e l rest = (k, omega arith, e)
      go false e l rest = let r = rest l in (r.0, omega (arith, r.1), r.2)

  -- one thread passes
  pub some-thread : any_thread p ≡ true → (t : ℕ) × (t < 8) × (p t ≡ true)
  unfolding any_thread from
  some-thread h = any-from 0 8 h

  -- what a search through them answers
  pub any-is : (b : Bool) → (b ≡ true → (t : ℕ) × (t < 8) × (p t ≡ true)) → ((t : ℕ) × (t < 8) × (p t ≡ true) → b ≡ true) → b ≡ any_thread p
  any-is b there back = go b (any_thread p) refl refl
    where
      go : (c d : Bool) → b ≡ c → any_thread p ≡ d → b ≡ any_thread p
      go true true e f = e ∙ sym f
      go false false e f = e ∙ sym f
      go true false e f = let x = there e in never x.2 (none-at f x.0 x.1)
      go false true e f = never (back (some-thread f)) e

  count-from : (k n : ℕ) → 0 < count p (from k n) → (j : ℕ) × (j < k + n) × (p j ≡ true)
  unfolding count from
  count-from k zero h = absurd (omega arith)
  count-from k (suc n) h = go (p k) refl h (count-from (suc k) n)
    where
      go : (b : Bool) → p k ≡ b → 0 < cond b (suc (count p (from (suc k) n))) (count p (from (suc k) n))
          → (0 < count p (from (suc k) n) → (j : ℕ) × (j < suc k + n) × (p j ≡ true)) → (j : ℕ) × (j < k + suc n) × (p j ≡ true)
      go true e l rest = (k, omega arith, e)
      go false e l rest = let r = rest l in (r.0, omega (arith, r.1), r.2)

  -- one of those counted
  pub counted : 0 < count_threads p → (t : ℕ) × (t < 8) × (p t ≡ true)
  unfolding count_threads from
  counted h = count-from 0 8 h

module _ (p q : ℕ → Bool) where
  count_less : (k n : ℕ) → ((j : ℕ) → k ≤ j → j < k + n → p j ≡ true → q j ≡ true) → count p (from k n) ≤ count q (from k n)
  unfolding count from
  count_less k zero h = omega arith
  count_less k (suc n) h = go (p k) (q k) (h k (omega arith) (omega arith)) (count_less (suc k) n (λ j a b. h j (omega arith) (omega arith)))
    where
      go : (a b : Bool) → (a ≡ true → b ≡ true) → count p (from (suc k) n) ≤ count q (from (suc k) n)
          → cond a (suc (count p (from (suc k) n))) (count p (from (suc k) n)) ≤ cond b (suc (count q (from (suc k) n))) (count q (from (suc k) n))
      go true b e l = rw (e refl) (omega arith)
      go false true e l = omega arith
      go false false e l = l

  -- fewer are counted by the narrower test
  pub count-le : ((t : ℕ) → t < 8 → p t ≡ true → q t ≡ true) → count_threads p ≤ count_threads q
  unfolding count_threads from
  count-le h = count_less 0 8 (λ t a b. h t (omega arith))

  count-but : (t k n : ℕ) → ((j : ℕ) → (j ≡ t → ⊥) → p j ≡ true → q j ≡ true) → count p (from k n) ≤ count q (from k n) + 1
  unfolding count from
  count-but t k zero h = omega arith
  count-but t k (suc n) h =
      go (ℕ_discrete k t) (p k) (q k) (h k)
      (λ e. count_less (suc k) n (λ j a b. h j (λ f. omega arith)))
      (count-but t (suc k) n h)
    where
      go : Dec (k ≡ t) → (a b : Bool) → ((k ≡ t → ⊥) → a ≡ true → b ≡ true)
          → (k ≡ t → count p (from (suc k) n) ≤ count q (from (suc k) n)) → count p (from (suc k) n) ≤ count q (from (suc k) n) + 1
          → cond a (suc (count p (from (suc k) n))) (count p (from (suc k) n)) ≤ cond b (suc (count q (from (suc k) n))) (count q (from (suc k) n)) + 1
      go (yes e) true true f r l = omega (arith, r e)
      go (yes e) true false f r l = omega (arith, r e)
      go (yes e) false true f r l = omega (arith, r e)
      go (yes e) false false f r l = omega (arith, r e)
      go (no e) true b f r l = rw (f e refl) (omega arith)
      go (no e) false true f r l = omega arith
      go (no e) false false f r l = l

  -- and one more at the most, where the tests differ at one thread
  pub count-one-more : (t : ℕ) → ((u : ℕ) → (u ≡ t → ⊥) → p u ≡ true → q u ≡ true) → count_threads p ≤ count_threads q + 1
  unfolding count_threads from
  count-one-more t h = count-but t 0 8 h

  -- exactly one more, where one passes the first test alone
  count_same : (k n : ℕ) → ((j : ℕ) → k ≤ j → p j ≡ q j) → count p (from k n) ≡ count q (from k n)
  unfolding count from
  count_same k zero h = refl
  count_same k (suc n) h =
      let e = count_same (suc k) n (λ j a. h j (omega arith)) in
      λ i. cond (h k (omega arith) i) (suc (e i)) (e i)

  module _ (t : ℕ) (own : p t ≡ true) (apart : q t ≡ false) (others : (u : ℕ) → (u ≡ t → ⊥) → p u ≡ q u) where
    count-but-one : (k n : ℕ) → k ≤ t → t < k + n → count p (from k n) ≡ suc (count q (from k n))
    unfolding count from
    count-but-one k zero a b = absurd (omega arith)
    count-but-one k (suc n) a b = go (ℕ_discrete k t) (λ l. count-but-one (suc k) n l (omega arith))
      where
        step : (b c : Bool) → c ≡ b → count p (from (suc k) n) ≡ suc (count q (from (suc k) n))
            → cond c (suc (count p (from (suc k) n))) (count p (from (suc k) n)) ≡ suc (cond b (suc (count q (from (suc k) n))) (count q (from (suc k) n)))
        step true c e h = rw e (ap suc h)
        step false c e h = rw e h

        go : Dec (k ≡ t) → (suc k ≤ t → count p (from (suc k) n) ≡ suc (count q (from (suc k) n)))
            → cond (p k) (suc (count p (from (suc k) n))) (count p (from (suc k) n))
            ≡ suc (cond (q k) (suc (count q (from (suc k) n))) (count q (from (suc k) n)))
        go (yes e) rest =
            let same = count_same (suc k) n (λ j l. others j (λ f. omega arith)) in
            rw (ap p e ∙ own, ap q e ∙ apart) (ap suc same)
        go (no e) rest = step (q k) (p k) (others k e) (rest (omega (arith, e)))

    pub count-one-apart : t < 8 → count_threads p ≡ suc (count_threads q)
    unfolding count_threads from
    count-one-apart l = count-but-one 0 8 (omega arith) (omega arith)
