-- Round robin: issues of which each goes to the first running thread after the one before it are shared out evenly.
use Prim.Native.Nat.{ℕ, zero, suc, ◌+◌, ◌-◌, ◌*◌, ◌/◌, ◌%◌, ◌<◌, ◌≤◌}
use mathlib.Core.Bool.{Bool, true, false, cond}
use mathlib.Core.List.{List, [], ◌∷◌, ◌++◌}
use mathlib.Core.Logic.{◌⊎◌, inl, inr, ⊎_elim}
use mathlib.Core.Path.{◌≡◌, refl, sym, ap, ◌∙◌}
use native.Mathlib.Decide.{ℕ_discrete, dec_lt}
use native.Mathlib.Nat.{suc-mul, zero-div, div-mul-le_self, le_of_eq}
use native.Mathlib.Omega.{arith}
use borrow.Author.Tests.{eq-eqb, ne_eqb}
use lib.Dec.{eqb}
use lib.ListN.{length, take, drop, length-drop}
use Rattle.machine.specs.Machine.{count_threads}
use Rattle.machine.specs.Scheduler.{runs}
use Rattle.machine.specs.Search.{count}
use Rattle.interpreter.specs.Choosing.{Issue}
use Rattle.interpreter.specs.Demand.{RunningBefore, RunningBeforeEach, made}
use Rattle.interpreter.specs.Types.{Machine}

-- Distances.

-- how many places after thread l thread t comes, going round: 1 to 8
pub distance : ℕ → ℕ → ℕ
distance l t = (t + 7 - l) % 8 + 1

pub distance-range : (l t : ℕ) → (1 ≤ distance l t) × (distance l t ≤ 8)
unfolding distance
distance-range l t = omega arith

-- the thread at a distance has that distance, and the other way round
pub distance-at : (l t : ℕ) → l < 8 → t < 8 → (l + distance l t) % 8 ≡ t
unfolding distance
distance-at l t a b = omega arith

pub distance-of : (l d : ℕ) → l < 8 → 1 ≤ d → d ≤ 8 → distance l ((l + d) % 8) ≡ d
unfolding distance
distance-of l d a b h = omega arith

distance_cases : (l t : ℕ) → l < 8 → t < 8 → ((l < t) × (distance l t + l ≡ t)) ⊎ ((t ≤ l) × (distance l t + l ≡ t + 8))
unfolding distance
distance_cases l t a b = go (dec_lt l t)
  where
    go : Dec (l < t) → ((l < t) × ((t + 7 - l) % 8 + 1 + l ≡ t)) ⊎ ((t ≤ l) × ((t + 7 - l) % 8 + 1 + l ≡ t + 8))
    go (yes h) = inl (h, omega arith)
    go (no h) = inr (omega arith, omega arith)

-- by way of a thread that comes before
distance-split : (l w t : ℕ) → l < 8 → w < 8 → t < 8 → (w ≡ t → ⊥) → distance l w ≤ distance l t → distance l w + distance w t ≡ distance l t
distance-split l w t a b d n h =
    ⊎_elim
    (λ x. ⊎_elim (λ y. ⊎_elim (λ z. omega arith) (λ z. omega arith) (distance_cases w t b d)) (λ y. ⊎_elim (λ z. omega arith) (λ z. omega arith) (distance_cases w t b d)) (distance_cases l t a d))
    (λ x. ⊎_elim (λ y. ⊎_elim (λ z. omega arith) (λ z. omega arith) (distance_cases w t b d)) (λ y. ⊎_elim (λ z. omega arith) (λ z. omega arith) (distance_cases w t b d)) (distance_cases l t a d))
    (distance_cases l w a b)

-- no two threads have one distance
distance-apart : (l t u : ℕ) → l < 8 → t < 8 → u < 8 → distance l t ≡ distance l u → t ≡ u
distance-apart l t u a b d e =
    ⊎_elim
    (λ x. ⊎_elim (λ y. omega arith) (λ y. omega arith) (distance_cases l u a d))
    (λ x. ⊎_elim (λ y. omega arith) (λ y. omega arith) (distance_cases l u a d))
    (distance_cases l t a b)

-- the thread itself comes after all others
distance_self : (t u : ℕ) → t < 8 → u < 8 → (t ≡ u → ⊥) → distance t u < distance t t
distance_self t u b d n =
    ⊎_elim
    (λ x. ⊎_elim (λ y. omega arith) (λ y. omega arith) (distance_cases t u b d))
    (λ x. ⊎_elim (λ y. omega arith) (λ y. omega arith) (distance_cases t u b d))
    (distance_cases t t b b)

-- Threads that pass a test, on the way round.

-- how many of the d threads after thread l pass
on_the_way : (ℕ → Bool) → ℕ → ℕ → ℕ
on_the_way p l zero = 0
on_the_way p l (suc d) = on_the_way p l d + cond (p ((l + suc d) % 8)) 1 0

count-cons : (p : ℕ → Bool) (t : ℕ) (ts : List ℕ) → count p (t ∷ ts) ≡ cond (p t) 1 0 + count p ts
unfolding count
count-cons p t ts = go (p t)
  where
    go : (b : Bool) → cond b (suc (count p ts)) (count p ts) ≡ cond b 1 0 + count p ts
    go true = omega arith
    go false = omega arith

module _ (p : ℕ → Bool) where
  way-add : (l a b : ℕ) → on_the_way p l (a + b) ≡ on_the_way p l a + on_the_way p ((l + a) % 8) b
  unfolding on_the_way
  way-add l a zero = let e : a + 0 ≡ a = omega arith in rw e (omega arith)
  way-add l a (suc b) =
      let e : a + suc b ≡ suc (a + b) = omega arith in
      let f : ((l + a) % 8 + suc b) % 8 ≡ (l + suc (a + b)) % 8 = omega arith in
      let h = way-add l a b in
      rw (e, f) (omega arith)

  way-one : (l d t : ℕ) → 1 ≤ d → (l + d) % 8 ≡ t → p t ≡ true → 1 ≤ on_the_way p l d
  unfolding on_the_way
  way-one l zero t h e g = absurd (omega arith)
  way-one l (suc d) t h e g = let k : ◌≡◌ {A = ℕ} (cond (p ((l + suc d) % 8)) 1 0) 1 = rw (e, g) in omega arith

  -- once round, from wherever
  round-next : (l : ℕ) → l < 7 → on_the_way p (suc l) 8 ≡ on_the_way p l 8
  round-next l h =
      let e : (l + 1) % 8 ≡ suc l = omega arith in
      let f : (l + 8) % 8 ≡ l = omega arith in
      let a : on_the_way p l 9 ≡ on_the_way p l 1 + on_the_way p (suc l) 8 = rw e at (way-add l 1 8) in
      let b : on_the_way p l 9 ≡ on_the_way p l 8 + on_the_way p l 1 = rw f at (way-add l 8 1) in
      omega arith

  round_same : (l : ℕ) → l < 8 → on_the_way p l 8 ≡ on_the_way p 0 8
  round_same zero h = refl
  round_same (suc l) h = round-next l (omega arith) ∙ round_same l (omega arith)

  round-all : on_the_way p 7 8 ≡ count_threads p
  unfolding on_the_way count_threads count
  round-all =
      omega (
        arith,
        count-cons p 0 (1 ∷ 2 ∷ 3 ∷ 4 ∷ 5 ∷ 6 ∷ 7 ∷ []),
        count-cons p 1 (2 ∷ 3 ∷ 4 ∷ 5 ∷ 6 ∷ 7 ∷ []),
        count-cons p 2 (3 ∷ 4 ∷ 5 ∷ 6 ∷ 7 ∷ []),
        count-cons p 3 (4 ∷ 5 ∷ 6 ∷ 7 ∷ []),
        count-cons p 4 (5 ∷ 6 ∷ 7 ∷ []),
        count-cons p 5 (6 ∷ 7 ∷ []),
        count-cons p 6 (7 ∷ []),
        count-cons p 7 [],
      )

  -- at most as many as pass in all
  way-most : (l d : ℕ) → l < 8 → d ≤ 8 → on_the_way p l d ≤ count_threads p
  way-most l d h k =
      let e : d + (8 - d) ≡ 8 = omega arith in
      let f : on_the_way p l 8 ≡ on_the_way p l d + on_the_way p ((l + d) % 8) (8 - d) = rw e at (way-add l d (8 - d)) in
      omega (arith, f, round_same l h, round_same 7 (omega arith), round-all)

  -- one that passes is counted
  pub some-counted : (t : ℕ) → t < 8 → p t ≡ true → 1 ≤ count_threads p
  some-counted t l g =
      let r = distance-range 7 t in
      let a = way-one 7 (distance 7 t) t r.0 (distance-at 7 t (omega arith) l) g in
      let b = way-most 7 (distance 7 t) (omega arith) r.1 in
      omega arith

  -- and no more than all
  way-short : (l d : ℕ) → on_the_way p l d ≤ d
  unfolding on_the_way
  way-short l zero = omega arith
  way-short l (suc d) = go (p ((l + suc d) % 8)) (way-short l d)
    where
      go : (b : Bool) → on_the_way p l d ≤ d → on_the_way p l d + cond b 1 0 ≤ suc d
      go true h = omega arith
      go false h = omega arith

  pub all-counted : count_threads p ≤ 8
  all-counted = omega (arith, way-short 7 8, round-all)

  -- fewer are on the way to t once one of them is "last"
  closer : (l w t : ℕ) → l < 8 → w < 8 → t < 8 → (w ≡ t → ⊥) → distance l w ≤ distance l t → p w ≡ true
      → on_the_way p w (distance w t) < on_the_way p l (distance l t)
  closer l w t a b d n h g =
      let e = distance-split l w t a b d n h in
      let f : on_the_way p l (distance l t) ≡ on_the_way p l (distance l w) + on_the_way p w (distance w t) =
      rw (distance-at l w a b) at (rw e at (way-add l (distance l w) (distance w t))) in
      omega (arith, f, way-one l (distance l w) w (distance-range l w).0 (distance-at l w a b) g)

-- Issues in a row. Only the record counts: who else writes the register file or memory between two of them does not matter.

-- what is so of an issue i that leads from the record m to the record next, where the threads that pass the test are enabled
pub record IssueInTurn (on : ℕ → Bool) (m : Machine) (i : Issue) (next : Machine) : Type 0 where
  pub before : i.before.machine ≡ m
  pub last : m.last < 8
  pub thread : i.thread < 8
  pub running : runs m i.thread ≡ true
  pub enabled : (t : ℕ) → runs m t ≡ true → (t < 8) × (on t ≡ true)
  pub first : (t : ℕ) → runs m t ≡ true → distance m.last i.thread ≤ distance m.last t
  pub becomes-last : next.last ≡ i.thread
  pub stays : (t : ℕ) → runs m t ≡ true → (i.thread ≡ t → ⊥) → runs next t ≡ true

abbrev pub InTurns : (ℕ → Bool) → Machine → List Issue → Type 0
InTurns on m [] = Unit {0}
InTurns on m (i ∷ is) = (next : Machine) × IssueInTurn on m i next × InTurns on next is

made-split : (t n : ℕ) (w : List Issue) → made t w ≡ made t (take n w) + made t (drop n w)
made-split t zero w = omega arith
made-split t (suc n) [] = omega arith
made-split t (suc n) (i ∷ w) = let h = made-split t n w in omega arith

each-drop : (t n : ℕ) (w : List Issue) → RunningBeforeEach t w → RunningBeforeEach t (drop n w)
each-drop t zero w h = h
each-drop t (suc n) [] h = tt
each-drop t (suc n) (i ∷ w) h = each-drop t n w h.1

module _ (on : ℕ → Bool) where
  -- a part of a row is a row
  pub row-after : (m : Machine) (a r : List Issue) → InTurns on m (a ++ r) → (m' : Machine) × InTurns on m' r
  row-after m [] r c = (m, c)
  row-after m (i ∷ a) r c = row-after c.0 a r c.2

  pub row-front : (m : Machine) (w b : List Issue) → InTurns on m (w ++ b) → InTurns on m w
  row-front m [] b c = tt
  row-front m (i ∷ w) b c = (c.0, c.1, row-front c.0 w b c.2)

  row_drop : (n : ℕ) (m : Machine) (w : List Issue) → InTurns on m w → (m' : Machine) × InTurns on m' (drop n w)
  row_drop zero m w c = (m, c)
  row_drop (suc n) m [] c = (m, tt)
  row_drop (suc n) m (i ∷ w) c = row_drop n c.0 w c.2

  running-in : (m : Machine) (i : Issue) (next : Machine) (t : ℕ) → IssueInTurn on m i next → RunningBefore t i → runs m t ≡ true
  running-in m i next t q h = ap (λ z. runs z t) (sym q.before) ∙ h

  -- a thread is issued within as many issues as enabled threads are on the way to it
  soon : (t : ℕ) → t < 8 → on t ≡ true → (n : ℕ) (m : Machine) (r : List Issue) → m.last < 8 → runs m t ≡ true
      → InTurns on m r → on_the_way on m.last (distance m.last t) ≤ n → n ≤ length r → 1 ≤ made t (take n r)
  soon t b g zero m r l h c f k =
      let x = m.last in
      absurd (omega (arith, way-one on x (distance x t) t (distance-range x t).0 (distance-at x t l b) g))
  soon t b g (suc n) m [] l h c f k = absurd (omega arith)
  soon t b g (suc n) m (i ∷ r) l h c f k = go (ℕ_discrete i.thread t) (soon t b g n c.0 r)
    where
      go : Dec (i.thread ≡ t)
          → (c.0.last < 8 → runs c.0 t ≡ true → InTurns on c.0 r
          → on_the_way on c.0.last (distance c.0.last t) ≤ n → n ≤ length r → 1 ≤ made t (take n r))
          → 1 ≤ made t (take n r) + cond (eqb i.thread t) 1 0
      go (yes e) rest = rw (eq-eqb _ _ e) (omega arith)
      go (no e) rest =
          let q = c.1 in
          let x : c.0.last ≡ i.thread = q.becomes-last in
          let z : on_the_way on i.thread (distance i.thread t) < on_the_way on m.last (distance m.last t) =
          closer on m.last i.thread t l q.thread b e (q.first t h) (q.enabled i.thread q.running).1 in
          let y : on_the_way on c.0.last (distance c.0.last t) ≤ n = rw x (omega arith) in
          let v = rest (omega (arith, x, q.thread)) (q.stays t h e) c.2 y (omega arith) in
          omega arith

  -- "A thread that is running before one of these issues is issued within E issues, that one counted first, if so many are left."
  pub within : (m : Machine) (i : Issue) (r : List Issue) → InTurns on m (i ∷ r) → (t : ℕ) → RunningBefore t i → count_threads on ≤ length (i ∷ r)
      → 1 ≤ made t (take (count_threads on) (i ∷ r))
  within m i r c t h k =
      let q = c.1 in
      let l = m.last in
      let g = running-in m i c.0 t q h in
      let o = q.enabled t g in
      soon t o.0 o.1 (count_threads on) m (i ∷ r) q.last g c (way-most on l (distance l t) q.last (distance-range l t).1) k

  -- one issue in each E of them
  shares : (t : ℕ) → 1 ≤ count_threads on → (q : ℕ) (m : Machine) (w : List Issue) → InTurns on m w → RunningBeforeEach t w → q * count_threads on ≤ length w
      → q ≤ made t w
  shares t o zero m w c h k = omega arith
  shares t o (suc q) m [] c h k = absurd (omega (arith, suc-mul q (count_threads on)))
  shares t o (suc q) m (i ∷ r) c h k =
      let e = count_threads on in
      let w : List Issue = i ∷ r in
      let p = suc-mul q e in
      let a : 1 ≤ made t (take e w) = within m i r c t h.0 (omega arith) in
      let d = row_drop e m w c in
      let b : q ≤ made t (drop e w) = shares t o q d.0 (drop e w) d.1 (each-drop t e w h) (rw length-drop (omega arith)) in
      omega (arith, made-split t e w)

  -- "In any W issues in a row, a thread that was running before each of them makes at least W divided by E, rounded down."
  pub share : (m : Machine) (w : List Issue) → InTurns on m w → (t : ℕ) → RunningBeforeEach t w → length w / count_threads on ≤ made t w
  share m [] c t h = le_of_eq (zero-div (count_threads on))
  share m (i ∷ r) c t h =
      shares t (some-counted on i.thread c.1.thread (c.1.enabled i.thread c.1.running).1) (length (i ∷ r) / count_threads on) m (i ∷ r) c h (div-mul-le_self (length (i ∷ r)) (count_threads on))

  -- of two threads, the one that comes first makes as many as the other, or one more
  evenly : (w : List Issue) (m : Machine) (t u : ℕ) → (t ≡ u → ⊥) → t < 8 → u < 8 → InTurns on m w → RunningBeforeEach t w → RunningBeforeEach u w
      → distance m.last t < distance m.last u → (made u w ≤ made t w) × (made t w ≤ made u w + 1)
  evenly [] m t u n a b c h k l = omega arith
  evenly (i ∷ w) m t u n a b c h k l =
      go (ℕ_discrete i.thread t)
      (evenly w c.0 t u n a b c.2 h.1 k.1)
      (evenly w c.0 u t (λ e. n (sym e)) b a c.2 k.1 h.1)
    where
      go : Dec (i.thread ≡ t)
          → (distance c.0.last t < distance c.0.last u → (made u w ≤ made t w) × (made t w ≤ made u w + 1))
          → (distance c.0.last u < distance c.0.last t → (made t w ≤ made u w) × (made u w ≤ made t w + 1))
          → (made u w + cond (eqb i.thread u) 1 0 ≤ made t w + cond (eqb i.thread t) 1 0)
          × (made t w + cond (eqb i.thread t) 1 0 ≤ made u w + cond (eqb i.thread u) 1 0 + 1)
      go (yes e) same other =
          let x : c.0.last ≡ t = c.1.becomes-last ∙ e in
          let z = other (rw x (distance_self t u a b n)) in
          rw (eq-eqb _ _ e, ne_eqb i.thread u (λ f. n (sym e ∙ f))) (omega arith)
      go (no e) same other =
          let q = c.1 in
          let x = m.last in
          let y : c.0.last ≡ i.thread = q.becomes-last in
          let f : distance x i.thread ≤ distance x t = q.first t (running-in m i c.0 t q h.0) in
          let v : i.thread ≡ u → ⊥ = λ g. let z : distance x i.thread ≡ distance x u = rw g in omega arith in
          let r1 = distance-split x i.thread t q.last q.thread a e f in
          let r2 = distance-split x i.thread u q.last q.thread b v (omega arith) in
          let z = same (rw y (omega arith)) in
          rw (ne_eqb _ _ e, ne_eqb _ _ v) (omega arith)

  -- "Two such threads differ by at most one."
  pub even : (m : Machine) (w : List Issue) → InTurns on m w → (t u : ℕ) → RunningBeforeEach t w → RunningBeforeEach u w → made t w ≤ made u w + 1
  even m [] c t u h k = omega arith
  even m (i ∷ w) c t u h k = go (ℕ_discrete t u) (dec_lt (distance l t) (distance l u))
    where
      l : ℕ
      l = m.last

      t-enabled : (t < 8) × (on t ≡ true)
      t-enabled = c.1.enabled t (running-in m i c.0 t c.1 h.0)

      u-enabled : (u < 8) × (on u ≡ true)
      u-enabled = c.1.enabled u (running-in m i c.0 u c.1 k.0)

      go : Dec (t ≡ u) → Dec (distance l t < distance l u) → made t (i ∷ w) ≤ made u (i ∷ w) + 1
      go (yes e) d = let h : made t (i ∷ w) ≡ made u (i ∷ w) = ap (λ x. made x (i ∷ w)) e in omega arith
      go (no n) (yes d) = (evenly (i ∷ w) m t u n t-enabled.0 u-enabled.0 c h k d).1
      go (no n) (no d) =
          let f : distance l t ≡ distance l u → ⊥ = λ y. n (distance-apart l t u c.1.last t-enabled.0 u-enabled.0 y) in
          let z = (evenly (i ∷ w) m u t (λ e. n (sym e)) u-enabled.0 t-enabled.0 c k h (omega arith)).0 in
          omega arith
