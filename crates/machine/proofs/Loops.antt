-- Laws of the loops over the eight threads: one that searches or counts goes by `from`, one that changes every entry by `changed`.
use Prim.Native.Nat.{ℕ, zero, suc, ◌+◌, ◌-◌, ◌<◌, ◌≤◌}
use mathlib.Core.Bool.{Bool, true, false}
use mathlib.Core.Path.{◌≡◌, refl, sym, ap, ◌∙◌}
use mathlib.Core.List.{List, [], ◌∷◌}
use native.Mathlib.Numerals.{add-one}
use native.Mathlib.Omega.{arith}
use borrow.Author.Tests.{ltb-true, ltb-false}
use lib.Dec.{ltb}
use lib.ListN.{length, get_or, set}
use lib.Seq.{set_out}
use Rattle.thread_entry.specs.Entry.{zero_thread, with_status, with_count}
use Rattle.machine.specs.Machine.{any_thread, count_threads, with_counts}
use Rattle.machine.specs.Search.{any, count}
use Rattle.machine.specs.Types.{Status, Thread}

-- n numbers from k up
unfoldable pub from : ℕ → ℕ → List ℕ
from k zero = []
from k (suc n) = k ∷ from (suc k) n

from_step : (k n : ℕ) → k < n → from k (n - k) ≡ k ∷ from (k + 1) (n - (k + 1))
unfolding from
from_step k n l = let e : n - k ≡ suc (n - (k + 1)) = omega arith in rw (e, add-one)

from_end : (k n : ℕ) → n ≤ k → from k (n - k) ≡ []
unfolding from
from_end k n l = let e : n - k ≡ 0 = omega arith in rw e

-- what a loop up to n, now at k, is left to find: it looks at k first, or at nothing any more
pub look : {B : Type 0} (find : List ℕ → B) {b : B} (k n : ℕ) → k < n → find (k ∷ from (k + 1) (n - (k + 1))) ≡ b → find (from k (n - k)) ≡ b
look find k n l e = ap find (from_step k n l) ∙ e

pub stop : {B : Type 0} (find : List ℕ → B) {b : B} (k n : ℕ) → n ≤ k → find [] ≡ b → find (from k (n - k)) ≡ b
stop find k n l e = ap find (from_end k n l) ∙ e

module _ (p : ℕ → Bool) where
  -- a search for a thread that passes, now at k: none did so far, and the rest decides
  abbrev pub Searching : ℕ → Type 0
  Searching k = any_thread p ≡ any p (from k (8 - k))

  pub search-start : Searching 0
  unfolding any_thread from
  search-start = refl

  pub search-found : (k : ℕ) → Searching k → k < 8 → p k ≡ true → any_thread p ≡ true
  unfolding any
  search-found k s l h = s ∙ look (any p) k 8 l (rw h)

  pub search-on : (k : ℕ) → Searching k → k < 8 → p k ≡ false → Searching (k + 1)
  unfolding any
  search-on k s l h = s ∙ look (any p) k 8 l (rw h)

  pub search-done : (k : ℕ) → Searching k → 8 ≤ k → any_thread p ≡ false
  unfolding any
  search-done k s l = s ∙ stop (any p) k 8 l refl

  -- a count of the threads that pass, now at k: n did so far, and the rest is to be added
  pub record Counting (k n : ℕ) : Type 0 where
    pub few : n ≤ k
    pub sum : count_threads p ≡ n + count p (from k (8 - k))

  pub count-start : Counting 0 0
  unfolding count_threads from
  count-start = record { few = omega arith; sum = omega arith }

  pub count-one : {n r : ℕ} (k : ℕ) → Counting k n → k < 8 → p k ≡ true → r ≡ n + 1 → Counting (k + 1) r
  unfolding count
  count-one k c l h e =
      let f : count p (from k (8 - k)) ≡ suc (count p (from (k + 1) (8 - (k + 1)))) = look (count p) k 8 l (rw h) in
      record { few = omega arith; sum = omega arith }

  pub count-on : {n r : ℕ} (k : ℕ) → Counting k n → k < 8 → p k ≡ false → r ≡ n → Counting (k + 1) r
  unfolding count
  count-on k c l h e =
      let f : count p (from k (8 - k)) ≡ count p (from (k + 1) (8 - (k + 1))) = look (count p) k 8 l (rw h) in
      record { few = omega arith; sum = omega arith }

  pub count-done : {n : ℕ} (k : ℕ) → Counting k n → 8 ≤ k → count_threads p ≡ n
  unfolding count
  count-done k c l = let f : count p (from k (8 - k)) ≡ 0 = stop (count p) k 8 l refl in omega arith

-- the first t of a list changed, number u by f u
unfoldable pub changed : {A : Type 0} → (ℕ → A → A) → List A → ℕ → List A
changed f xs zero = xs
changed f [] (suc t) = []
changed f (x ∷ xs) (suc t) = f 0 x ∷ changed (λ u. f (suc u)) xs t

pub changed-next : {A : Type 0} (f : ℕ → A → A) (xs : List A) (t : ℕ) (d : A) → get_or (changed f xs t) t d ≡ get_or xs t d
unfolding changed
changed-next f xs zero d = refl
changed-next f [] (suc t) d = refl
changed-next f (x ∷ xs) (suc t) d = changed-next (λ u. f (suc u)) xs t d

pub changed-suc : {A : Type 0} (f : ℕ → A → A) (xs : List A) (t : ℕ) (d : A) → t < length xs
    → set (changed f xs t) t (f t (get_or xs t d)) ≡ changed f xs (suc t)
unfolding changed
changed-suc f [] t d l = absurd (omega arith)
changed-suc f (x ∷ xs) zero d l = refl
changed-suc {A} f (x ∷ xs) (suc t) d l = ap {B = List A} (λ r. f 0 x ∷ r) (changed-suc (λ u. f (suc u)) xs t d (omega arith))

-- changing the next makes one more
pub change : {A : Type 0} (f : ℕ → A → A) (xs : List A) (t : ℕ) (d : A) (now : List A) → now ≡ changed f xs t → t < length xs
    → set now t (f t (get_or now t d)) ≡ changed f xs (t + 1)
change f xs t d now e l =
    (λ i. set (e i) t (f t (get_or (e i) t d)))
    ∙ ap (λ x. set (changed f xs t) t (f t x)) (changed-next f xs t d)
    ∙ changed-suc f xs t d l ∙ ap (changed f xs) (sym (add-one t))

-- each status by a rule
abbrev pub restating : (ℕ → Status) → ℕ → Thread → Thread
restating s t entry = with_status entry (s t)

-- each count from a list
abbrev pub recounting : List ℕ → ℕ → Thread → Thread
recounting turns t entry = with_count entry (get_or turns t 0)

pub recounted : (turns : List ℕ) (xs : List Thread) → changed (recounting turns) xs (length xs) ≡ with_counts xs turns
unfolding changed with_counts
recounted turns [] = refl
recounted [] (x ∷ xs) = ap {B = List Thread} (λ r. with_count x 0 ∷ r) (recounted [] xs)
recounted (n ∷ turns) (x ∷ xs) = ap {B = List Thread} (λ r. with_count x n ∷ r) (recounted turns xs)

-- an entry with a status, in its list
abbrev pub placed : List Thread → ℕ → Status → List Thread
placed xs thread s = set xs thread (with_status (get_or xs thread zero_thread) s)

-- where one thread is looked for: so far it has the status, or is still to come
pub record Placed (xs : List Thread) (thread : ℕ) (s : Status) (t : ℕ) (now : List Thread) : Type 0 where
  pub passed : thread < t → now ≡ placed xs thread s
  pub ahead : t ≤ thread → now ≡ xs

pub placed-here : (xs : List Thread) (thread : ℕ) (s : Status) (t : ℕ) (now : List Thread) → Placed xs thread s t now → t ≡ thread
    → Placed xs thread s (t + 1) (placed now t s)
placed-here xs thread s t now k e =
    record { passed = λ l. (λ i. placed (k.ahead (omega arith) i) (e i) s); ahead = λ l. absurd (omega arith) }

pub placed-on : (xs : List Thread) (thread : ℕ) (s : Status) (t : ℕ) (now : List Thread) → Placed xs thread s t now → (t ≡ thread → ⊥)
    → Placed xs thread s (t + 1) now
placed-on xs thread s t now k n = record { passed = λ l. k.passed (omega (arith, n)); ahead = λ l. k.ahead (omega arith) }

-- past the last entry it has the status; where there is no such thread, nothing had to change
pub placed_end : (xs : List Thread) (thread : ℕ) (s : Status) (t : ℕ) (now : List Thread) → Placed xs thread s t now → length xs ≤ t → now ≡ placed xs thread s
placed_end xs thread s t now k l = go (ltb thread t) refl
  where
    go : (b : Bool) → ltb thread t ≡ b → now ≡ placed xs thread s
    go true e = k.passed (ltb-true thread t e)
    go false e =
        k.ahead (ltb-false thread t e) ∙ sym (set_out xs thread (with_status (get_or xs thread zero_thread) s) (omega (arith, ltb-false thread t e)))
