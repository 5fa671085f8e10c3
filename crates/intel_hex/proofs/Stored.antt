-- Bytes stored one by one, and the words that then hold them.
use Prim.Native.Nat.{ℕ, zero, suc, ◌+◌, ◌-◌, ◌*◌, ◌/◌, ◌%◌, ◌≤◌, ◌<◌}
use mathlib.Core.Bool.{Bool, true, false}
use mathlib.Core.List.{List, [], ◌∷◌, ◌++◌, append-nil}
use mathlib.Core.Path.{◌≡◌, refl, sym, ap, subst, ◌∙◌}
use native.Mathlib.Omega.{arith}
use borrow.Author.Tests.{eqb-true, eqb-false, ltb-true, ltb-false}
use lib.Dec.{eqb, ltb}
use lib.ListN.{length, get_or, set, take, drop, replicate, length-set, length-append, length-replicate, length-drop, get_or-append, get_or-eq_default}
use lib.Seq.{get_or-set_same, get_or-set_other, get_or_at, ext_get_or, append_snoc, get_or-append-add, get_or-drop, take_all}
use Rattle.intel_hex.specs.Digits.{pair}
use Rattle.intel_hex.specs.File.{placed}
use Rattle.program.specs.Program.{program_in}
use Rattle.intel_hex.specs.Storing.{powers, put_byte, store_all, pair_bytes, DataFits, RecordFits}
use Rattle.intel_hex.specs.Types.{Heading, Data, Place}
use Rattle.std.specs.Prelude.{Option, Some}
use Rattle.intel_hex.proofs.Words.{Small, word_at, length-words, words-get}

pub length-put : (l : List ℕ) (a b : ℕ) → length (put_byte l a b) ≡ length l
unfolding put_byte
length-put l a b = length-set l _ _

pub fill_step : (l : List ℕ) (a to : ℕ) → a < to → store_all l a (replicate (to - a) 0) ≡ store_all (put_byte l a 0) (a + 1) (replicate (to - (a + 1)) 0)
unfolding store_all
fill_step l a to h = let e : to - a ≡ suc (to - (a + 1)) = omega arith in ap (λ (m : ℕ). store_all l a (replicate m 0)) e

pub fill_end : (l : List ℕ) (a to : ℕ) → to ≤ a → store_all l a (replicate (to - a) 0) ≡ l
unfolding store_all
fill_end l a to h = let e : to - a ≡ 0 = omega arith in ap (λ (m : ℕ). store_all l a (replicate m 0)) e

module _ (digits l : List ℕ) (from n : ℕ) where
  pub data-start : store_all l from (pair_bytes digits 4 n) ≡ store_all l (from + 0) (pair_bytes digits (4 + 0) (n - 0))
  data-start =
      let e : from + 0 ≡ from = omega arith in
      let f : n - 0 ≡ n = omega arith in
      rw (e, f)

  pub data-step : (i b : ℕ) → i < n → b ≡ pair (get_or digits (4 + i + (4 + i)) 0) (get_or digits (4 + i + (4 + i) + 1) 0) →
      store_all l (from + i) (pair_bytes digits (4 + i) (n - i)) ≡ store_all (put_byte l (from + i) (b % 256)) (from + (i + 1)) (pair_bytes digits (4 + (i + 1)) (n - (i + 1)))
  unfolding store_all pair_bytes
  data-step i b h e =
      let f : n - i ≡ suc (n - (i + 1)) = omega arith in
      let g : from + i + 1 ≡ from + (i + 1) = omega arith in
      let k : 4 + i + 1 ≡ 4 + (i + 1) = omega arith in
      ap (λ (m : ℕ). store_all l (from + i) (pair_bytes digits (4 + i) m)) f
      ∙ ap (λ (x : ℕ). store_all (put_byte l (from + i) (x % 256)) (from + i + 1) (pair_bytes digits (4 + i + 1) (n - (i + 1)))) (sym e)
      ∙ ap (λ (x : ℕ). store_all (put_byte l (from + i) (b % 256)) x (pair_bytes digits (4 + i + 1) (n - (i + 1)))) g
      ∙ ap (λ (x : ℕ). store_all (put_byte l (from + i) (b % 256)) (from + (i + 1)) (pair_bytes digits x (n - (i + 1)))) k

  pub data-end : (i : ℕ) → n ≤ i → store_all l (from + i) (pair_bytes digits (4 + i) (n - i)) ≡ l
  unfolding store_all pair_bytes
  data-end i h = let e : n - i ≡ 0 = omega arith in ap (λ (m : ℕ). store_all l (from + i) (pair_bytes digits (4 + i) m)) e

pub small-append : (a b : List ℕ) → Small a → Small b → Small (a ++ b)
small-append [] b sa sb i = sb i
small-append (x ∷ a) b sa sb zero = sa zero
small-append (x ∷ a) b sa sb (suc i) = small-append a b (λ j. sa (suc j)) sb i

pub small-zeros : (n : ℕ) → Small (replicate n 0)
small-zeros zero i = omega arith
small-zeros (suc n) zero = omega arith
small-zeros (suc n) (suc i) = small-zeros n i

-- a byte more at the end
module _ (bs : List ℕ) (b : ℕ) where
  before : (j : ℕ) → j < length bs → get_or (bs ++ b ∷ []) j 0 ≡ get_or bs j 0
  before j h = get_or-append bs (b ∷ []) 0 j h

  there : (j : ℕ) → length bs ≡ j → get_or (bs ++ b ∷ []) j 0 ≡ b
  there j h = get_or_at bs b [] 0 j h

  past : (j : ℕ) → length bs < j → get_or (bs ++ b ∷ []) j 0 ≡ 0
  past j h = get_or-eq_default (bs ++ b ∷ []) 0 {n = j} (omega (arith, length-append bs (b ∷ [])))

  none : (j : ℕ) → length bs ≤ j → get_or bs j 0 ≡ 0
  none j h = get_or-eq_default bs 0 {n = j} h

  put_word : (q i old : ℕ) → length bs ≡ 4 * q + i → i < 4 → (0 < i → old ≡ word_at bs q) → Small bs → b < 256 →
      old % get_or powers i 0 + b * get_or powers i 0 ≡ word_at (bs ++ b ∷ []) q
  put_word q zero old l h o s m =
      let y0 = there (4 * q) (omega arith) in
      let y1 = past (4 * q + 1) (omega arith) in
      let y2 = past (4 * q + 2) (omega arith) in
      let y3 = past (4 * q + 3) (omega arith) in
      omega arith
  put_word q (suc zero) old l h o s m =
      let e = o (omega arith) in
      let y0 = before (4 * q) (omega arith) in
      let y1 = there (4 * q + 1) (omega arith) in
      let y2 = past (4 * q + 2) (omega arith) in
      let y3 = past (4 * q + 3) (omega arith) in
      let z1 = none (4 * q + 1) (omega arith) in
      let z2 = none (4 * q + 2) (omega arith) in
      let z3 = none (4 * q + 3) (omega arith) in
      let s0 = s (4 * q) in
      omega arith
  put_word q (suc (suc zero)) old l h o s m =
      let e = o (omega arith) in
      let y0 = before (4 * q) (omega arith) in
      let y1 = before (4 * q + 1) (omega arith) in
      let y2 = there (4 * q + 2) (omega arith) in
      let y3 = past (4 * q + 3) (omega arith) in
      let z2 = none (4 * q + 2) (omega arith) in
      let z3 = none (4 * q + 3) (omega arith) in
      let s0 = s (4 * q) in
      let s1 = s (4 * q + 1) in
      omega arith
  put_word q (suc (suc (suc zero))) old l h o s m =
      let e = o (omega arith) in
      let y0 = before (4 * q) (omega arith) in
      let y1 = before (4 * q + 1) (omega arith) in
      let y2 = before (4 * q + 2) (omega arith) in
      let y3 = there (4 * q + 3) (omega arith) in
      let z3 = none (4 * q + 3) (omega arith) in
      let s0 = s (4 * q) in
      let s1 = s (4 * q + 1) in
      let s2 = s (4 * q + 2) in
      omega arith
  put_word q (suc (suc (suc (suc i)))) old l h o s m = absurd (omega arith)

  same_word : (k : ℕ) → 4 * k + 3 < length bs → word_at bs k ≡ word_at (bs ++ b ∷ []) k
  same_word k h =
      let y0 = before (4 * k) (omega arith) in
      let y1 = before (4 * k + 1) (omega arith) in
      let y2 = before (4 * k + 2) (omega arith) in
      let y3 = before (4 * k + 3) (omega arith) in
      omega arith

-- words that hold bytes from the first on, and behind them what was there
pub record Holding (l₀ bs l : List ℕ) : Type 0 where
  pub size : length l ≡ length l₀
  pub word : (k : ℕ) → 4 * k < length bs → get_or l k 0 ≡ word_at bs k
  pub kept : (k : ℕ) → length bs ≤ 4 * k → get_or l k 0 ≡ get_or l₀ k 0

pub hold-none : (l : List ℕ) → Holding l [] l
hold-none l = record { size = refl; word = λ k h. absurd (omega arith); kept = λ k h. refl }

below : (k q : ℕ) → (k ≡ q → ⊥) → k ≤ q → k < q
below k q f h = go (ltb k q) refl
  where
    go : (t : Bool) → ltb k q ≡ t → k < q
    go true e = ltb-true k q e
    go false e = absurd (f (omega (arith, ltb-false k q e)))

one : (b : ℕ) → b < 256 → Small (b ∷ [])
one b h zero = h
one b h (suc i) = omega arith

pub hold-byte : (l₀ bs l : List ℕ) (b : ℕ) → Holding l₀ bs l → length bs < 4 * length l₀ → Small bs → b < 256 → Holding l₀ (bs ++ b ∷ []) (put_byte l (length bs) b)
unfolding put_byte
hold-byte l₀ bs l b h room s m =
    let n = length-append bs (b ∷ []) in
    let z = h.size in
    let q = length bs / 4 in
    record {
      size = length-set l _ _ ∙ h.size;
      word = λ k g. at-word k (eqb k q) refl (omega arith);
      kept = λ k g. get_or-set_other l q k _ 0 (λ e. omega arith) ∙ h.kept k (omega arith);
    }
  where
    at-word : (k : ℕ) (t : Bool) → eqb k (length bs / 4) ≡ t → 4 * k < length bs + 1 →
        get_or (set l (length bs / 4) (get_or l (length bs / 4) 0 % get_or powers (length bs % 4) 0 + b * get_or powers (length bs % 4) 0)) k 0 ≡ word_at (bs ++ b ∷ []) k
    at-word k true e g =
        let f = eqb-true k (length bs / 4) e in
        let z = h.size in
        rw f (get_or-set_same l (length bs / 4) _ 0 (omega arith)
        ∙ put_word bs b (length bs / 4) (length bs % 4) (get_or l (length bs / 4) 0) (omega arith) (omega arith) (λ p. h.word (length bs / 4) (omega arith)) s m)
    at-word k false e g =
        let f = eqb-false k (length bs / 4) e in
        let d = below k (length bs / 4) f (omega arith) in
        get_or-set_other l (length bs / 4) k _ 0 f ∙ h.word k (omega arith) ∙ same_word bs b k (omega arith)

pub hold-all : (l₀ bs l more : List ℕ) → Holding l₀ bs l → Small bs → Small more → length bs + length more ≤ 4 * length l₀ → Holding l₀ (bs ++ more) (store_all l (length bs) more)
unfolding store_all
hold-all l₀ bs l [] h s t room = rw (append-nil bs) h
hold-all l₀ bs l (b ∷ more) h s t room =
    let n = length-append bs (b ∷ []) in
    let e : length (bs ++ b ∷ []) ≡ length bs + 1 = omega arith in
    let i = hold-all l₀ (bs ++ b ∷ []) (put_byte l (length bs) b) more (hold-byte l₀ bs l b h (omega arith) s (t 0)) (small-append bs (b ∷ []) s (one b (t 0))) (λ j. t (suc j)) (omega arith) in
    subst (λ (x : List ℕ). Holding l₀ x (store_all (put_byte l (length bs) b) (length bs + 1) more)) (append_snoc bs b more)
    (subst (λ (x : ℕ). Holding l₀ ((bs ++ b ∷ []) ++ more) (store_all (put_byte l (length bs) b) x more)) e i)

-- a gap and the bytes behind it
pub hold-placed : (l₀ bs l ds : List ℕ) (from : ℕ) → Holding l₀ bs l → Small bs → Small ds → length bs ≤ from → from + length ds ≤ 4 * length l₀ →
    Holding l₀ (placed bs from ds) (store_all (store_all l (length bs) (replicate (from - length bs) 0)) from ds)
unfolding placed
hold-placed l₀ bs l ds from h s t g room =
    let z = replicate {A = ℕ} (from - length bs) 0 in
    let a = length-append bs z in
    let b = length-replicate {A = ℕ} (from - length bs) 0 in
    let e : length (bs ++ z) ≡ from = omega arith in
    let i = hold-all l₀ bs l z h s (small-zeros (from - length bs)) (omega arith) in
    subst (λ (x : ℕ). Holding l₀ (bs ++ z ++ ds) (store_all (store_all l (length bs) z) x ds)) e
    (hold-all l₀ (bs ++ z) (store_all l (length bs) z) ds i (small-append bs z s (small-zeros (from - length bs))) t (omega arith))

pub small-placed : (bs ds : List ℕ) (from : ℕ) → Small bs → Small ds → Small (placed bs from ds)
unfolding placed
small-placed bs ds from s t = small-append (bs ++ replicate (from - length bs) 0) ds (small-append bs (replicate (from - length bs) 0) s (small-zeros (from - length bs))) t

-- whole words: the program's, and behind them what was there
pub hold-end : (l₀ bs l : List ℕ) (m : ℕ) → Holding l₀ bs l → length bs ≡ 4 * m → m ≤ length l₀ → l ≡ program_in bs ++ drop m l₀
hold-end l₀ bs l m h e room =
    let w = length-words bs m e in
    let d = length-drop m l₀ in
    let z = h.size in
    ext_get_or 0 l (program_in bs ++ drop m l₀) (omega (arith, length-append (program_in bs) (drop m l₀))) (λ k g. at-word k (ltb k m) refl)
  where
    at-word : (k : ℕ) (t : Bool) → ltb k m ≡ t → get_or l k 0 ≡ get_or (program_in bs ++ drop m l₀) k 0
    at-word k true t =
        let w = length-words bs m e in
        let g = ltb-true k m t in
        h.word k (omega arith) ∙ sym (words-get bs m k e g) ∙ sym (get_or-append (program_in bs) (drop m l₀) 0 k (omega arith))
    at-word k false t =
        let w = length-words bs m e in
        let g = ltb-false k m t in
        let f : length (program_in bs) + (k - m) ≡ k = omega arith in
        let i : m + (k - m) ≡ k = omega arith in
        h.kept k (omega arith) ∙ sym (ap (λ (n : ℕ). get_or (program_in bs ++ drop m l₀) n 0) (sym f) ∙ get_or-append-add (program_in bs) (drop m l₀) (k - m) 0 ∙ get_or-drop m l₀ (k - m) 0 ∙ ap (λ (n : ℕ). get_or l₀ n 0) i)

pub fits-data : (line : List ℕ) (h : Option Heading) (p : Place) (l : List ℕ) (a n : ℕ) → RecordFits line h p l → h ≡ Some (Data a n) → DataFits line a n p l
unfolding RecordFits
fits-data line h p l a n f e = subst (λ (x : Option Heading). RecordFits line x p l) e f

pub length-store : (l : List ℕ) (a : ℕ) (bs : List ℕ) → length (store_all l a bs) ≡ length l
unfolding store_all
length-store l a [] = refl
length-store l a (b ∷ bs) = length-store (put_byte l a b) (a + 1) bs ∙ length-put l a b

pub whole-tail : (line : List ℕ) → take (length line - 1) (drop 1 line) ≡ drop 1 line
whole-tail line = take_all (length line - 1) (drop 1 line) (omega (arith, length-drop 1 line))
