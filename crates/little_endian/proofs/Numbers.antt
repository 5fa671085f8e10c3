-- Laws of numbers in bytes: what a store leaves, and that numbers and their bytes are inverse.
use Prim.Native.Nat.{ℕ, zero, suc, ◌+◌, ◌*◌, ◌/◌, ◌%◌, ◌^◌, ◌≤◌, ◌<◌}
use mathlib.Core.List.{List, [], ◌∷◌}
use mathlib.Core.Path.{◌≡◌, refl, sym, ap, ◌∙◌}
use native.Mathlib.Nat.{add_assoc, add-zero, mod-one, mod-eq_of_lt, div-div-eq-div-mul}
use native.Mathlib.Numerals.{add-one}
use native.Mathlib.Omega.{arith}
use lib.ListN.{length, get_or, set, take, drop, length-set, length-append, get_or-eq_default}
use lib.Pow.{mod-pow-add}
use lib.Seq.{get_or-set_same, get_or-set_other, get_or-take, get_or-drop}
use Rattle.little_endian.specs.Numbers.{number_at, with_number, number_bytes, words_of, bytes_of}

-- ---- a store

pub kept-number : (n : ℕ) (m : List ℕ) (a w : ℕ) → length (with_number n m a w) ≡ length m
unfolding with_number
kept-number zero m a w = refl
kept-number (suc n) m a w = kept-number n (set m a (w % 2 ^ 8)) (a + 1) (w / 2 ^ 8) ∙ length-set m a (w % 2 ^ 8)

-- it leaves every other byte,
other_byte : (n : ℕ) (m : List ℕ) (a w k : ℕ) → (a ≤ k → k < a + n → ⊥) → get_or (with_number n m a w) k 0 ≡ get_or m k 0
unfolding with_number
other_byte zero m a w k h = refl
other_byte (suc n) m a w k h =
    other_byte n (set m a (w % 2 ^ 8)) (a + 1) (w / 2 ^ 8) k (λ p q. h (omega arith) (omega arith))
    ∙ get_or-set_other m a k (w % 2 ^ 8) 0 (λ e. h (omega arith) (omega arith))

pub same_number : (n : ℕ) (l m : List ℕ) (a : ℕ) → ((k : ℕ) → a ≤ k → k < a + n → get_or l k 0 ≡ get_or m k 0) → number_at n l a ≡ number_at n m a
unfolding number_at
same_number zero l m a h = refl
same_number (suc n) l m a h = rw (h a (omega arith) (omega arith), same_number n l m (a + 1) (λ k p q. h k (omega arith) (omega arith)))

-- hence every number that shares no byte with it,
pub other-number : (n : ℕ) (m : List ℕ) (a w b : ℕ) → (b < a + n → a < b + n → ⊥) → number_at n (with_number n m a w) b ≡ number_at n m b
other-number n m a w b h = same_number n (with_number n m a w) m b (λ k p q. other_byte n m a w k (λ r s. h (omega arith) (omega arith)))

-- and its own bytes are the number, as far as they hold it
pub back : (n : ℕ) (m : List ℕ) (a w : ℕ) → a + n ≤ length m → number_at n (with_number n m a w) a ≡ w % 2 ^ (8 * n)
unfolding number_at with_number
back zero m a w h = sym (mod-one w)
back (suc n) m a w h =
    let stays = other_byte n (set m a (w % 2 ^ 8)) (a + 1) (w / 2 ^ 8) a (λ p q. omega arith) in
    let own = stays ∙ get_or-set_same m a (w % 2 ^ 8) 0 (omega arith) in
    let rest = back n (set m a (w % 2 ^ 8)) (a + 1) (w / 2 ^ 8) (omega (arith, length-set m a (w % 2 ^ 8))) in
    let sum = mod-pow-add w (8 * n) 8 in
    let e : 8 * suc n ≡ 8 * n + 8 = omega arith in
    rw (own, rest, e, sum) (omega arith)

-- ---- a number in a part of bytes

-- past the end there is none,
pub past_end : (n : ℕ) (l : List ℕ) (a : ℕ) → length l ≤ a → number_at n l a ≡ 0
unfolding number_at
past_end zero l a h = refl
past_end (suc n) l a h = rw (get_or-eq_default l 0 h, past_end n l (a + 1) (omega arith))

-- places count from where a part begins,
pub behind : (n : ℕ) (l : List ℕ) (p a : ℕ) → number_at n (drop p l) a ≡ number_at n l (p + a)
unfolding number_at
behind zero l p a = refl
behind (suc n) l p a = rw (get_or-drop p l a 0, behind n l p (a + 1), add_assoc p a 1)

-- and a part that has all of its bytes has the number
pub cut : (n m : ℕ) (l : List ℕ) (a : ℕ) → a + n ≤ m → number_at n (take m l) a ≡ number_at n l a
cut n m l a h = same_number n (take m l) l a (λ k p q. get_or-take m l k 0 (omega arith))

pub part : (n : ℕ) (l : List ℕ) (a : ℕ) → number_at n (take n (drop a l)) 0 ≡ number_at n l a
part n l a = cut n n (drop a l) 0 (omega arith) ∙ behind n l a 0 ∙ ap (number_at n l) (add-zero a)

pub word_bound : (l : List ℕ) (a : ℕ) → ((k : ℕ) → get_or l k 0 < 2 ^ 8) → number_at 4 l a < 2 ^ 32
unfolding number_at
word_bound l a h = omega (arith, h a, h (a + 1), h (a + 1 + 1), h (a + 1 + 1 + 1))

-- ---- a number's bytes alone

pub bytes-length : (n w : ℕ) → length (number_bytes n w) ≡ n
unfolding number_bytes
bytes-length zero w = refl
bytes-length (suc n) w = ap suc (bytes-length n (w / 2 ^ 8))

-- a word's, place by place
pub four_bytes : (w : ℕ) → number_bytes 4 w ≡ w % 256 ∷ w / 256 % 256 ∷ w / 65536 % 256 ∷ w / 16777216 % 256 ∷ []
unfolding number_bytes
four_bytes w = simp div-div-eq-div-mul

pub number-back : (n w : ℕ) → number_at n (number_bytes n w) 0 ≡ w % 2 ^ (8 * n)
unfolding number_at number_bytes
number-back zero w = sym (mod-one w)
number-back (suc n) w =
    let later : number_at n (w % 2 ^ 8 ∷ number_bytes n (w / 2 ^ 8)) 1 ≡ number_at n (number_bytes n (w / 2 ^ 8)) 0 =
    sym (behind n (w % 2 ^ 8 ∷ number_bytes n (w / 2 ^ 8)) 1 0) in
    let rest = later ∙ number-back n (w / 2 ^ 8) in
    let sum = mod-pow-add w (8 * n) 8 in
    let e : 8 * suc n ≡ 8 * n + 8 = omega arith in
    rw (rest, e, sum) (omega arith)

pub word_back : (w : ℕ) → w < 2 ^ 32 → number_at 4 (number_bytes 4 w) 0 ≡ w
word_back w h = number-back 4 w ∙ mod-eq_of_lt h

low : (x n : ℕ) → x < 256 → (x + 256 * n) % 256 ≡ x
low x n h = omega arith

high : (x n : ℕ) → x < 256 → (x + 256 * n) / 256 ≡ n
high x n h = omega arith

pub bytes_back : (n : ℕ) (c : List ℕ) → length c ≡ n → ((k : ℕ) → get_or c k 0 < 2 ^ 8) → number_bytes n (number_at n c 0) ≡ c
unfolding number_at number_bytes
bytes_back zero [] e h = refl
bytes_back zero (x ∷ c) e h = absurd (omega arith)
bytes_back (suc n) [] e h = absurd (omega arith)
bytes_back (suc n) (x ∷ c) e h =
    let later : number_at n (x ∷ c) 1 ≡ number_at n c 0 = sym (behind n (x ∷ c) 1 0) in
    let rest = bytes_back n c (omega arith) (λ k. h (suc k)) in
    let r = number_at n (x ∷ c) 1 in
    (λ i. low x r (h 0) i ∷ number_bytes n (high x r (h 0) i)) ∙ ap (λ z. x ∷ z) (ap (number_bytes n) later ∙ rest)

-- ---- words

pub words-length : (n : ℕ) (l : List ℕ) → length (words_of n l) ≡ n
unfolding words_of
words-length zero l = refl
words-length (suc n) l = length-append (words_of n l) (number_at 4 l (4 * n) ∷ []) ∙ rw (words-length n l) (add-one n)

pub bytes-of-length : (n : ℕ) (words : List ℕ) → length (bytes_of n words) ≡ 4 * n
unfolding bytes_of
bytes-of-length zero words = refl
bytes-of-length (suc n) words =
    length-append (bytes_of n words) (number_bytes 4 (get_or words n 0))
    ∙ rw (bytes-of-length n words, bytes-length 4 (get_or words n 0)) (omega arith)
