-- Words and their bytes.
use Prim.Native.Nat.{ℕ, zero, suc, ◌+◌, ◌-◌, ◌*◌, ◌/◌, ◌%◌, ◌<◌}
use mathlib.Core.Bool.{Bool, true, false}
use mathlib.Core.List.{List, [], ◌∷◌, ◌++◌}
use mathlib.Core.Path.{◌≡◌, refl, sym, ap, ◌∙◌}
use native.Mathlib.Omega.{arith}
use native.Mathlib.Nat.{div-one, add-zero, add_assoc, div-div-eq-div-mul, mod-eq_of_lt}
use borrow.Author.Tests.{ltb-true, ltb-false}
use lib.Dec.{ltb}
use lib.ListN.{length, get_or, get_or-append, get_or-eq_default}
use lib.Seq.{get_or_at, ext_get_or, get_or-append-add}
use Rattle.little_endian.specs.Numbers.{number_at, number_bytes, words_of, bytes_of}
use Rattle.little_endian.proofs.Numbers.{four_bytes, words-length, bytes-of-length}
use Rattle.program.specs.Program.{program_in}
use Rattle.intel_hex.specs.Program.{program_bytes}
use Rattle.intel_hex.specs.Storing.{powers}

-- bytes are bytes
abbrev pub Small : List ℕ → Type 0
Small bs = (i : ℕ) → get_or bs i 0 < 256

pub length-bytes : (ws : List ℕ) → length (program_bytes ws) ≡ 4 * length ws
unfolding program_bytes
length-bytes ws = bytes-of-length (length ws) ws

-- a byte of a word
byte-in : (w i : ℕ) → i < 4 → get_or (number_bytes 4 w) i 0 ≡ w / get_or powers i 0 % 256
byte-in w zero h = rw (four_bytes w, div-one w)
byte-in w (suc zero) h = rw (four_bytes w)
byte-in w (suc (suc zero)) h = rw (four_bytes w)
byte-in w (suc (suc (suc zero))) h = rw (four_bytes w)
byte-in w (suc (suc (suc (suc i)))) h = absurd (omega arith)

byte-below : (n : ℕ) (ws : List ℕ) (k : ℕ) → k < 4 * n → get_or (bytes_of n ws) k 0 ≡ get_or ws (k / 4) 0 / get_or powers (k % 4) 0 % 256
unfolding bytes_of
byte-below zero ws k h = absurd (omega arith)
byte-below (suc n) ws k h = go (byte-below n ws k) (ltb k (4 * n)) refl
  where
    go : (k < 4 * n → get_or (bytes_of n ws) k 0 ≡ get_or ws (k / 4) 0 / get_or powers (k % 4) 0 % 256) → (b : Bool) → ltb k (4 * n) ≡ b →
        get_or (bytes_of n ws ++ number_bytes 4 (get_or ws n 0)) k 0 ≡ get_or ws (k / 4) 0 / get_or powers (k % 4) 0 % 256
    go ih true t =
        let l = bytes-of-length n ws in
        let g = ltb-true k (4 * n) t in
        get_or-append (bytes_of n ws) (number_bytes 4 (get_or ws n 0)) 0 k (omega arith) ∙ ih g
    go ih false t =
        let l = bytes-of-length n ws in
        let g = ltb-false k (4 * n) t in
        let f : length (bytes_of n ws) + (k - 4 * n) ≡ k = omega arith in
        let q : n ≡ k / 4 = omega arith in
        let r : k - 4 * n ≡ k % 4 = omega arith in
        ap (λ (m : ℕ). get_or (bytes_of n ws ++ number_bytes 4 (get_or ws n 0)) m 0) (sym f)
        ∙ get_or-append-add (bytes_of n ws) (number_bytes 4 (get_or ws n 0)) (k - 4 * n) 0
        ∙ byte-in (get_or ws n 0) (k - 4 * n) (omega arith)
        ∙ ap (λ (m : ℕ). get_or ws m 0 / get_or powers (k - 4 * n) 0 % 256) q
        ∙ ap (λ (m : ℕ). get_or ws (k / 4) 0 / get_or powers m 0 % 256) r

pub byte-get : (ws : List ℕ) (k : ℕ) → k < 4 * length ws → get_or (program_bytes ws) k 0 ≡ get_or ws (k / 4) 0 / get_or powers (k % 4) 0 % 256
unfolding program_bytes
byte-get ws k h = byte-below (length ws) ws k h

pub bytes_small : (ws : List ℕ) → Small (program_bytes ws)
bytes_small ws k = go (ltb k (4 * length ws)) refl
  where
    go : (b : Bool) → ltb k (4 * length ws) ≡ b → get_or (program_bytes ws) k 0 < 256
    go true t = rw (byte-get ws k (ltb-true k (4 * length ws) t)) (omega arith)
    go false t = rw (get_or-eq_default (program_bytes ws) 0 {n = k} (omega (arith, length-bytes ws, ltb-false k (4 * length ws) t))) (omega arith)

-- the word at a place, of bytes and zeros behind them
abbrev pub word_at : List ℕ → ℕ → ℕ
word_at bs k = get_or bs (4 * k) 0 + 0x100 * get_or bs (4 * k + 1) 0 + 0x10000 * get_or bs (4 * k + 2) 0 + 0x1000000 * get_or bs (4 * k + 3) 0

number_word : (bs : List ℕ) (k : ℕ) → number_at 4 bs (4 * k) ≡ word_at bs k
unfolding number_at
number_word bs k = simp (add-zero, add_assoc) (omega arith)

word_below : (n : ℕ) (bs : List ℕ) (k : ℕ) → k < n → get_or (words_of n bs) k 0 ≡ word_at bs k
unfolding words_of
word_below zero bs k h = absurd (omega arith)
word_below (suc n) bs k h = go (word_below n bs k) (ltb k n) refl
  where
    go : (k < n → get_or (words_of n bs) k 0 ≡ word_at bs k) → (b : Bool) → ltb k n ≡ b → get_or (words_of n bs ++ number_at 4 bs (4 * n) ∷ []) k 0 ≡ word_at bs k
    go ih true t =
        let l = words-length n bs in
        let g = ltb-true k n t in
        get_or-append (words_of n bs) (number_at 4 bs (4 * n) ∷ []) 0 k (omega arith) ∙ ih g
    go ih false t =
        let g = ltb-false k n t in
        let e : n ≡ k = omega arith in
        get_or_at (words_of n bs) (number_at 4 bs (4 * n)) [] 0 k (words-length n bs ∙ e) ∙ number_word bs n ∙ ap (word_at bs) e

pub length-words : (bs : List ℕ) (m : ℕ) → length bs ≡ 4 * m → length (program_in bs) ≡ m
length-words bs m h = words-length (length bs / 4) bs ∙ omega arith

pub words-get : (bs : List ℕ) (m k : ℕ) → length bs ≡ 4 * m → k < m → get_or (program_in bs) k 0 ≡ word_at bs k
words-get bs m k h g = word_below (length bs / 4) bs k (omega arith)

word-again : (w : ℕ) → w < 0x100000000 → w / 1 % 256 + 0x100 * (w / 0x100 % 256) + 0x10000 * (w / 0x10000 % 256) + 0x1000000 * (w / 0x1000000 % 256) ≡ w
word-again w h =
    let e : w / 0x100 / 0x100 ≡ w / 0x10000 = div-div-eq-div-mul w 0x100 0x100 in
    let f : w / 0x10000 / 0x100 ≡ w / 0x1000000 = div-div-eq-div-mul w 0x10000 0x100 in
    let c : w / 0x1000000 < 256 = omega arith in
    rw (div-one w) (glue w (w / 0x100) (w / 0x10000) (w / 0x1000000) (w % 256) (w / 0x100 % 256) (w / 0x10000 % 256) (w / 0x1000000 % 256)
    (omega arith) (part (w / 0x100) (w / 0x10000) e) (part (w / 0x10000) (w / 0x1000000) f) (sym (mod-eq_of_lt c)))
  where
    part : (a b : ℕ) → a / 0x100 ≡ b → a ≡ 256 * b + a % 256
    part a b e = omega arith

    glue : (w a b c x y z v : ℕ) → w ≡ 256 * a + x → a ≡ 256 * b + y → b ≡ 256 * c + z → c ≡ v → x + 0x100 * y + 0x10000 * z + 0x1000000 * v ≡ w
    glue w a b c x y z v p q r s = omega arith

-- a program's bytes are that program
pub words-again : (ws : List ℕ) → ((i : ℕ) → get_or ws i 0 < 0x100000000) → program_in (program_bytes ws) ≡ ws
words-again ws small =
    ext_get_or 0 (program_in (program_bytes ws)) ws (length-words (program_bytes ws) (length ws) (length-bytes ws)) (λ k h. at-word k (omega (arith, h, length-words (program_bytes ws) (length ws) (length-bytes ws))))
  where
    byte : (k i : ℕ) → k < length ws → i < 4 → get_or (program_bytes ws) (4 * k + i) 0 ≡ get_or ws k 0 / get_or powers i 0 % 256
    byte k i h g =
        let q : (4 * k + i) / 4 ≡ k = omega arith in
        let r : (4 * k + i) % 4 ≡ i = omega arith in
        byte-get ws (4 * k + i) (omega arith) ∙ rw (q, r)

    at-word : (k : ℕ) → k < length ws → get_or (program_in (program_bytes ws)) k 0 ≡ get_or ws k 0
    at-word k h =
        let z : 4 * k + 0 ≡ 4 * k = omega arith in
        words-get (program_bytes ws) (length ws) k (length-bytes ws) h
        ∙ rw (ap (λ (m : ℕ). get_or (program_bytes ws) m 0) (sym z) ∙ byte k 0 h (omega arith), byte k 1 h (omega arith), byte k 2 h (omega arith), byte k 3 h (omega arith))
        (word-again (get_or ws k 0) (small k))

pub power-some : (i : ℕ) → i < 4 → 0 < get_or powers i 0
power-some zero h = omega arith
power-some (suc zero) h = omega arith
power-some (suc (suc zero)) h = omega arith
power-some (suc (suc (suc zero))) h = omega arith
power-some (suc (suc (suc (suc k)))) h = absurd (omega arith)

-- a byte put into its word fits
pub put-fits : (i old b : ℕ) → i < 4 → b < 256 → (b * get_or powers i 0 < 0x100000000) × (old % get_or powers i 0 + b * get_or powers i 0 < 0x100000000)
put-fits zero old b h g = (omega arith, omega arith)
put-fits (suc zero) old b h g = (omega arith, omega arith)
put-fits (suc (suc zero)) old b h g = (omega arith, omega arith)
put-fits (suc (suc (suc zero))) old b h g = (omega arith, omega arith)
put-fits (suc (suc (suc (suc i)))) old b h g = absurd (omega arith)
