-- Lists of words and their bytes are inverse, and both loops over them.
use Prim.Native.Nat.{ℕ, zero, suc, ◌+◌, ◌*◌, ◌≤◌, ◌<◌}
use mathlib.Core.List.{List, [], ◌∷◌, ◌++◌, append_assoc, append-nil}
use mathlib.Core.Path.{◌≡◌, refl, sym, ap, ◌∙◌}
use native.Mathlib.Nat.{add-zero}
use native.Mathlib.Omega.{arith}
use lib.ListN.{length, get_or, take, drop, set, length-append, length-drop}
use lib.Seq.{get_or-drop, drop-drop, length-take-le, take_all}
use Rattle.image_layout.proofs.Join.{grown-none, grown-one, grown-more, grown-same, grown-new}
use Rattle.image_layout.proofs.Parts.{concat_below-same, concat_below-read, read-concat_below, piece-even, pieces-even}
use Rattle.image_layout.specs.Join.{concat_below, Grown}
use Rattle.std.proofs.lemmas.Slice.{take-put_mid}
use borrow.Rule.Slice.PartMut.{put_mid}
use Rattle.little_endian.proofs.Numbers.{behind, cut, part, bytes-length, word_back, bytes_back}
use Rattle.little_endian.specs.Numbers.{number_at, number_bytes, bytes_of, words_of}

pub four-of : (c : List ℕ) → length c ≡ 4 → get_or c 0 0 ∷ get_or c 1 0 ∷ get_or c 2 0 ∷ get_or c 3 0 ∷ [] ≡ c
four-of [] h = absurd (omega arith)
four-of (x ∷ []) h = absurd (omega arith)
four-of (x ∷ y ∷ []) h = absurd (omega arith)
four-of (x ∷ y ∷ z ∷ []) h = absurd (omega arith)
four-of (x ∷ y ∷ z ∷ w ∷ []) h = refl
four-of (x ∷ y ∷ z ∷ w ∷ v ∷ c) h = absurd (omega arith)

-- four bytes stored one after the other
pub grown-four : (l : List ℕ) (at a b c d : ℕ) → at + 4 ≤ length l
    → Grown l (set (set (set (set l at a) (at + 1) b) (at + 2) c) (at + 3) d) at (at + 4) (a ∷ b ∷ c ∷ d ∷ [])
grown-four l at a b c d h =
    let g1 = grown-one l at a (omega arith) in
    let g2 = grown-one (set l at a) (at + 1) b (omega (arith, g1.size)) in
    let g3 = grown-same {at = at + 1} (at + 2) (omega arith) g2 in
    let g4 = grown-more g1 g3 in
    let g5 = grown-same (at + 3) (omega arith) (grown-one (set (set l at a) (at + 1) b) (at + 2) c (omega (arith, g4.size))) in
    let g6 = grown-more g4 g5 in
    let g7 = grown-same (at + 4) (omega arith) (grown-one (set (set (set l at a) (at + 1) b) (at + 2) c) (at + 3) d (omega (arith, g6.size))) in
    grown-more g6 g7

-- a part of a list written at once
pub grown-put : {A : Type 0} {l ys : List A} {k p : ℕ} (at : ℕ) (new : List A) → ys ≡ new → at + k ≤ length l → length new ≡ k → p ≡ at + k → Grown l (put_mid at k l ys) at p new
grown-put {A = A} {l = l} {ys = ys} {k = k} {p = p} at new e room long next =
    let g : Grown l (put_mid at k l new) at p new = record {
      size = omega (arith, length-append (take at l) (new ++ drop k (drop at l)), length-append new (drop k (drop at l)), length-take-le at l (omega arith), length-drop k (drop at l), length-drop at l);
      next = omega arith;
      kept = take-put_mid at k l new p (omega arith) (omega arith);
    } in
    rw e g

-- two
pub grown-two : (l : List ℕ) (at a b : ℕ) → at + 2 ≤ length l → Grown l (set (set l at a) (at + 1) b) at (at + 2) (a ∷ b ∷ [])
grown-two l at a b h =
    let g1 = grown-one l at a (omega arith) in
    grown-more g1 (grown-same {at = at + 1} (at + 2) (omega arith) (grown-one (set l at a) (at + 1) b (omega (arith, g1.size))))

-- Many: lists laid end to end.

pub bytes-concat_below : (n : ℕ) (words : List ℕ) → bytes_of n words ≡ concat_below n (λ j. number_bytes 4 (get_or words j 0))
unfolding bytes_of concat_below
bytes-concat_below zero words = refl
bytes-concat_below (suc n) words = ap (λ z. z ++ number_bytes 4 (get_or words n 0)) (bytes-concat_below n words)

pub words-concat_below : (n : ℕ) (l : List ℕ) → words_of n l ≡ concat_below n (λ j. number_at 4 l (4 * j) ∷ [])
unfolding words_of concat_below
words-concat_below zero l = refl
words-concat_below (suc n) l = ap (λ z. z ++ number_at 4 l (4 * n) ∷ []) (words-concat_below n l)

pub bytes-none : {l : List ℕ} (at from : ℕ) (words : List ℕ) → Grown l l at (at + 4 * 0) (bytes_of 0 (drop from words))
unfolding bytes_of
bytes-none {l = l} at from words = grown-same (at + 4 * 0) (omega arith) (grown-none l at)

pub words-none : {l : List ℕ} (from : ℕ) (bytes : List ℕ) → Grown l l from (from + 0) (words_of 0 bytes)
unfolding words_of
words-none {l = l} from bytes = grown-same (from + 0) (omega arith) (grown-none l from)

-- four words stored one after the other
pub four-put : {l r s t u : List ℕ} (at from : ℕ) (words : List ℕ) → Grown l r at (at + 4) (number_bytes 4 (get_or words from 0))
    → Grown r s (at + 4) (at + 4 + 4) (number_bytes 4 (get_or words (from + 1) 0)) → Grown s t (at + 8) (at + 8 + 4) (number_bytes 4 (get_or words (from + 2) 0))
    → Grown t u (at + 12) (at + 12 + 4) (number_bytes 4 (get_or words (from + 3) 0)) → Grown l u at (at + 16) (bytes_of 4 (drop from words))
unfolding bytes_of
four-put at from words f g h k =
    let first : get_or words from 0 ≡ get_or (drop from words) 0 0 = ap (λ z. get_or words z 0) (let z : from ≡ from + 0 = omega arith in z) ∙ sym (get_or-drop from words 0 0) in
    let e : (n : ℕ) → get_or words (from + n) 0 ≡ get_or (drop from words) n 0 = λ n. sym (get_or-drop from words n 0) in
    let two = grown-same {p = at + 4 + 4} (at + 8) (omega arith) (grown-more f g) in
    let three = grown-same {p = at + 8 + 4} (at + 12) (omega arith) (grown-more two h) in
    grown-new (λ i. ((number_bytes 4 (first i) ++ number_bytes 4 (e 1 i)) ++ number_bytes 4 (e 2 i)) ++ number_bytes 4 (e 3 i))
    (grown-same {p = at + 12 + 4} (at + 16) (omega arith) (grown-more three k))

-- four words taken
pub four-taken : (at a b c d : ℕ) (bytes : List ℕ)
    → a ≡ number_at 4 bytes at → b ≡ number_at 4 bytes (at + 4) → c ≡ number_at 4 bytes (at + 8) → d ≡ number_at 4 bytes (at + 12)
    → a ∷ b ∷ c ∷ d ∷ [] ≡ words_of 4 (drop at bytes)
unfolding words_of
four-taken at a b c d bytes e f g h =
    let first : a ≡ number_at 4 (drop at bytes) 0 = e ∙ (ap (number_at 4 bytes) (let z : at ≡ at + 0 = omega arith in z) ∙ sym (behind 4 bytes at 0)) in
    let k : (n : ℕ) → number_at 4 bytes (at + n) ≡ number_at 4 (drop at bytes) n = λ n. sym (behind 4 bytes at n) in
    (λ i. first i ∷ (f ∙ k 4) i ∷ (g ∙ k 8) i ∷ (h ∙ k 12) i ∷ [])

-- so many, and then more
bytes-add : (a b : ℕ) (words : List ℕ) → bytes_of (a + b) words ≡ bytes_of a words ++ bytes_of b (drop a words)
unfolding bytes_of
bytes-add a zero words = ap (λ n. bytes_of n words) (add-zero a) ∙ sym (append-nil (bytes_of a words))
bytes-add a (suc b) words =
    let e : a + suc b ≡ suc (a + b) = omega arith in
    ap (λ n. bytes_of n words) e
    ∙ ((λ i. bytes-add a b words i ++ number_bytes 4 (sym (get_or-drop a words b 0) i))
    ∙ append_assoc (bytes_of a words) (bytes_of b (drop a words)) (number_bytes 4 (get_or (drop a words) b 0)))

words-add : (a b : ℕ) (l : List ℕ) → words_of (a + b) l ≡ words_of a l ++ words_of b (drop (4 * a) l)
unfolding words_of
words-add a zero l = ap (λ n. words_of n l) (add-zero a) ∙ sym (append-nil (words_of a l))
words-add a (suc b) l =
    let e : a + suc b ≡ suc (a + b) = omega arith in
    let f : 4 * (a + b) ≡ 4 * a + 4 * b = omega arith in
    ap (λ n. words_of n l) e
    ∙ ((λ i. words-add a b l i ++ (ap (number_at 4 l) f ∙ sym (behind 4 l (4 * a) (4 * b))) i ∷ [])
    ∙ append_assoc (words_of a l) (words_of b (drop (4 * a) l)) (number_at 4 (drop (4 * a) l) (4 * b) ∷ []))

-- four more
pub bytes-fours : {l r m : List ℕ} (at from j : ℕ) (words : List ℕ) → Grown l r at (at + 16 * j) (bytes_of (4 * j) (drop from words))
    → Grown r m (at + 16 * j) (at + 16 * j + 16) (bytes_of 4 (drop (from + 4 * j) words)) → Grown l m at (at + 16 * (j + 1)) (bytes_of (4 * (j + 1)) (drop from words))
bytes-fours at from j words g h =
    let e : 4 * j + 4 ≡ 4 * (j + 1) = omega arith in
    let x : bytes_of (4 * j) (drop from words) ++ bytes_of 4 (drop (from + 4 * j) words) ≡ bytes_of (4 * (j + 1)) (drop from words) =
    ap (λ z. bytes_of (4 * j) (drop from words) ++ bytes_of 4 z) (sym (drop-drop (4 * j) from words)) ∙ (sym (bytes-add (4 * j) 4 (drop from words)) ∙ ap (λ n. bytes_of n (drop from words)) e) in
    grown-same {p = at + 16 * j + 16} (at + 16 * (j + 1)) (omega arith) (grown-new x (grown-more g h))

pub words-fours : {l r m : List ℕ} (from at j : ℕ) (bytes : List ℕ) → Grown l r from (from + 4 * j) (words_of (4 * j) (drop at bytes))
    → Grown r m (from + 4 * j) (from + 4 * j + 4) (words_of 4 (drop (at + 16 * j) bytes)) → Grown l m from (from + 4 * (j + 1)) (words_of (4 * (j + 1)) (drop at bytes))
words-fours from at j bytes g h =
    let e : 4 * j + 4 ≡ 4 * (j + 1) = omega arith in
    let f : at + 16 * j ≡ at + 4 * (4 * j) = omega arith in
    let x : words_of (4 * j) (drop at bytes) ++ words_of 4 (drop (at + 16 * j) bytes) ≡ words_of (4 * (j + 1)) (drop at bytes) =
    ap (λ z. words_of (4 * j) (drop at bytes) ++ words_of 4 z) (ap (λ n. drop n bytes) f ∙ sym (drop-drop (4 * (4 * j)) at bytes)) ∙ (sym (words-add (4 * j) 4 (drop at bytes)) ∙ ap (λ n. words_of n (drop at bytes)) e) in
    grown-same {p = from + 4 * j + 4} (from + 4 * (j + 1)) (omega arith) (grown-new x (grown-more g h))

-- the words of more bytes than they have
pub words-cut : (n : ℕ) (l : List ℕ) → words_of n (take (4 * n) l) ≡ words_of n l
words-cut n l =
    words-concat_below n (take (4 * n) l)
    ∙ (concat_below-same n (λ j. number_at 4 (take (4 * n) l) (4 * j) ∷ []) (λ j. number_at 4 l (4 * j) ∷ [])
    (λ j h. ap (λ z. z ∷ []) (cut 4 (4 * n) l (4 * j) (omega arith)))
    ∙ sym (words-concat_below n l))

-- words in bytes and back
module _ (n : ℕ) (words : List ℕ) (h : n ≤ length words) (b : (k : ℕ) → get_or words k 0 < 4294967296) where
  word-again : (j : ℕ) → j < n → number_at 4 (bytes_of n words) (4 * j) ≡ get_or words (0 + j) 0
  word-again j k =
      sym (part 4 (bytes_of n words) (4 * j))
      ∙ (ap (λ z. number_at 4 (take 4 (drop (4 * j) z)) 0) (bytes-concat_below n words)
      ∙ (ap (λ z. number_at 4 z 0) (piece-even n j 4 (λ j. number_bytes 4 (get_or words j 0)) (λ i _. bytes-length 4 (get_or words i 0)) k)
      ∙ (word_back (get_or words j 0) (b j) ∙ ap (λ z. get_or words z 0) (let z : j ≡ 0 + j = omega arith in z))))

  pub words_back : words_of n (bytes_of n words) ≡ take n words
  words_back =
      words-concat_below n (bytes_of n words)
      ∙ (concat_below-same n (λ j. number_at 4 (bytes_of n words) (4 * j) ∷ []) (λ j. get_or words (0 + j) 0 ∷ []) (λ j k. ap (λ z. z ∷ []) (word-again j k))
      ∙ concat_below-read 0 n 0 words (omega arith))

take_bound : (w : ℕ) (l : List ℕ) → ((k : ℕ) → get_or l k 0 < 256) → (k : ℕ) → get_or (take w l) k 0 < 256
take_bound zero l h k = omega arith
take_bound (suc w) [] h k = omega arith
take_bound (suc w) (x ∷ l) h zero = h 0
take_bound (suc w) (x ∷ l) h (suc k) = take_bound w l (λ k. h (suc k)) k

pub part-bound : (w p : ℕ) (l : List ℕ) → ((k : ℕ) → get_or l k 0 < 256) → (k : ℕ) → get_or (take w (drop p l)) k 0 < 256
part-bound w p l h = take_bound w (drop p l) (λ k. rw (get_or-drop p l k 0) (h (p + k)))

-- bytes in words and back
module _ (n : ℕ) (l : List ℕ) (e : length l ≡ 4 * n) (b : (k : ℕ) → get_or l k 0 < 256) where
  four-again : (j : ℕ) → j < n → number_bytes 4 (get_or (words_of n l) j 0) ≡ take 4 (drop (0 + 4 * j) l)
  four-again j h =
      ap (λ z. number_bytes 4 (get_or z j 0)) (words-concat_below n l)
      ∙ (ap (number_bytes 4) (read-concat_below 0 n j (λ j. number_at 4 l (4 * j)) h ∙ sym (part 4 l (4 * j)))
      ∙ (bytes_back 4 (take 4 (drop (4 * j) l)) (length-take-le 4 (drop (4 * j) l) (rw (length-drop (4 * j) l) (omega arith))) (part-bound 4 (4 * j) l b)
      ∙ ap (λ z. take 4 (drop z l)) (let z : 4 * j ≡ 0 + 4 * j = omega arith in z)))

  pub words-bytes : bytes_of n (words_of n l) ≡ l
  words-bytes =
      bytes-concat_below n (words_of n l)
      ∙ (concat_below-same n (λ j. number_bytes 4 (get_or (words_of n l) j 0)) (λ j. take 4 (drop (0 + 4 * j) l)) four-again
      ∙ (pieces-even n 4 0 l ∙ take_all (4 * n) l (omega arith)))
