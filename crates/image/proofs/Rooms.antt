-- The registers and the memory that an image holds, found at their fixed places.
use Prim.Native.Nat.{ℕ, ◌+◌, ◌*◌, ◌≤◌, ◌<◌}
use mathlib.Core.List.{List}
use mathlib.Core.Path.{◌≡◌, sym, ap, ◌∙◌}
use native.Mathlib.Omega.{arith}
use lib.ListN.{length, take, drop, length-append, length-drop}
use lib.Seq.{length-take-le}
use Rattle.image_layout.proofs.Join.{grown-more, grown-whole, length-even}
use Rattle.image_layout.proofs.Parts.{concat_below-same}
use Rattle.image_layout.specs.Join.{concat_below, Grown}
use Rattle.image_layout.specs.Layout.{row_of, kinds, order_of, start_of, body_place, body_at, body_in}
use Rattle.little_endian.specs.Numbers.{words_of}
use Rattle.image.specs.Image.{words_in, registers_in, memory_in}
use Rattle.image.specs.Types.{Sr, Vr, Mm, Shape, Kind}
use Rattle.image.proofs.RecordIn.{body-room}
use Rattle.image.proofs.Words.{words-cut}
use Rattle.little_endian.proofs.Numbers.{words-length}

module _ (s : Shape) (l : List ℕ) where
  -- words n in a record, at the places of the bodies
  pub room-read : (k : Kind) (n at size : ℕ) → (row_of s k).size ≡ 4 * n → ((i : ℕ) → at + size * i ≡ body_place (row_of s k) (start_of s (order_of k)) i)
      → concat_below (row_of s k).count (λ i. words_of n (drop (at + size * i) l)) ≡ words_in s l k n
  unfolding words_in body_at
  room-read k n at size e place =
      concat_below-same (row_of s k).count (λ i. words_of n (drop (at + size * i) l)) (λ i. words_of n (body_in s l k i))
      (λ i h. sym (words-cut n (drop (at + size * i) l)) ∙ (λ j. words_of n (take (sym e j) (drop (place i j) l))))

  pub memory-read : (at size : ℕ) → ((i : ℕ) → at + size * i ≡ body_place (row_of s Mm) (start_of s (order_of Mm)) i)
      → concat_below s.blocks (λ i. take 64 (drop (at + size * i) l)) ≡ memory_in s l
  unfolding memory_in body_at
  memory-read at size place =
      concat_below-same s.blocks (λ i. take 64 (drop (at + size * i) l)) (body_in s l Mm) (λ i h. ap (λ p. take 64 (drop p l)) (place i))

  -- Lengths.

  pub room-length : (k : Kind) (n : ℕ) → length (words_in s l k n) ≡ n * (row_of s k).count
  unfolding words_in
  room-length k n = length-even (row_of s k).count n (λ i. words_of n (body_in s l k i)) (λ i _. words-length n (body_in s l k i))

  pub registers-length : length (registers_in s l) ≡ 8704
  unfolding registers_in
  registers-length = length-append (words_in s l Sr 64) (words_in s l Vr 16) ∙ omega (arith, room-length Sr 64, room-length Vr 16)

  module _ (long : start_of s kinds ≤ length l) where
    pub body-size : (k : Kind) (i : ℕ) → i < (row_of s k).count → length (body_in s l k i) ≡ (row_of s k).size
    unfolding body_at
    body-size k i h =
        let p = body_place (row_of s k) (start_of s (order_of k)) i in
        length-take-le (row_of s k).size (drop p l) (rw (length-drop p l) (omega (arith, body-room s k i (length l) h long)))

    pub memory-length : length (memory_in s l) ≡ 64 * s.blocks
    unfolding memory_in
    memory-length = length-even s.blocks 64 (body_in s l Mm) (body-size Mm)

  -- both parts of the register file filled
  pub registers-read : {m n r : List ℕ} {p : ℕ} → length m ≡ 8704 → Grown m n 0 512 (words_in s l Sr 64) → Grown n r 512 p (words_in s l Vr 16) → r ≡ registers_in s l
  unfolding registers_in
  registers-read h f g = grown-whole (grown-more f g) (registers-length ∙ sym h)
