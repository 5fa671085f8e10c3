-- Texts put into a buffer one behind the other are one text.
use Prim.Native.Nat.{ℕ, suc, ◌+◌, ◌<◌, ◌≤◌}
use mathlib.Core.List.{List, [], ◌∷◌, ◌++◌, append_assoc, append-nil}
use mathlib.Core.Path.{◌≡◌, sym, ◌∙◌, ap}
use native.Mathlib.Numerals.{add-one}
use native.Mathlib.Nat.{add_assoc, add-zero}
use native.Mathlib.Omega.{arith}
use borrow.Author.Tests.{le-ltb}
use lib.ListN.{length, take, drop, set, length-append, length-drop, take-append-drop}
use lib.Seq.{take_at, drop_at, drop-drop, length-take-le, set_split, append_snoc}
use Rattle.text.specs.Buffer.{placed, Wrote, wrote, writes, puts}

pub end_is : {x y : Wrote} → x ≡ y → x.end ≡ y.end
end_is h = ap (λ (x : Wrote). x.end) h

pub buffer-is : {x y : Wrote} → x ≡ y → x.buffer ≡ y.buffer
buffer-is h = ap (λ (x : Wrote). x.buffer) h

module _ (l : List ℕ) (at : ℕ) (t : List ℕ) (fits : at + length t ≤ length l) where
  head : length (take at l ++ t) ≡ at + length t
  head = length-append (take at l) t ∙ ap (λ (n : ℕ). n + length t) (length-take-le at l (omega arith))

  pub placed-twice : (u : List ℕ) → placed (placed l at t) (at + length t) u ≡ placed l at (t ++ u)
  placed-twice u =
      rw (
        take_at (take at l ++ t) (drop (at + length t) l) (at + length t) head,
        ← drop-drop (length u) (at + length t) (placed l at t),
        drop_at (take at l ++ t) (drop (at + length t) l) (at + length t) head,
        drop-drop (length u) (at + length t) l,
        append_assoc (take at l) t u,
        length-append t u,
        add_assoc at (length t) (length u),
      )

  -- a text put behind one that was put there
  pub next : (u : List ℕ) (e : ℕ) (b : List ℕ) (f : ℕ) (d : List ℕ) → wrote e b ≡ writes l at t → wrote f d ≡ writes b e u → wrote f d ≡ writes l at (t ++ u)
  next u e b f d p q =
      (rw (end_is p, buffer-is p) at q) ∙ rw (placed-twice u, length-append t u, add_assoc at (length t) (length u))

-- nothing put anywhere
pub writes-none : (l : List ℕ) (at : ℕ) → wrote at l ≡ writes l at []
writes-none l at = rw (add-zero at, append-nil (take at l), take-append-drop at l)

-- one element put at a place
pub writes_one : (l : List ℕ) (at : ℕ) (x : ℕ) → at < length l → wrote (at + 1) (set l at x) ≡ writes l at (x ∷ [])
writes_one l at x h = rw (set_split l at x h, add-one at) (ap (wrote (suc at)) (sym (append_snoc (take at l) x (drop (suc at) l))))

length-placed : (l : List ℕ) (at : ℕ) (t : List ℕ) → at + length t ≤ length l → length (placed l at t) ≡ length l
length-placed l at t fits =
    length-append (take at l ++ t) (drop (at + length t) l) ∙
    rw (length-append (take at l) t, length-take-le at l (omega arith), length-drop (at + length t) l) (omega arith)

-- a part that has room
pub puts-fits : (l : List ℕ) (at : ℕ) (t u : List ℕ) → at + length t + length u ≤ length l → puts (writes l at t) u ≡ writes l at (t ++ u)
unfolding puts
puts-fits l at t u fits =
    let first : at + length t ≤ length l = omega arith in
    rw (length-placed l at t first, le-ltb (length l) (at + length t + length u) fits, placed-twice l at t first u, length-append t u, add_assoc at (length t) (length u))

-- the same of the first text
pub puts-at : (l : List ℕ) (at : ℕ) (u : List ℕ) → at + length u ≤ length l → puts (wrote at l) u ≡ writes l at u
puts-at l at u fits = ap (λ (w : Wrote). puts w u) (writes-none l at) ∙ puts-fits l at [] u (omega (arith, fits))

-- what was written tells the place behind it and the buffer's length
pub length-wrote : (l : List ℕ) (at : ℕ) (t : List ℕ) (e : ℕ) (b : List ℕ) → at + length t ≤ length l → wrote e b ≡ writes l at t → (e ≡ at + length t) × (length b ≡ length l)
length-wrote l at t e b fits p = (end_is p, ap length (buffer-is p) ∙ length-placed l at t fits)
