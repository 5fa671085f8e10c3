-- What is shown of a buffer is a part of it.
use Prim.Native.Nat.{ℕ, ◌+◌, ◌≤◌}
use mathlib.Core.Bool.{Bool, true, false, cond}
use mathlib.Core.List.{List, ◌++◌}
use mathlib.Core.Path.{◌≡◌, refl, sym, subst}
use native.Mathlib.Omega.{arith}
use borrow.Author.Tests.{ltb-false}
use lib.Dec.{ltb}
use lib.ListN.{length, take, drop, length-append, length-drop}
use lib.Seq.{length-take-le}
use Rattle.text.specs.Buffer.{Wrote, wrote, writes, puts}

-- the place behind what was put is in the buffer
abbrev pub Within : Wrote → Type 0
Within w = w.end ≤ length w.buffer

-- of a part: its length is the number of its bytes
pub shown : (r : ℕ) (b : List ℕ) → r ≤ length b → r ≡ length (take r b)
shown r b h = sym (length-take-le r b h)

writes-room : (l : List ℕ) (at : ℕ) (t : List ℕ) → at + length t ≤ length l → Within (writes l at t)
writes-room l at t h =
    let n = at + length t in
    omega (arith, h, length-append (take at l ++ t) (drop n l), length-append (take at l) t, length-take-le at l (omega arith), length-drop n l)

pub writes_start : (l t : List ℕ) → Within (writes l 0 t)
writes_start l t = omega (arith, length-append t (drop (0 + length t) l))

puts-room : (w : Wrote) (t : List ℕ) → Within w → Within (puts w t)
unfolding puts
puts-room w t h = go (ltb (length w.buffer) (w.end + length t)) (λ e. ltb-false _ _ e)
  where
    go : (b : Bool) → (b ≡ false → w.end + length t ≤ length w.buffer) → Within (cond b w (writes w.buffer w.end t))
    go true room = h
    go false room = writes-room w.buffer w.end t (room refl)

-- of a text at the start
pub text-within : (l t : List ℕ) (r : ℕ) (b : List ℕ) → wrote r b ≡ writes l 0 t → r ≤ length b
text-within l t r b e = subst Within (sym e) (writes_start l t)

-- of a text put behind what was there
pub put-within : (at : ℕ) (l t : List ℕ) (r : ℕ) (b : List ℕ) → wrote r b ≡ puts (wrote at l) t → at ≤ length l → r ≤ length b
put-within at l t r b e h = subst Within (sym e) (puts-room (wrote at l) t h)
