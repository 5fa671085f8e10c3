-- What is shown of a program's buffer is a part of it.
use Prim.Native.Nat.{ℕ, ◌≤◌}
use mathlib.Core.Bool.{Bool, true, false, cond}
use mathlib.Core.List.{List}
use mathlib.Core.Path.{◌≡◌, sym, subst}
use native.Mathlib.Omega.{arith}
use lib.ListN.{length}
use Rattle.answer.specs.Refusal.{bad_program}
use Rattle.little_endian.specs.Numbers.{bytes_of}
use Rattle.program.specs.Program.{bad_bytes, program_in, loads, saves}
use Rattle.text.proofs.Shown.{Within, writes_start}
use Rattle.text.specs.Buffer.{wrote, writes}

loads-room : (input l : List ℕ) → Within (loads input l)
unfolding loads
loads-room input l = go (bad_bytes (length input))
  where
    go : (t : Bool) → Within (cond t (wrote 0 l) (writes l 0 (program_in input)))
    go true = omega arith
    go false = writes_start l (program_in input)

pub words-within : (input l : List ℕ) (r : ℕ) (b : List ℕ) → wrote r b ≡ loads input l → r ≤ length b
words-within input l r b e = subst Within (sym e) (loads-room input l)

saves-room : (words l : List ℕ) → Within (saves words l)
unfolding saves
saves-room words l = go (bad_program (length words))
  where
    go : (t : Bool) → Within (cond t (wrote 0 l) (writes l 0 (bytes_of (length words) words)))
    go true = omega arith
    go false = writes_start l (bytes_of (length words) words)

pub bytes-within : (words l : List ℕ) (r : ℕ) (b : List ℕ) → wrote r b ≡ saves words l → r ≤ length b
bytes-within words l r b e = subst Within (sym e) (saves-room words l)
