-- How long the parts of a text can be.
use Prim.Native.Nat.{ℕ, zero, suc, ◌*◌, ◌≤◌}
use mathlib.Core.Bool.{Bool, true, false, cond}
use mathlib.Core.List.{List, [], ◌∷◌, ◌++◌}
use mathlib.Core.Path.{◌≡◌, refl}
use native.Mathlib.Omega.{arith}
use lib.Dec.{eqb, lit≤}
use lib.ListN.{length}
use Rattle.isa.specs.Text.{bytes}
use Rattle.text.proofs.Lengths.{decimal-small}
use Rattle.text.proofs.Parts.{total, total-append}
use Rattle.text.specs.Number.{decimal}
use Rattle.machine.specs.Machine.{status_at, turns_at}
use Rattle.thread_entry.specs.Status.{is_idle}
use Rattle.thread_lines.specs.Lines.{program_counter, reason, state_parts, turns_unit, turns_parts, line_parts, lines_parts, off_part, off_parts, off_line, thread_parts}
use Rattle.thread_lines.specs.Text.{counter}
use Rattle.thread_lines.specs.Types.{Machine, Status, Idle, Running, Ended, Trapped, Waiting}

pub counter-length : (n : ℕ) → length (counter n) ≡ 8
unfolding counter
counter-length n = refl

pub reason-small : (n : ℕ) → length (reason n) ≤ 22
unfolding reason bytes
reason-small n = go (eqb n 1) (eqb n 2) (eqb n 3) (eqb n 4) (eqb n 5)
  where
    go : (a b c d e : Bool) → length (cond a (bytes "address not aligned") (cond b (bytes "address outside memory") (cond c (bytes "undefined word") (cond d (bytes "outside the program") (cond e (bytes "barrier refused") (bytes "not fitted")))))) ≤ 22
    go true b c d e = lit≤ tt
    go false true c d e = lit≤ tt
    go false false true d e = lit≤ tt
    go false false false true e = lit≤ tt
    go false false false false true = lit≤ tt
    go false false false false false = lit≤ tt

state-small : (s : Status) (pc : ℕ) → total (state_parts s pc) ≤ 57
unfolding bytes
state-small Idle pc = lit≤ tt
state-small Running pc = omega (arith, counter-length pc)
state-small Ended pc = omega (arith, counter-length pc)
state-small (Trapped number) pc = omega (arith, counter-length pc, reason-small number)
state-small (Waiting id count) pc = omega (arith, counter-length pc, decimal-small id, decimal-small count)

unit-small : (turns : ℕ) → length (turns_unit turns) ≤ 7
unfolding turns_unit bytes
unit-small turns = go (eqb turns 1)
  where
    go : (b : Bool) → length (cond b (bytes " turn\n") (bytes " turns\n")) ≤ 7
    go true = lit≤ tt
    go false = lit≤ tt

line_small : (thread : ℕ) (s : Status) (pc turns : ℕ) → total (line_parts thread s pc turns) ≤ 93
unfolding line_parts bytes
line_small thread s pc turns = go (is_idle s)
  where
    whole : List (List ℕ)
    whole = (bytes "thread " ∷ decimal thread ∷ state_parts s pc) ++ turns_parts turns

    small : total whole ≤ 93
    small =
        omega (
          arith,
          total-append (state_parts s pc) (turns_parts turns),
          decimal-small thread,
          state-small s pc,
          decimal-small turns,
          unit-small turns,
        )

    go : (b : Bool) → total (cond b [] whole) ≤ 93
    go true = lit≤ tt
    go false = small

lines-small : (m : Machine) (registers : List ℕ) (k : ℕ) → total (lines_parts m registers k) ≤ 93 * k
unfolding lines_parts
lines-small m registers zero = lit≤ tt
lines-small m registers (suc k) =
    let s = status_at m k in
    let pc = program_counter registers k in
    let n = turns_at m k in
    omega (arith, total-append (lines_parts m registers k) (line_parts k s pc n), lines-small m registers k, line_small k s pc n)

off_small : (thread : ℕ) (s : Status) → total (off_part thread s) ≤ 11
unfolding off_part bytes
off_small thread s = go (is_idle s)
  where
    go : (b : Bool) → total (cond b (bytes " " ∷ decimal thread ∷ []) []) ≤ 11
    go true = omega (arith, decimal-small thread)
    go false = lit≤ tt

offs-small : (m : Machine) (k : ℕ) → total (off_parts m k) ≤ 11 * k
unfolding off_parts
offs-small m zero = lit≤ tt
offs-small m (suc k) = omega (arith, total-append (off_parts m k) (off_part k (status_at m k)), offs-small m k, off_small k (status_at m k))

off-line-small : (m : Machine) → total (off_line m) ≤ 101
unfolding off_line bytes
off-line-small m = go (eqb m.enabled 255)
  where
    whole : List (List ℕ)
    whole = (bytes "threads off:" ∷ off_parts m 8) ++ bytes "\n" ∷ []

    small : total whole ≤ 101
    small = omega (arith, total-append (off_parts m 8) (bytes "\n" ∷ []), offs-small m 8)

    go : (b : Bool) → total (cond b [] whole) ≤ 101
    go true = lit≤ tt
    go false = small

-- the lines of eight threads and that of the threads off
pub threads-small : (m : Machine) (registers : List ℕ) → total (thread_parts m registers) ≤ 845
threads-small m registers = omega (arith, total-append (lines_parts m registers 8) (off_line m), lines-small m registers 8, off-line-small m)
