-- How long the parts of a listing can be.
use Prim.Native.Nat.{ℕ, zero, suc, ◌-◌, ◌*◌, ◌≤◌, ◌<◌}
use mathlib.Core.Bool.{Bool, true, false, cond}
use mathlib.Core.List.{List, [], ◌∷◌, ◌++◌}
use mathlib.Core.Path.{◌≡◌, refl}
use native.Mathlib.Omega.{arith}
use lib.Dec.{eqb, lit≤}
use lib.ListN.{length, take, replicate, length-append}
use lib.Seq.{take_at}
use Rattle.names.proofs.Names.{fits}
use Rattle.answer.specs.Answer.{Answer, given, refused, undefined}
use Rattle.names.specs.Name.{padded, spelled}
use Rattle.isa.specs.Read.{read}
use Rattle.isa.specs.Text.{bytes}
use Rattle.isa.specs.declared.instruction.Instruction.{Instruction}
use Rattle.names.specs.declared.name.Name.{Name}
use Rattle.text.proofs.Lengths.{decimal-short}
use Rattle.listing.specs.Listing.{label_of, label, columns_of, line, lines, header}
use Rattle.little_endian.specs.Numbers.{number_at}
use Rattle.text.specs.Number.{decimal}

-- a text is taken out of its padding again, and has room there
pub take-padded : (n : ℕ) (t : List ℕ) (k : ℕ) → length t ≡ k → take k (padded n t) ≡ t
take-padded n t k e = take_at t (replicate (n - length t) 0) k e

label_small : (a : Answer Instruction) → length (label_of a) ≤ 10
unfolding bytes
label_small (given i) = let h = fits i in omega arith
label_small (refused n) = go (eqb n undefined)
  where
    go : (t : Bool) → length (cond t (bytes "undefined") (bytes "not-fitted")) ≤ 10
    go true = lit≤ tt
    go false = lit≤ tt

pub length-line : (address w : ℕ) → length (line address w) ≤ 29
unfolding line label columns_of bytes
length-line address w =
    let h = label_small (read w) in
    rw (length-append (columns_of address w ++ label_of (read w)) (10 ∷ []), length-append (columns_of address w) (label_of (read w))) (omega arith)

pub length-lines : (input : List ℕ) (k : ℕ) → length (lines input k) ≤ 29 * k
unfolding lines
length-lines input zero = lit≤ tt
length-lines input (suc k) =
    let h = length-lines input k in
    let g = length-line (4 * k) (number_at 4 input (4 * k)) in
    rw (length-append (lines input k) (line (4 * k) (number_at 4 input (4 * k)))) (omega arith)

pub length-header : (n : ℕ) → n < 100000 → length (header n) ≤ 12
unfolding header bytes
length-header n small =
    let h = decimal-short n small in
    rw (length-append (bytes "words " ++ decimal n) (10 ∷ []), length-append (bytes "words ") (decimal n)) (omega arith)

-- a name as the code holds it: its bytes are the text
module _ (r : Name) (t : List ℕ) (e : r ≡ spelled t) where
  pub name-taken : take r.len r.bytes ≡ t
  name-taken = rw e (take-padded 16 t (length t) refl)
