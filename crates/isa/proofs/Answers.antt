-- What an answer says of the tests that led to it.
use Rattle.std.proofs.Common.{◌≡◌, ℕ, ◌^◌, ◌<◌, Bool, true, false, List, ◌∷◌, length, refl, mod-eq_of_lt, zero-add, zero-mul, arith}
use mathlib.Core.Option.{Option, none, some}
use Rattle.isa.proofs.Both.{Each, each, together}
use Rattle.isa.proofs.Parts.{covers, unpack-pack, pack-unpack, pack-below, each_fits-unpack}
use Rattle.answer.specs.Answer.{Answer, given, refused, undefined}
use Rattle.word_layout.specs.Layout.{Part, unpack, pack, each_fits}
use Rattle.isa.specs.Read.{guarded, listed}
use Rattle.isa.specs.Test.{all}
use Rattle.isa.specs.Types.{Instruction}
use Rattle.isa.specs.Write.{written, encoded}

-- a refusal is no value
pub not-given : {A B : Type 0} (n : ℕ) (a : A) → ◌≡◌ {A = Answer A} (refused n) (given a) → B
not-given n a e = let z : ◌≡◌ {A = ℕ} 0 1 = cc in absurd (omega arith)

pub guarded-is : (t : Bool) (i j : Instruction) → guarded t i ≡ given j → (t ≡ true) × (i ≡ j)
unfolding guarded
guarded-is true i j e = (refl, cc)
guarded-is false i j e = not-given undefined j e

pub accept : (bs : List Bool) (i : Instruction) → Each bs → guarded (all bs) i ≡ given i
unfolding guarded
accept bs i h = rw (together bs h)

pub accept-one : (t : Bool) (i : Instruction) → t ≡ true → guarded t i ≡ given i
unfolding guarded
accept-one t i h = rw h

pub record Listed {A : Type 0} (o : Option A) (f : A → Answer Instruction) (i : Instruction) : Type 0 where
  pub op : A
  pub at : o ≡ some op
  pub is : f op ≡ given i

pub listed-is : {A : Type 0} (o : Option A) (f : A → Answer Instruction) (n : ℕ) (i : Instruction) → listed o f n ≡ given i → Listed o f i
unfolding listed
listed-is none f n i e = not-given n i e
listed-is (some op) f n i e = record { op = op; at = refl; is = e }

written_is : (t : Bool) (v w : ℕ) → written t v ≡ given w → (t ≡ true) × (v ≡ w)
unfolding written
written_is true v w e = (refl, cc)
written_is false v w e = not-given 6 w e

-- what a word that was encoded says: it was allowed, and its parts are the numbers
pub record Encoded (allowed : Bool) (layout : List Part) (numbers : List ℕ) (w : ℕ) : Type 0 where
  pub allows : allowed ≡ true
  pub parts : unpack layout w ≡ numbers
  pub below : w < 2 ^ 32

-- numbers that were encoded have room
pub fits : (layout : List Part) (numbers : List ℕ) (allowed : Bool) (w : ℕ) → encoded allowed layout numbers ≡ given w → Each (each_fits layout numbers)
fits layout numbers allowed w e = (each (allowed ∷ each_fits layout numbers) (written_is (all (allowed ∷ each_fits layout numbers)) (pack layout numbers) w e).0).1

module _ (layout : List Part) (c : covers 32 layout ≡ true) (numbers : List ℕ) (l : length numbers ≡ length layout) where
  pub encoded-is : (allowed : Bool) (w : ℕ) → encoded allowed layout numbers ≡ given w → Encoded allowed layout numbers w
  encoded-is allowed w e =
      let t = written_is (all (allowed ∷ each_fits layout numbers)) (pack layout numbers) w e in
      let h = each (allowed ∷ each_fits layout numbers) t.0 in
      record {
        allows = h.0;
        parts = rw (← t.1) (rw (zero-mul, zero-add) at (unpack-pack 32 layout c numbers l h.1 0));
        below = rw (← t.1) (pack-below 32 layout c numbers l h.1);
      }

-- a word is encoded from its parts
pub encodes : (layout : List Part) → covers 32 layout ≡ true → (numbers : List ℕ) (allowed : Bool) (w : ℕ) →
    allowed ≡ true → unpack layout w ≡ numbers → w < 2 ^ 32 → encoded allowed layout numbers ≡ given w
unfolding written
encodes layout c numbers allowed w a p b =
    rw (← p, together (allowed ∷ each_fits layout (unpack layout w)) (a, each_fits-unpack layout w), pack-unpack 32 layout c w, mod-eq_of_lt b)
