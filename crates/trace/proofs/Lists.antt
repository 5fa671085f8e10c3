-- Lists that are written from the front.
use Rattle.std.proofs.Common.{◌≡◌, ℕ, suc, ◌<◌, ◌≤◌, List, [], ◌∷◌, ◌++◌, length, drop, set, refl, ap, le_of_suc-le-suc, arith}
use native.Mathlib.Nat.{suc_inj}
use lib.ListN.{length-map}
use Rattle.interpreter.specs.Choosing.{Issue}
use Rattle.trace.specs.Rows.{row_of, rows_of, onto}
use Rattle.trace.specs.Types.{Row}

module _ {A : Type 0} where
  -- one more
  pub onto-set : (new old : List A) (x : A) → length new < length old → set (onto new old) (length new) x ≡ onto (new ++ x ∷ []) old
  unfolding onto
  onto-set [] [] x l = absurd (let z : ◌<◌ 0 0 = l in omega arith)
  onto-set [] (b ∷ old) x l = refl
  onto-set (a ∷ new) [] x l = absurd (omega arith)
  onto-set (a ∷ new) (b ∷ old) x l = ap {B = List A} (λ r. a ∷ r) (onto-set new old x (le_of_suc-le-suc l))

  -- over two lists
  pub onto-full : (new more old rest : List A) → length new ≡ length old → onto (new ++ more) (old ++ rest) ≡ onto new old ++ onto more rest
  unfolding onto
  onto-full [] more [] rest e = refl
  onto-full [] more (b ∷ old) rest e = absurd (omega arith)
  onto-full (a ∷ new) more [] rest e = absurd (omega arith)
  onto-full (a ∷ new) more (b ∷ old) rest e = ap {B = List A} (λ r. a ∷ r) (onto-full new more old rest (suc_inj e))

  pub onto-short : (new old rest : List A) → length new ≤ length old → onto new (old ++ rest) ≡ onto new old ++ rest
  unfolding onto
  onto-short [] old rest l = refl
  onto-short (a ∷ new) [] rest l = absurd (omega arith)
  onto-short (a ∷ new) (b ∷ old) rest l = ap {B = List A} (λ r. a ∷ r) (onto-short new old rest (le_of_suc-le-suc l))

  -- what stands behind
  past : (new rest : List A) → drop (length new) (new ++ rest) ≡ rest
  past [] rest = refl
  past (a ∷ new) rest = past new rest

  pub onto-behind : (new old : List A) → drop (length new) (onto new old) ≡ drop (length new) old
  unfolding onto
  onto-behind new old = past new (drop (length new) old)

  pub onto-length : (new old : List A) → length new ≤ length old → length (onto new old) ≡ length old
  unfolding onto
  onto-length [] old l = refl
  onto-length (a ∷ new) [] l = absurd (omega arith)
  onto-length (a ∷ new) (b ∷ old) l = ap suc (onto-length new old (le_of_suc-le-suc l))

module _ (p : List ℕ) where
  pub rows_none : rows_of p [] ≡ []
  unfolding rows_of
  rows_none = refl

  pub rows_append : (a b : List Issue) → rows_of p (a ++ b) ≡ rows_of p a ++ rows_of p b
  unfolding rows_of
  rows_append [] b = refl
  rows_append (i ∷ a) b = ap {B = List Row} (λ r. row_of p i ∷ r) (rows_append a b)

  pub no_rows : (lent : List Row) → onto (rows_of p []) lent ≡ lent
  unfolding rows_of onto
  no_rows lent = refl

  pub one-row : (i : Issue) → rows_of p (i ∷ []) ≡ row_of p i ∷ []
  unfolding rows_of
  one-row i = refl

  pub rows-length : (is : List Issue) → length (rows_of p is) ≡ length is
  unfolding rows_of
  rows-length is = length-map is (row_of p)
