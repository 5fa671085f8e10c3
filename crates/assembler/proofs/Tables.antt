-- Labels as the code holds them.
use Prim.Native.Nat.{ℕ, zero, suc, ◌+◌, ◌*◌, ◌-◌, ◌≤◌, ◌<◌}
use mathlib.Core.Bool.{Bool, true, false, ◌||◌, cond}
use borrow.Author.Tests.{le-leb, lt-leb}
use Rattle.token.proofs.Runs.{run-part}
use Rattle.token.proofs.Runs.{part-is}
use mathlib.Core.List.{List, [], ◌∷◌, ◌++◌}
use mathlib.Core.Option.{Option, none, some}
use mathlib.Core.Logic.{◌⊎◌}
use Rattle.std.proofs.Common.{inl, inr}
use mathlib.Core.Path.{◌≡◌, refl, sym, ap, ◌∙◌}
use native.Mathlib.Numerals.{add-one}
use native.Mathlib.Omega.{arith}
use lib.Dec.{ltb}
use lib.ListN.{length, take, drop, set, length-set}
use lib.Seq.{take-suc-set, length-take-le}
use Rattle.expression.specs.Label.{address_in, same}
use Rattle.token.specs.Token.{leading_word}
use Rattle.expression.specs.Value.{label_value, bounded, bias}
use Rattle.token.specs.Number.{limit}
use Rattle.assembler.specs.Types.{Value, Known, TooLarge, Unknown}
use Rattle.assembler.specs.Source.{Label, named, address_among, is_known, name_number}
use Rattle.assembler.specs.Walk.{entries}

-- the address of a name in a table is that among its entries
pub address_is : (source labels w : List ℕ) → address_in source labels w ≡ address_among (entries source labels) w
unfolding address_in address_among entries
address_is source [] w = refl
address_is source (p ∷ []) w = refl
address_is source (p ∷ a ∷ rest) w = ap (λ r. cond (same (leading_word (drop p source)) w) (some a) r) (address_is source rest w)

pub addresses-are : (source labels : List ℕ) → address_in source labels ≡ address_among (entries source labels)
addresses-are source labels = λ i w. address_is source labels w i

two-more : (n : ℕ) → 2 * suc n ≡ suc (suc (2 * n))
two-more n = omega arith

-- n labels take 2 n places
pub entries-length : (source : List ℕ) (n : ℕ) (t : List ℕ) → length t ≡ 2 * n → length (entries source t) ≡ n
unfolding entries
entries-length source zero [] h = refl
entries-length source zero (p ∷ t) h = absurd (omega arith)
entries-length source (suc n) [] h = absurd (omega arith)
entries-length source (suc n) (p ∷ []) h = absurd (omega arith)
entries-length source (suc n) (p ∷ a ∷ t) h = ap suc (entries-length source n t (omega arith))

-- one label more at the end
pub entries-more : (source : List ℕ) (n : ℕ) (t : List ℕ) (p a : ℕ) → length t ≡ 2 * n → entries source (t ++ p ∷ a ∷ []) ≡ entries source t ++ named (leading_word (drop p source)) a ∷ []
unfolding entries
entries-more source zero [] p a h = refl
entries-more source zero (q ∷ t) p a h = absurd (omega arith)
entries-more source (suc n) [] p a h = absurd (omega arith)
entries-more source (suc n) (q ∷ []) p a h = absurd (omega arith)
entries-more source (suc n) (q ∷ b ∷ t) p a h = ap (λ r. named (leading_word (drop q source)) b ∷ r) (entries-more source n t p a (omega arith))

-- the first n of a table's labels
pub entries-take : (source : List ℕ) (n : ℕ) (t : List ℕ) → entries source (take (2 * n) t) ≡ take n (entries source t)
unfolding entries
entries-take source zero t = refl
entries-take source (suc n) [] = rw (two-more n)
entries-take source (suc n) (p ∷ []) = rw (two-more n)
entries-take source (suc n) (p ∷ a ∷ t) = rw (two-more n) (ap (λ r. named (leading_word (drop p source)) a ∷ r) (entries-take source n t))

-- two places of a table set
pub take-entered : (t : List ℕ) (n p a : ℕ) → 2 * n + 1 < length t → take (2 * (n + 1)) (set (set t (2 * n) p) (2 * n + 1) a) ≡ take (2 * n) t ++ p ∷ a ∷ []
take-entered t n p a h =
    let q : 2 * (n + 1) ≡ suc (2 * n + 1) = omega arith in
    let l : length (set t (2 * n) p) ≡ length t = length-set t (2 * n) p in
    let s : take (2 * n + 1) (set t (2 * n) p) ≡ take (2 * n) t ++ p ∷ [] = rw (add-one (2 * n)) (take-suc-set t (2 * n) p (omega arith)) in
    ap (λ k. take k (set (set t (2 * n) p) (2 * n + 1) a)) q ∙ take-suc-set (set t (2 * n) p) (2 * n + 1) a (omega arith) ∙ ap (λ r. r ++ a ∷ []) s ∙ joined (take (2 * n) t) p a
  where
    joined : (xs : List ℕ) (p a : ℕ) → (xs ++ p ∷ []) ++ a ∷ [] ≡ xs ++ p ∷ a ∷ []
    joined [] p a = refl
    joined (x ∷ xs) p a = ap (λ r. x ∷ r) (joined xs p a)

-- a label's value is unknown exactly where its name is
bound-known-by : (n : ℕ) (b : Bool) → cond b TooLarge (Known n) ≡ Unknown → ⊥
bound-known-by n true h = let z : ◌≡◌ {A = ℕ} 0 1 = cc in omega arith
bound-known-by n false h = let z : ◌≡◌ {A = ℕ} 0 1 = cc in omega arith

pub unknown-is : (o : Option ℕ) → Unknown ≡ label_value o → is_known o ≡ false
unfolding bounded
unknown-is none h = refl
unknown-is (some a) h = absurd (bound-known-by (bias + a) (ltb (bias + a) (bias - limit) || ltb (bias + limit) (bias + a)) (sym h))

abbrev pub is_unknown : Value → Bool
is_unknown (Known n) = false
is_unknown TooLarge = false
is_unknown Unknown = true

pub not_unknown : (v : Value) → ((n : ℕ) × (v ≡ Known n)) ⊎ (v ≡ TooLarge) → is_unknown v ≡ false
not_unknown v (inl (n, h)) = rw h
not_unknown v (inr h) = rw h

pub known_is : (o : Option ℕ) (v : Value) → is_unknown v ≡ false → v ≡ label_value o → is_known o ≡ true
known_is none v n h = absurd (let z : true ≡ false = ap is_unknown (sym h) ∙ n in let y : ◌≡◌ {A = ℕ} 0 1 = cc in omega arith)
known_is (some a) v n h = refl

-- what a label is refused with
or-true : (b : Bool) → b || true ≡ true
or-true true = refl
or-true false = refl

pub name-beyond : (ls : List Label) (w : List ℕ) → 256 ≤ length ls → name_number ls w ≡ some 13
name-beyond ls w h = rw (le-leb 256 (length ls) h, or-true (is_known (address_among ls w)))

pub name-again : (ls : List Label) (w : List ℕ) → is_known (address_among ls w) ≡ true → name_number ls w ≡ some 13
name-again ls w h = rw h

pub name_new : (ls : List Label) (w : List ℕ) → is_known (address_among ls w) ≡ false → length ls < 256 → name_number ls w ≡ none
name_new ls w h k = rw (h, lt-leb 256 (length ls) k)

-- a text's word from a place on
pub text-word : (l : List ℕ) (s e : ℕ) → e ≡ s + length (leading_word (drop s l)) → take (e - s) (drop s l) ≡ leading_word (drop s l)
text-word l s e q = part-is s e l (omega arith) ∙ run-part l s e q

-- n labels of a table that has room for them
pub so-many : (source labels : List ℕ) (n : ℕ) → 2 * n ≤ length labels → length (entries source (take (2 * n) labels)) ≡ n
so-many source labels n h = entries-length source n (take (2 * n) labels) (length-take-le (2 * n) labels h)
