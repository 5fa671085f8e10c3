-- The data bytes of a record, by their places in the line.
use Prim.Native.Nat.{ℕ, zero, suc, ◌+◌, ◌-◌, ◌*◌, ◌%◌, ◌≤◌, ◌<◌}
use mathlib.Core.Bool.{Bool, true, false, ◌&&◌, not, cond}
use mathlib.Core.List.{List, [], ◌∷◌}
use mathlib.Core.Option.{Option, none, some}
use mathlib.Core.Path.{◌≡◌, refl, sym, ap, ◌∙◌}
use native.Mathlib.Omega.{arith}
use native.Mathlib.Numerals.{add-one}
use native.Mathlib.Nat.{mod-eq_of_lt}
use borrow.Author.Tests.{eqb-true, ltb-true}
use lib.Dec.{eqb, ltb}
use lib.ListN.{length, get_or, take, drop, length-drop}
use lib.Seq.{length-take-le, take-length, drop-cons, get_or-take, get_or-drop}
use Rattle.intel_hex.specs.Digits.{value, pair, pairs, total}
use Rattle.intel_hex.specs.Record.{no_record, data_record, upper_record, end_record, fields_of, bytes_record, colon_record, record_of, without_cr}
use Rattle.intel_hex.specs.Scan.{heading}
use Rattle.intel_hex.specs.Storing.{pair_bytes}
use Rattle.intel_hex.specs.Types.{Data}
use Rattle.std.specs.Prelude.{Some}
use Rattle.intel_hex.proofs.Pairs.{Written, nothing, byte, written, written-length, written-get}
use Rattle.intel_hex.proofs.Words.{Small}

hex-small : (a b : ℕ) → (ltb a 16 && ltb b 16) ≡ true → 16 * a + b < 256
hex-small a b e = go (ltb a 16) (ltb b 16) refl refl e
  where
    go : (p q : Bool) → ltb a 16 ≡ p → ltb b 16 ≡ q → (p && q) ≡ true → 16 * a + b < 256
    go true true x y e = omega (arith, ltb-true a 16 x, ltb-true b 16 y)
    go true false x y e = let z : ◌≡◌ {A = ℕ} 0 1 = cc in absurd (omega arith)
    go false q x y e = let z : ◌≡◌ {A = ℕ} 0 1 = cc in absurd (omega arith)

pub written_small : {t bs : List ℕ} → Written t bs → Small bs
written_small nothing i = omega arith
written_small (byte {h} {l} d w) zero = hex-small (value h) (value l) d
written_small (byte d w) (suc i) = written_small w i

-- bytes taken by their places, also from a text that goes on behind the digits
pub pair-bytes : {t bs : List ℕ} → Written t bs → (x : List ℕ) → ((i : ℕ) → i < length t → get_or x i 0 ≡ get_or t i 0) → (n k : ℕ) → k + n ≤ length bs → take n (drop k bs) ≡ pair_bytes x k n
unfolding pair_bytes
pair-bytes w x same zero k h = refl
pair-bytes {t} {bs} w x same (suc n) k h =
    let l = written-length w in
    let g = written-get w k (omega arith) in
    let s = written_small w k in
    let d = drop-cons bs k 0 (omega arith) in
    let e : pair (get_or x (k + k) 0) (get_or x (k + k + 1) 0) % 256 ≡ get_or bs k 0 = rw (same (k + k) (omega arith), same (k + k + 1) (omega arith), ← g) (mod-eq_of_lt s) in
    ap (take (suc n)) d ∙ rw (e, add-one k) (ap (λ (r : List ℕ). get_or bs k 0 ∷ r) (pair-bytes w x same n (suc k) (omega arith)))

-- a data record of bytes
pub record DataIn (bs : List ℕ) (a n : ℕ) : Type 0 where
  pub long : length bs ≡ n + 5
  pub is : fields_of bs ≡ data_record a (take n (drop 4 bs))

pub data-in : (bs : List ℕ) (a n : ℕ) → heading (fields_of bs) ≡ Some (Data a n) → DataIn bs a n
data-in [] a n e = let z : ◌≡◌ {A = ℕ} 0 1 = cc in absurd (omega arith)
data-in (x ∷ []) a n e = let z : ◌≡◌ {A = ℕ} 0 1 = cc in absurd (omega arith)
data-in (x ∷ y ∷ []) a n e = let z : ◌≡◌ {A = ℕ} 0 1 = cc in absurd (omega arith)
data-in (x ∷ y ∷ v ∷ []) a n e = let z : ◌≡◌ {A = ℕ} 0 1 = cc in absurd (omega arith)
data-in (x ∷ y ∷ v ∷ t ∷ r) a n e =
    go (eqb (length r) (x + 1)) (eqb (total (x ∷ y ∷ v ∷ t ∷ r) % 256) 0) (eqb t 0 && not (eqb x 0)) (eqb t 1 && eqb (256 * y + v) 0 && eqb x 0) (eqb t 4 && eqb (256 * y + v) 0 && eqb x 2) refl refl refl refl refl e
  where
    U : ℕ
    U = 256 * get_or (take x r) 0 0 + get_or (take x r) 1 0

    go : (b c p q s : Bool) → eqb (length r) (x + 1) ≡ b → eqb (total (x ∷ y ∷ v ∷ t ∷ r) % 256) 0 ≡ c → (eqb t 0 && not (eqb x 0)) ≡ p →
        (eqb t 1 && eqb (256 * y + v) 0 && eqb x 0) ≡ q → (eqb t 4 && eqb (256 * y + v) 0 && eqb x 2) ≡ s →
        heading (cond (b && c) (cond p (data_record (256 * y + v) (take x r)) (cond q end_record (cond s (upper_record (256 * get_or (take x r) 0 0 + get_or (take x r) 1 0)) no_record))) no_record) ≡ Some (Data a n) →
        DataIn (x ∷ y ∷ v ∷ t ∷ r) a n
    go false c p q s e1 e2 e3 e4 e5 e = let z : ◌≡◌ {A = ℕ} 0 1 = cc in absurd (omega arith)
    go true false p q s e1 e2 e3 e4 e5 e = let z : ◌≡◌ {A = ℕ} 0 1 = cc in absurd (omega arith)
    go true true false true s e1 e2 e3 e4 e5 e = let z : ◌≡◌ {A = ℕ} 0 1 = cc in absurd (omega arith)
    go true true false false true e1 e2 e3 e4 e5 e = let z : ◌≡◌ {A = ℕ} 0 1 = cc in absurd (omega arith)
    go true true false false false e1 e2 e3 e4 e5 e = let z : ◌≡◌ {A = ℕ} 0 1 = cc in absurd (omega arith)
    go true true true q s e1 e2 e3 e4 e5 e =
        let l = eqb-true (length r) (x + 1) e1 in
        let f : 256 * y + v ≡ a = cc in
        let g : length (take x r) ≡ n = cc in
        let k = length-take-le x r (omega arith) in
        let m : x ≡ n = omega arith in
        record { long = omega arith; is = rw (e1, e2, e3, f, m) }

-- a data record of a line
pub record DataAt (line : List ℕ) (a n : ℕ) : Type 0 where
  pub ds : List ℕ
  pub is : record_of line ≡ data_record a ds
  pub size : length ds ≡ n
  pub same : ds ≡ pair_bytes (drop 1 line) 4 n
  pub long : n + n + 11 ≤ length line
  pub small : Small ds

record Text (line : List ℕ) : Type 0 where
  pub m : ℕ
  pub text : without_cr line ≡ take m line
  pub within : m ≤ length line

text_of : (line : List ℕ) → Text line
unfolding without_cr
text_of line = go (eqb (get_or line (length line - 1) 0) 13) refl
  where
    go : (b : Bool) → eqb (get_or line (length line - 1) 0) 13 ≡ b → Text line
    go true e = record { m = length line - 1; text = rw e; within = omega arith }
    go false e = record { m = length line; text = rw e (sym (take-length line)); within = omega arith }

small-drop : (bs : List ℕ) (k : ℕ) → Small bs → Small (drop k bs)
small-drop bs k s i = rw (get_or-drop k bs i 0) (s (k + i))

small-take : (n : ℕ) (bs : List ℕ) → Small bs → Small (take n bs)
small-take zero bs s i = omega arith
small-take (suc n) [] s i = omega arith
small-take (suc n) (b ∷ bs) s zero = s zero
small-take (suc n) (b ∷ bs) s (suc i) = small-take n bs (λ j. s (suc j)) i

pub small-part : (bs : List ℕ) (n k : ℕ) → Small bs → Small (take n (drop k bs))
small-part bs n k s = small-take n (drop k bs) (small-drop bs k s)

-- a line whose text is a colon and digits that write these bytes
colon-data : (line digits bs : List ℕ) (m a n : ℕ) → without_cr line ≡ take m line → m ≤ length line → take m line ≡ 58 ∷ digits → pairs digits ≡ some bs → DataIn bs a n → DataAt line a n
unfolding record_of
colon-data line digits bs m a n text within e q d =
    let w = written digits bs q in
    let l = written-length w in
    let k = ap length e in
    let j = length-take-le m line within in
    let o = d.long in
    let r : record_of line ≡ fields_of bs = ap colon_record (text ∙ e) ∙ rw q in
    record {
      ds = take n (drop 4 bs);
      is = r ∙ d.is;
      size = length-take-le n (drop 4 bs) (omega (arith, length-drop 4 bs));
      same = pair-bytes w (drop 1 line) (λ i h. get_or-drop 1 line i 0 ∙ next i h) n 4 (omega arith);
      long = omega arith;
      small = small-part bs n 4 (written_small w);
    }
  where
    next : (i : ℕ) → i < length digits → get_or line (1 + i) 0 ≡ get_or digits i 0
    next i h =
        let k = ap length e in
        let j = length-take-le m line within in
        let z : 1 + i ≡ suc i = omega arith in
        rw z (sym (get_or-take m line (suc i) 0 (omega arith)) ∙ ap (λ (x : List ℕ). get_or x (suc i) 0) e)

pub data-at : (line : List ℕ) (a n : ℕ) → heading (record_of line) ≡ Some (Data a n) → DataAt line a n
unfolding record_of
data-at line a n e = go (take t.m line) refl (sym (ap (λ (x : List ℕ). heading (colon_record x)) t.text) ∙ e)
  where
    t : Text line
    t = text_of line

    digits-go : (digits : List ℕ) → take t.m line ≡ 58 ∷ digits → (p : Option (List ℕ)) → pairs digits ≡ p → heading (bytes_record p) ≡ Some (Data a n) → DataAt line a n
    digits-go digits f none q e = let z : ◌≡◌ {A = ℕ} 0 1 = cc in absurd (omega arith)
    digits-go digits f (some bs) q e = colon-data line digits bs t.m a n t.text t.within f q (data-in bs a n e)

    colon-go : (c : ℕ) (digits : List ℕ) (b : Bool) → eqb c 58 ≡ b → take t.m line ≡ c ∷ digits → heading (cond b (bytes_record (pairs digits)) no_record) ≡ Some (Data a n) → DataAt line a n
    colon-go c digits false q f e = let z : ◌≡◌ {A = ℕ} 0 1 = cc in absurd (omega arith)
    colon-go c digits true q f e = digits-go digits (f ∙ ap (λ (x : ℕ). x ∷ digits) (eqb-true c 58 q)) (pairs digits) refl e

    go : (x : List ℕ) → take t.m line ≡ x → heading (colon_record x) ≡ Some (Data a n) → DataAt line a n
    go [] f e = let z : ◌≡◌ {A = ℕ} 0 1 = cc in absurd (omega arith)
    go (c ∷ digits) f e = colon-go c digits (eqb c 58) refl f e
