-- Digits and the bytes that they write.
use Prim.Native.Nat.{ℕ, zero, suc, ◌+◌, ◌-◌, ◌*◌, ◌%◌, ◌≤◌, ◌<◌}
use mathlib.Core.Bool.{Bool, true, false, ◌&&◌, cond}
use mathlib.Core.List.{List, [], ◌∷◌}
use mathlib.Core.Option.{Option, none, some}
use mathlib.Core.Path.{◌≡◌, refl, sym, ap, subst, ◌∙◌}
use native.Mathlib.Omega.{arith}
use borrow.Author.Tests.{lt-ltb, le-ltb}
use lib.ListN.{length, get_or, take, drop, length-drop}
use lib.Seq.{take_all}
use Rattle.intel_hex.specs.Digits.{value, is_hex, pair, with, pairs, total}
use Rattle.intel_hex.specs.Scan.{digested}
use Rattle.std.specs.Prelude.{Some, None}
use Rattle.std.specs.Prelude as R

-- digits, and the bytes that they write
pub data Written : List ℕ → List ℕ → Type 0 where
  nothing : Written [] []
  byte : {h l : ℕ} {t bs : List ℕ} → (is_hex h && is_hex l) ≡ true → Written t bs → Written (h ∷ l ∷ t) (pair h l ∷ bs)

pub written : (t bs : List ℕ) → pairs t ≡ some bs → Written t bs
unfolding pairs
written [] [] e = nothing
written [] (b ∷ bs) e = let z : ◌≡◌ {A = ℕ} 0 1 = cc in absurd (omega arith)
written (h ∷ []) bs e = let z : ◌≡◌ {A = ℕ} 0 1 = cc in absurd (omega arith)
written (h ∷ l ∷ t) bs e = go (written t) (is_hex h && is_hex l) refl (pairs t) refl bs e
  where
    go : ((cs : List ℕ) → pairs t ≡ some cs → Written t cs) → (b : Bool) → (is_hex h && is_hex l) ≡ b → (p : Option (List ℕ)) → pairs t ≡ p → (bs : List ℕ) → cond b (with (pair h l) p) none ≡ some bs → Written (h ∷ l ∷ t) bs
    go ih true d none q bs e = let z : ◌≡◌ {A = ℕ} 0 1 = cc in absurd (omega arith)
    go ih true d (some cs) q bs e = let f : pair h l ∷ cs ≡ bs = cc in subst (λ (x : List ℕ). Written (h ∷ l ∷ t) x) f (byte d (ih cs q))
    go ih false d p q bs e = let z : ◌≡◌ {A = ℕ} 0 1 = cc in absurd (omega arith)

pub written-length : {t bs : List ℕ} → Written t bs → length t ≡ 2 * length bs
written-length nothing = refl
written-length (byte d w) = let h = written-length w in omega arith

pub written-get : {t bs : List ℕ} → Written t bs → (k : ℕ) → k < length bs → get_or bs k 0 ≡ pair (get_or t (k + k) 0) (get_or t (k + k + 1) 0)
written-get nothing k h = absurd (omega arith)
written-get (byte d w) zero h = refl
written-get (byte {h} {l} {t} {bs} d w) (suc k) g =
    let e : suc k + suc k ≡ suc (suc (k + k)) = omega arith in
    let f : suc k + suc k + 1 ≡ suc (suc (k + k + 1)) = omega arith in
    let a : get_or (h ∷ l ∷ t) (suc k + suc k) 0 ≡ get_or t (k + k) 0 = ap (λ (n : ℕ). get_or (h ∷ l ∷ t) n 0) e in
    let b : get_or (h ∷ l ∷ t) (suc k + suc k + 1) 0 ≡ get_or t (k + k + 1) 0 = ap (λ (n : ℕ). get_or (h ∷ l ∷ t) n 0) f in
    written-get w k (omega arith) ∙ sym (ap (λ (x : ℕ). pair x (get_or (h ∷ l ∷ t) (suc k + suc k + 1) 0)) a ∙ ap (λ (x : ℕ). pair (get_or t (k + k) 0) x) b)

-- one byte more in a sum
pub digested-with : (s v : ℕ) (p : Option (List ℕ)) → digested s (with v p) ≡ digested ((s + v) % 256) p
unfolding total
digested-with s v none = refl
digested-with s v (some bs) = ap {B = R.Option ℕ} (λ n. Some n) (omega arith)

-- two digits read
pub digest-step : (t : List ℕ) (s x y : ℕ) → 2 ≤ length t → x ≡ value (get_or t 0 0) → y ≡ value (get_or t 1 0) → x ≤ 15 → y ≤ 15 →
    digested s (pairs t) ≡ digested ((s + 16 * x + y) % 256) (pairs (drop 2 t))
unfolding pairs
digest-step [] s x y h p q m n = absurd (omega arith)
digest-step (a ∷ []) s x y h p q m n = absurd (omega arith)
digest-step (a ∷ b ∷ t) s x y h p q m n =
    let e : value a < 16 = omega arith in
    let f : value b < 16 = omega arith in
    let g : s + 16 * x + y ≡ s + pair a b = omega arith in
    rw (lt-ltb _ _ e, lt-ltb _ _ f, g) (digested-with s (pair a b) (pairs t))

pub digest-first : (t : List ℕ) (s x : ℕ) → 2 ≤ length t → x ≡ value (get_or t 0 0) → 15 < x → digested s (pairs t) ≡ None
unfolding pairs
digest-first [] s x h p m = absurd (omega arith)
digest-first (a ∷ []) s x h p m = absurd (omega arith)
digest-first (a ∷ b ∷ t) s x h p m = let e : 16 ≤ value a = omega arith in rw (le-ltb _ _ e)

pub digest-second : (t : List ℕ) (s y : ℕ) → 2 ≤ length t → y ≡ value (get_or t 1 0) → 15 < y → digested s (pairs t) ≡ None
unfolding pairs
digest-second [] s y h p m = absurd (omega arith)
digest-second (a ∷ []) s y h p m = absurd (omega arith)
digest-second (a ∷ b ∷ t) s y h p m = let e : 16 ≤ value b = omega arith in rw (le-ltb _ _ e) (both (is_hex a))
  where
    both : (q : Bool) → digested s (cond (q && false) (with (pair a b) (pairs t)) none) ≡ None
    both true = refl
    both false = refl

-- a digit left over, and none
pub digest-odd : (t : List ℕ) (s : ℕ) → length t ≡ 1 → digested s (pairs t) ≡ None
unfolding pairs
digest-odd [] s h = absurd (omega arith)
digest-odd (a ∷ []) s h = refl
digest-odd (a ∷ b ∷ t) s h = absurd (omega arith)

pub digest-end : (t : List ℕ) (s : ℕ) → s < 256 → length t ≡ 0 → digested s (pairs t) ≡ Some s
unfolding pairs total
digest-end [] s m h = ap {B = R.Option ℕ} (λ n. Some n) (omega arith)
digest-end (a ∷ t) s m h = absurd (omega arith)

-- what is behind two digits
pub behind-two : (t : List ℕ) → take (length t - 2) (drop 2 t) ≡ drop 2 t
behind-two t = take_all (length t - 2) (drop 2 t) (omega (arith, length-drop 2 t))
