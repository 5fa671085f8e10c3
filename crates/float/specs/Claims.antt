-- The claims that are proved of the definitions: about NaN results, about 48, and about compares with a NaN.
use Rattle.std.specs.Prelude.{◌≡◌, ℕ, ◌<◌, ◌^◌, Bool, true, false, ◌⊎◌, ℤ}
use Rattle.std.specs.Float.{nan, fin}
use Rattle.float.specs.Floats.{value, pattern, fadd_of, fsub_of, fmul_of, fdiv_of, signed, i32tof32_of, feq_of, fne_of, fgt_of, fge_of, flt_of, fle_of}
use Rattle.float.specs.Nearest.{Stands, NearestEven}

-- "any NaN result is 0x7FC00000": that is a NaN's pattern, and of all patterns that stand for a NaN it alone is a result
abbrev pub NanPattern : Type 0
NanPattern = pattern nan ≡ 0x7FC0_0000

abbrev pub OneNan : (ℕ → ℕ → ℕ) → Type 0
OneNan f = (a b : ℕ) → value (f a b) ≡ nan → f a b ≡ 0x7FC0_0000

unfoldable pub AnyNanResult : Type 0
AnyNanResult = OneNan fadd_of × OneNan fsub_of × OneNan fmul_of × OneNan fdiv_of

-- "48 rounds to nearest even": at d = 1 against every whole number that is a binary32, at d = 2 ^ 149, the smallest one's inverse, against every finite
-- binary32. So the result is a whole number too.
abbrev pub RoundsToNearestEven : Type 0
RoundsToNearestEven = (w d : ℕ) → w < 2 ^ 32 → 0 < d → NearestEven d (signed w) (i32tof32_of w)

-- so nothing finite is left out at d = 2 ^ 149
abbrev pub EveryFinite : Type 0
EveryFinite = (c : ℕ) (s : Bool) (m : ℕ) (e : ℤ) → value c ≡ fin s m e → (z : ℤ) × Stands (2 ^ 149) c z

-- there is one nearest value: two patterns that are both nearest stand for one number
abbrev pub OneNearest : Type 0
OneNearest = (d : ℕ) (n : ℤ) (b c : ℕ) → b < 2 ^ 32 → c < 2 ^ 32 → (p : NearestEven d n b) (q : NearestEven d n c) → p.r ≡ q.r

-- "With a NaN, ne is true and the others false."
unfoldable pub NoneWithNan : Type 0
NoneWithNan = (a b : ℕ) → (value a ≡ nan) ⊎ (value b ≡ nan) →
    (feq_of a b ≡ false) × (fne_of a b ≡ true) × (fgt_of a b ≡ false) × (fge_of a b ≡ false) × (flt_of a b ≡ false) × (fle_of a b ≡ false)
