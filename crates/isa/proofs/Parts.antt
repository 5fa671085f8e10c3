-- A word and its parts: a word is put together again from its parts, and has the parts that it was put together from, for any layout without gaps.
use Rattle.std.proofs.Common.{◌≡◌, ℕ, suc, ◌+◌, ◌*◌, ◌/◌, ◌%◌, ◌^◌, ◌<◌, ◌≤◌, Bool, true, ◌&&◌, eqb, leb, List, [], ◌∷◌, length, sym, refl, ap, add_assoc, mod-lt, mul_assoc, add-mul, arith, pow_pos, pow-add, ltb-true, lt-ltb, eqb-true, leb-true}
use native.Mathlib.Nat.{mod-one, suc_inj}
use lib.Arith.{digits_lt}
use lib.Pow.{mod-pow-add, high, low}
use Rattle.isa.proofs.Both.{and_left, and_right, Each}
use Rattle.word_layout.specs.Layout.{Part, width, unpack, pack, each_fits}

-- the parts lie one below the other, from just below bit `top` down to bit 0
abbrev pub covers : ℕ → List Part → Bool
covers top [] = eqb top 0
covers top (p ∷ ps) = eqb (suc p.high) top && (leb p.low p.high && covers p.low ps)

-- a first part and the layout below it
record First (top : ℕ) (p : Part) (ps : List Part) : Type 0 where
  sum : width p + p.low ≡ top
  rest : covers p.low ps ≡ true

first : (top : ℕ) (p : Part) (ps : List Part) → covers top (p ∷ ps) ≡ true → First top p ps
first top p ps c =
    let e : suc p.high ≡ top = eqb-true _ _ (and_left _ _ c) in
    let d = and_right (eqb (suc p.high) top) _ c in
    let l : p.low ≤ p.high = leb-true _ _ (and_left (leb p.low p.high) _ d) in
    record { sum = omega arith; rest = and_right (leb p.low p.high) _ d }

-- a word of `top` bits is what its parts make
pub pack-unpack : (top : ℕ) (ps : List Part) → covers top ps ≡ true → (w : ℕ) → pack ps (unpack ps w) ≡ w % 2 ^ top
pack-unpack top [] c w = rw (eqb-true top 0 c) (sym (mod-one w))
pack-unpack top (p ∷ ps) c w =
    let f = first top p ps c in
    rw (pack-unpack p.low ps f.rest w, ← f.sum) (sym (mod-pow-add w (width p) p.low))

-- numbers that have room make a word of `top` bits
pub pack-below : (top : ℕ) (ps : List Part) → covers top ps ≡ true → (vs : List ℕ) → length vs ≡ length ps → Each (each_fits ps vs) → pack ps vs < 2 ^ top
pack-below top [] c vs l h = pow_pos top
pack-below top (p ∷ ps) c [] l h = pow_pos top
pack-below top (p ∷ ps) c (v ∷ vs) l h =
    let f = first top p ps c in
    rw (← f.sum, pow-add 2 (width p) p.low)
    (digits_lt (ltb-true v (2 ^ width p) h.0) (pack-below p.low ps f.rest vs (suc_inj l) h.1))

-- a word has the parts that it was put together from, whatever stands above it
pub unpack-pack : (top : ℕ) (ps : List Part) → covers top ps ≡ true → (vs : List ℕ) → length vs ≡ length ps → Each (each_fits ps vs) →
    (x : ℕ) → unpack ps (x * 2 ^ top + pack ps vs) ≡ vs
unpack-pack top [] c [] l h x = refl
unpack-pack top [] c (v ∷ vs) l h x = let z : ◌≡◌ {A = ℕ} 0 1 = cc in absurd (omega arith)
unpack-pack top (p ∷ ps) c [] l h x = let z : ◌≡◌ {A = ℕ} 0 1 = cc in absurd (omega arith)
unpack-pack top (p ∷ ps) c (v ∷ vs) l h x =
    let f = first top p ps c in
    let l' = suc_inj l in
    let r = pack-below p.low ps f.rest vs l' h.1 in
    let y = x * 2 ^ width p + v in
    rw (regroup x v (pack ps vs) (width p) p.low top f.sum, high y p.low r, low x (width p) (ltb-true v (2 ^ width p) h.0))
    (ap (λ (t : List ℕ). v ∷ t) (unpack-pack p.low ps f.rest vs l' h.1 y))
  where
    regroup : (x v r j k t : ℕ) → j + k ≡ t → x * 2 ^ t + (v * 2 ^ k + r) ≡ (x * 2 ^ j + v) * 2 ^ k + r
    regroup x v r j k t e = rw (← e, pow-add 2 j k, ← mul_assoc x (2 ^ j) (2 ^ k), add-mul (x * 2 ^ j) v (2 ^ k)) (sym (add_assoc (x * 2 ^ j * 2 ^ k) (v * 2 ^ k) r))

-- a word's parts have room
pub each_fits-unpack : (ps : List Part) (w : ℕ) → Each (each_fits ps (unpack ps w))
each_fits-unpack [] w = tt
each_fits-unpack (p ∷ ps) w = (lt-ltb _ _ (mod-lt (w / 2 ^ p.low) (pow_pos (width p))), each_fits-unpack ps w)
