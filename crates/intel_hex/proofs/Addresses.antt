-- The byte at each address is that of the record that covers it.
use Prim.Native.Nat.{ℕ, ◌+◌, ◌-◌, ◌*◌, ◌≤◌, ◌<◌}
use mathlib.Core.Bool.{Bool, true, false, cond}
use mathlib.Core.List.{List, [], ◌∷◌, ◌++◌, map}
use mathlib.Core.Path.{◌≡◌, refl, sym, ap, ◌∙◌}
use native.Mathlib.Omega.{arith}
use borrow.Author.Tests.{lt-ltb, le-ltb, ltb-true, ltb-false}
use lib.Dec.{ltb}
use lib.ListN.{length, get_or, replicate, length-append, length-replicate, get_or-replicate, get_or-append, get_or-eq_default}
use lib.Seq.{get_or-append-add}
use Rattle.intel_hex.specs.Claims.{pieces, byte_at, ReadsBytes}
use Rattle.intel_hex.specs.File.{reading, stopped, placed, misplaced, taken, steps, finish, image, image_of}
use Rattle.intel_hex.specs.Record.{Line, lines, Record, no_record, data_record, upper_record, end_record, record_in}
use Rattle.intel_hex.proofs.Passing.{refused}
use Rattle.intel_hex.proofs.Scanning.{length-placed, or-false}

-- bytes, and more of them from an address on: before the gap, in it, and behind it
module _ (bs ds : List ℕ) (from a : ℕ) (rises : length bs ≤ from) where
  zeros : List ℕ
  zeros = replicate (from - length bs) 0

  long : length (bs ++ zeros) ≡ from
  unfolding zeros
  long = length-append bs zeros ∙ omega (arith, length-replicate {A = ℕ} (from - length bs) 0)

  placed-before : a < length bs → get_or (placed bs from ds) a 0 ≡ get_or bs a 0
  unfolding placed zeros
  placed-before h = get_or-append (bs ++ zeros) ds 0 a (omega (arith, long)) ∙ get_or-append bs zeros 0 a h

  placed-gap : length bs ≤ a → a < from → get_or (placed bs from ds) a 0 ≡ 0
  unfolding placed zeros
  placed-gap h g =
      let e : length bs + (a - length bs) ≡ a = omega arith in
      get_or-append (bs ++ zeros) ds 0 a (omega (arith, long))
      ∙ ap (λ (m : ℕ). get_or (bs ++ zeros) m 0) (sym e)
      ∙ get_or-append-add bs zeros (a - length bs) 0
      ∙ get_or-replicate (from - length bs) (a - length bs) 0 0 (omega arith)

  placed-behind : from ≤ a → get_or (placed bs from ds) a 0 ≡ get_or ds (a - from) 0
  unfolding placed zeros
  placed-behind h =
      let e : length (bs ++ zeros) + (a - from) ≡ a = omega (arith, long) in
      ap (λ (m : ℕ). get_or (placed bs from ds) m 0) (sym e) ∙ get_or-append-add (bs ++ zeros) ds (a - from) 0

-- what was read so far and the records that follow say the byte at an address; those that follow say none below what was read
pub record Said (bs : List ℕ) (u : ℕ) (ls : List Line) (b : List ℕ) (a : ℕ) : Type 0 where
  pub byte : get_or b a 0 ≡ cond (ltb a (length bs)) (get_or bs a 0) (byte_at (pieces u (map record_in ls)) a)
  pub low : a < length bs → byte_at (pieces u (map record_in ls)) a ≡ 0

-- the same with the record of the next line, and the others behind it
record SaidBy (bs : List ℕ) (u : ℕ) (r : Record) (ls : List Line) (b : List ℕ) (a : ℕ) : Type 0 where
  pub byte : get_or b a 0 ≡ cond (ltb a (length bs)) (get_or bs a 0) (byte_at (pieces u (r ∷ map record_in ls)) a)
  pub low : a < length bs → byte_at (pieces u (r ∷ map record_in ls)) a ≡ 0

-- one data record more
module _ (bs ds : List ℕ) (u address : ℕ) (ls : List Line) (b : List ℕ) (a : ℕ) (rises : length bs ≤ 65536 * u + address)
    (s : Said (placed bs (65536 * u + address) ds) u ls b a) where
  size : length (placed bs (65536 * u + address) ds) ≡ 65536 * u + address + length ds
  size = length-placed bs ds (65536 * u + address) rises

  said-data : SaidBy bs u (data_record address ds) ls b a
  unfolding pieces byte_at
  said-data = go (ltb a (length bs)) refl (ltb a (65536 * u + address)) refl (ltb a (65536 * u + address + length ds)) refl
    where
      go : (p : Bool) → ltb a (length bs) ≡ p → (q : Bool) → ltb a (65536 * u + address) ≡ q → (r : Bool) → ltb a (65536 * u + address + length ds) ≡ r →
          SaidBy bs u (data_record address ds) ls b a
      go true e true f r g =
          let h = ltb-true a (length bs) e in
          let l = s.low (omega (arith, size)) in
          let x : ltb a (length (placed bs (65536 * u + address) ds)) ≡ true = lt-ltb a (length (placed bs (65536 * u + address) ds)) (omega (arith, size)) in
          record { byte = rw e (s.byte ∙ rw x (placed-before bs ds (65536 * u + address) a rises h)); low = λ _. rw f l }
      go true e false f r g = absurd (omega (arith, ltb-true a (length bs) e, ltb-false a (65536 * u + address) f))
      go false e true f r g =
          let h = ltb-false a (length bs) e in
          let k = ltb-true a (65536 * u + address) f in
          let l = s.low (omega (arith, size)) in
          let x : ltb a (length (placed bs (65536 * u + address) ds)) ≡ true = lt-ltb a (length (placed bs (65536 * u + address) ds)) (omega (arith, size)) in
          record { byte = rw (e, f) (s.byte ∙ rw x (placed-gap bs ds (65536 * u + address) a rises h k ∙ sym l)); low = λ i. absurd (omega arith) }
      go false e false f true g =
          let h = ltb-false a (length bs) e in
          let k = ltb-false a (65536 * u + address) f in
          let m = ltb-true a (65536 * u + address + length ds) g in
          let x : ltb a (length (placed bs (65536 * u + address) ds)) ≡ true = lt-ltb a (length (placed bs (65536 * u + address) ds)) (omega (arith, size)) in
          record { byte = rw (e, f, g) (s.byte ∙ rw x (placed-behind bs ds (65536 * u + address) a rises k)); low = λ i. absurd (omega arith) }
      go false e false f false g =
          let h = ltb-false a (length bs) e in
          let k = ltb-false a (65536 * u + address) f in
          let m = ltb-false a (65536 * u + address + length ds) g in
          let x : ltb a (length (placed bs (65536 * u + address) ds)) ≡ false = le-ltb a (length (placed bs (65536 * u + address) ds)) (omega (arith, size)) in
          record { byte = rw (e, f, g) (s.byte ∙ rw x); low = λ i. absurd (omega arith) }

said : (ls : List Line) (n u : ℕ) (bs : List ℕ) (t : Bool) (b : List ℕ) → finish (steps (reading n u bs t) ls) ≡ image b → (a : ℕ) → Said bs u ls b a
unfolding steps pieces byte_at
said [] n u bs true b e a =
    let f : bs ≡ b = cc in
    record { byte = ap (λ (x : List ℕ). get_or x a 0) (sym f) ∙ go (ltb a (length bs)) refl; low = λ h. refl }
  where
    go : (p : Bool) → ltb a (length bs) ≡ p → get_or bs a 0 ≡ cond p (get_or bs a 0) 0
    go true q = refl
    go false q = get_or-eq_default bs 0 {n = a} (ltb-false a (length bs) q)
said [] n u bs false b e a = let z : ◌≡◌ {A = ℕ} 0 1 = cc in absurd (omega arith)
said (l ∷ ls) n u bs true b e a = absurd (refused 17 n ls b e)
said (l ∷ ls) n u bs false b e a = let s = go (said ls) (record_in l) e in record { byte = s.byte; low = s.low }
  where
    go : ((n u : ℕ) (bs : List ℕ) (t : Bool) (b : List ℕ) → finish (steps (reading n u bs t) ls) ≡ image b → (a : ℕ) → Said bs u ls b a) →
        (r : Record) → finish (steps (taken n u bs r) ls) ≡ image b → SaidBy bs u r ls b a
    go ih no_record e = absurd (refused 15 n ls b e)
    go ih end_record e = let s = ih (n + 1) u bs true b e a in record { byte = s.byte; low = s.low }
    go ih (upper_record h) e = let s = ih (n + 1) h bs false b e a in record { byte = s.byte; low = s.low }
    go ih (data_record address ds) e = at (misplaced (length bs) u address (length ds)) refl e
      where
        at : (t : Bool) → misplaced (length bs) u address (length ds) ≡ t →
            finish (steps (cond t (stopped 16 n) (reading (n + 1) u (placed bs (65536 * u + address) ds) false)) ls) ≡ image b →
            SaidBy bs u (data_record address ds) ls b a
        at true q e = absurd (refused 16 n ls b e)
        at false q e =
            let r = ltb-false (65536 * u + address) (length bs) (or-false (ltb (65536 * u + address) (length bs)) (ltb 65536 (address + length ds)) q) in
            said-data bs ds u address ls b a r (ih (n + 1) u (placed bs (65536 * u + address) ds) false b e a)

pub reads_bytes : ReadsBytes
unfolding image_of
reads_bytes text b good a = (said (lines text) 1 0 [] false b good a).byte ∙ rw (le-ltb a 0 (omega arith))
