-- A good file stored line by line.
use Prim.Native.Nat.{ℕ, ◌+◌, ◌-◌, ◌*◌, ◌/◌, ◌%◌, ◌≤◌, ◌<◌}
use mathlib.Core.Bool.{Bool, true, false, cond}
use mathlib.Core.List.{List, [], ◌∷◌, ◌++◌}
use mathlib.Core.Path.{◌≡◌, refl, sym, ap, subst, ◌∙◌}
use native.Mathlib.Omega.{arith}
use borrow.Author.Tests.{ltb-false, ltb-true}
use lib.Dec.{ltb}
use lib.ListN.{length, take, drop, replicate}
use Rattle.intel_hex.specs.File.{reading, stopped, placed, misplaced, taken, steps, start, finish, Image, image, no_image, image_of}
use Rattle.program.specs.Program.{program_in}
use Rattle.intel_hex.specs.Record.{Line, lines_from, lines, Record, no_record, data_record, upper_record, end_record, record_in, record_of}
use Rattle.intel_hex.specs.Scan.{heading, line_length}
use Rattle.intel_hex.specs.Storing.{store_all, pair_bytes, words_after, place_after, DataFits, RecordFits}
use Rattle.intel_hex.specs.Types.{Heading, Place}
use Rattle.std.specs.Prelude.{Option}
use Rattle.intel_hex.proofs.Scanning.{stays, behind-end, unended, length-placed, or-false, line_step}
use Rattle.intel_hex.proofs.Lines.{nil}
use Rattle.intel_hex.proofs.Words.{Small}
use Rattle.intel_hex.proofs.Stored.{Holding, hold-none, hold-placed, hold-end, small-placed}
use Rattle.intel_hex.proofs.Contents.{data-at}

-- a refused file has no image
pub refused : (k n : ℕ) (ls : List Line) (b : List ℕ) → finish (steps (stopped k n) ls) ≡ image b → ⊥
refused k n ls b e =
    let f : no_image k n ≡ image b = sym (ap finish (stays k n ls)) ∙ e in
    let z : ◌≡◌ {A = ℕ} 0 1 = cc in
    omega arith

-- what is read so far is not longer than the whole
pub grows : (ls : List Line) (n u : ℕ) (bs : List ℕ) (t : Bool) (b : List ℕ) → finish (steps (reading n u bs t) ls) ≡ image b → length bs ≤ length b
unfolding steps
grows [] n u bs true b e = let f : bs ≡ b = cc in omega (arith, ap length f)
grows [] n u bs false b e = let z : ◌≡◌ {A = ℕ} 0 1 = cc in absurd (omega arith)
grows (l ∷ ls) n u bs true b e = absurd (refused 17 n ls b e)
grows (l ∷ ls) n u bs false b e = go (grows ls) (record_in l) e
  where
    go : ((n u : ℕ) (bs : List ℕ) (t : Bool) (b : List ℕ) → finish (steps (reading n u bs t) ls) ≡ image b → length bs ≤ length b) →
        (r : Record) → finish (steps (taken n u bs r) ls) ≡ image b → length bs ≤ length b
    go ih no_record e = absurd (refused 15 n ls b e)
    go ih end_record e = ih (n + 1) u bs true b e
    go ih (upper_record h) e = ih (n + 1) h bs false b e
    go ih (data_record a ds) e = at (misplaced (length bs) u a (length ds)) refl e
      where
        at : (t : Bool) → misplaced (length bs) u a (length ds) ≡ t → finish (steps (cond t (stopped 16 n) (reading (n + 1) u (placed bs (65536 * u + a) ds) false)) ls) ≡ image b → length bs ≤ length b
        at true q e = absurd (refused 16 n ls b e)
        at false q e =
            let r = ltb-false (65536 * u + a) (length bs) (or-false (ltb (65536 * u + a) (length bs)) (ltb 65536 (a + length ds)) q) in
            let k = length-placed bs ds (65536 * u + a) r in
            let g = ih (n + 1) u (placed bs (65536 * u + a) ds) false b e in
            omega arith

-- a file stored as far as a rest of it
pub record Storing (text l₀ : List ℕ) (p : Place) (l : List ℕ) (rest : List ℕ) : Type 0 where
  pub n : ℕ
  pub bytes : List ℕ
  pub ended : Bool
  pub top : p.top ≡ length bytes
  pub read : steps start (lines text) ≡ steps (reading n p.upper bytes ended) (lines rest)
  pub holds : Holding l₀ bytes l
  pub small : Small bytes

abbrev pub place : ℕ → ℕ → Place
place upper top = record { upper = upper; top = top }

pub begin : (text l : List ℕ) → Storing text l (place 0 0) l text
begin text l = record { n = 1; bytes = []; ended = false; top = refl; read = refl; holds = hold-none l; small = λ i. omega arith }

module _ (text l₀ : List ℕ) (p : Place) (l rest : List ℕ) (s : Storing text l₀ p l rest) (b : List ℕ) (good : image_of text ≡ image b) where
  whole : finish (steps (reading s.n p.upper s.bytes s.ended) (lines rest)) ≡ image b
  unfolding image_of
  whole = sym (ap finish s.read) ∙ good

  pub stored : line_length rest ≡ length rest → length b % 4 ≡ 0 → length b ≤ 4 * length l₀ → l ≡ program_in b ++ drop (length b / 4) l₀
  unfolding steps lines_from
  stored h m room =
      let d : rest ≡ [] = nil rest (none (ltb 0 (length rest)) refl s.ended whole) in
      let f : finish (reading s.n p.upper s.bytes s.ended) ≡ image b = rw d at whole in
      let e : s.bytes ≡ b = ends s.ended f in
      hold-end l₀ b l (length b / 4) (subst (λ (x : List ℕ). Holding l₀ x l) e s.holds) (omega arith) (omega arith)
    where
      ends : (t : Bool) → finish (reading s.n p.upper s.bytes t) ≡ image b → s.bytes ≡ b
      ends true f = cc
      ends false f = let z : ◌≡◌ {A = ℕ} 0 1 = cc in absurd (omega arith)

      none : (q : Bool) → ltb 0 (length rest) ≡ q → (t : Bool) → finish (steps (reading s.n p.upper s.bytes t) (lines rest)) ≡ image b → length rest ≡ 0
      none false q t f = omega (arith, ltb-false 0 (length rest) q)
      none true q true f =
          let w = ltb-true 0 (length rest) q in
          let g : no_image 17 s.n ≡ image b = sym (ap finish (behind-end s.n p.upper s.bytes [] rest (omega arith))) ∙ f in
          let z : ◌≡◌ {A = ℕ} 0 1 = cc in
          absurd (omega arith)
      none true q false f =
          let w = ltb-true 0 (length rest) q in
          let g : no_image 15 s.n ≡ image b = sym (ap finish (unended s.n p.upper s.bytes rest w h)) ∙ f in
          let z : ◌≡◌ {A = ℕ} 0 1 = cc in
          absurd (omega arith)

  module _ (room : length b ≤ 4 * length l₀) (e : ℕ) (more : e < length rest) (end : e ≡ line_length rest) where
    fresh : s.ended ≡ false
    fresh = go s.ended whole
      where
        go : (t : Bool) → finish (steps (reading s.n p.upper s.bytes t) (lines rest)) ≡ image b → t ≡ false
        go false f = refl
        go true f =
            let g : no_image 17 s.n ≡ image b = sym (ap finish (behind-end s.n p.upper s.bytes [] rest (omega arith))) ∙ f in
            let z : ◌≡◌ {A = ℕ} 0 1 = cc in
            absurd (omega arith)

    open-whole : finish (steps (reading s.n p.upper s.bytes false) (lines rest)) ≡ image b
    open-whole = rw fresh at whole

    next : finish (steps (taken s.n p.upper s.bytes (record_of (take e rest))) (lines (drop (e + 1) rest))) ≡ image b
    next = sym (ap finish (line_step rest e s.n p.upper s.bytes more end)) ∙ open-whole

    passed : steps start (lines text) ≡ steps (taken s.n p.upper s.bytes (record_of (take e rest))) (lines (drop (e + 1) rest))
    passed = s.read ∙ rw fresh (line_step rest e s.n p.upper s.bytes more end)

    record-fits : (r : Record) → record_of (take e rest) ≡ r → RecordFits (take e rest) (heading r) p l
    unfolding RecordFits
    record-fits no_record q = tt
    record-fits end_record q = tt
    record-fits (upper_record h) q = tt
    record-fits (data_record a ds) q = go (misplaced (length s.bytes) p.upper a (length ds)) refl (rw q at next)
      where
        go : (t : Bool) → misplaced (length s.bytes) p.upper a (length ds) ≡ t →
            finish (steps (cond t (stopped 16 s.n) (reading (s.n + 1) p.upper (placed s.bytes (65536 * p.upper + a) ds) false)) (lines (drop (e + 1) rest))) ≡ image b →
            DataFits (take e rest) a (length ds) p l
        go true m f = absurd (refused 16 s.n (lines (drop (e + 1) rest)) b f)
        go false m f =
            let r = ltb-false (65536 * p.upper + a) (length s.bytes) (or-false (ltb (65536 * p.upper + a) (length s.bytes)) (ltb 65536 (a + length ds)) m) in
            let k = length-placed s.bytes ds (65536 * p.upper + a) r in
            let g = grows (lines (drop (e + 1) rest)) (s.n + 1) p.upper (placed s.bytes (65536 * p.upper + a) ds) false b f in
            let d = data-at (take e rest) a (length ds) (ap heading q) in
            let t = s.top in
            let z = s.holds.size in
            record { rises = omega arith; room = omega arith; long = d.long }

    pub fits : (h : Option Heading) → h ≡ heading (record_of (take e rest)) → RecordFits (take e rest) h p l
    fits h q = subst (λ (x : Option Heading). RecordFits (take e rest) x p l) (sym q) (record-fits (record_of (take e rest)) refl)

    record-goes : (r : Record) → record_of (take e rest) ≡ r →
        Storing text l₀ (place_after (heading r) p) (words_after (take e rest) (heading r) p l) (drop (e + 1) rest)
    unfolding place_after words_after
    record-goes no_record q = absurd (refused 15 s.n (lines (drop (e + 1) rest)) b (rw q at next))
    record-goes end_record q =
        record { n = s.n + 1; bytes = s.bytes; ended = true; top = s.top; read = rw q at passed; holds = s.holds; small = s.small }
    record-goes (upper_record h) q =
        record { n = s.n + 1; bytes = s.bytes; ended = false; top = s.top; read = rw q at passed; holds = s.holds; small = s.small }
    record-goes (data_record a ds) q = go (misplaced (length s.bytes) p.upper a (length ds)) refl (rw q at next) (rw q at passed)
      where
        go : (t : Bool) → misplaced (length s.bytes) p.upper a (length ds) ≡ t →
            finish (steps (cond t (stopped 16 s.n) (reading (s.n + 1) p.upper (placed s.bytes (65536 * p.upper + a) ds) false)) (lines (drop (e + 1) rest))) ≡ image b →
            steps start (lines text) ≡ steps (cond t (stopped 16 s.n) (reading (s.n + 1) p.upper (placed s.bytes (65536 * p.upper + a) ds) false)) (lines (drop (e + 1) rest)) →
            Storing text l₀ (place p.upper (65536 * p.upper + a + length ds))
            (store_all (store_all l p.top (replicate (65536 * p.upper + a - p.top) 0)) (65536 * p.upper + a) (pair_bytes (drop 1 (take e rest)) 4 (length ds))) (drop (e + 1) rest)
        go true m f g = absurd (refused 16 s.n (lines (drop (e + 1) rest)) b f)
        go false m f g =
            let from = 65536 * p.upper + a in
            let r = ltb-false from (length s.bytes) (or-false (ltb from (length s.bytes)) (ltb 65536 (a + length ds)) m) in
            let k = length-placed s.bytes ds from r in
            let w = grows (lines (drop (e + 1) rest)) (s.n + 1) p.upper (placed s.bytes from ds) false b f in
            let d = data-at (take e rest) a (length ds) (ap heading q) in
            let x : data_record a ds ≡ data_record a d.ds = sym q ∙ d.is in
            let same : ds ≡ d.ds = cc in
            let small : Small ds = subst (λ (x : List ℕ). Small x) (sym same) d.small in
            let h = hold-placed l₀ s.bytes l ds from s.holds s.small small r (omega arith) in
            record {
              n = s.n + 1;
              bytes = placed s.bytes from ds;
              ended = false;
              top = sym k;
              read = g;
              holds = subst (λ (x : List ℕ). Holding l₀ (placed s.bytes from ds) (store_all (store_all l p.top (replicate (from - p.top) 0)) from x)) (same ∙ d.same)
                  (subst (λ (x : ℕ). Holding l₀ (placed s.bytes from ds) (store_all (store_all l x (replicate (from - x) 0)) from ds)) (sym s.top) h);
              small = small-placed s.bytes ds from s.small small;
            }

    pub goes : (h : Option Heading) (q : Place) (m : List ℕ) → h ≡ heading (record_of (take e rest)) → q ≡ place_after h p → m ≡ words_after (take e rest) h p l → Storing text l₀ q m (drop (e + 1) rest)
    goes h q m i j k =
        subst (λ (x : Place). Storing text l₀ x m (drop (e + 1) rest)) (sym (j ∙ ap (λ (y : Option Heading). place_after y p) i))
        (subst (λ (x : List ℕ). Storing text l₀ (place_after (heading (record_of (take e rest))) p) x (drop (e + 1) rest)) (sym (k ∙ ap (λ (y : Option Heading). words_after (take e rest) y p l) i))
        (record-goes (record_of (take e rest)) refl))

pub same-image : {i : Image} {a b : List ℕ} → i ≡ image a → i ≡ image b → a ≡ b
same-image e f = cc
