-- A file judged line by line.
use Prim.Native.Nat.{ℕ, suc, ◌+◌, ◌-◌, ◌*◌, ◌≤◌, ◌<◌}
use mathlib.Core.Bool.{Bool, true, false, ◌||◌, cond}
use mathlib.Core.List.{List, [], ◌∷◌, ◌++◌}
use mathlib.Core.Path.{◌≡◌, refl, sym, ap, ◌∙◌}
use native.Mathlib.Omega.{arith}
use borrow.Author.Tests.{ltb-false, ltb-true}
use lib.Dec.{eqb, ltb}
use lib.ListN.{length, take, drop, replicate, length-append, length-replicate, length-drop}
use lib.Seq.{length-take-le}
use Rattle.intel_hex.specs.File.{Progress, reading, stopped, placed, misplaced, taken, steps, start, finish, image_of}
use Rattle.intel_hex.specs.Record.{Line, line, lines_from, lines, Record, no_record, data_record, upper_record, end_record, record_of, without_cr}
use Rattle.intel_hex.specs.Scan.{heading, line_length, cursor, advanced, Judged, Bytes, Refused, judged}
use Rattle.intel_hex.specs.Types.{Cursor}
use Rattle.std.specs.Prelude.{Ok, Err}
use Rattle.answer.specs.Refusal.{row_of}
use Rattle.answer.specs.declared.refusal.Refusal.{Refusal}
use Rattle.answer.specs.declared.refusal.Refusal.TheVariants.{HexRecord, HexOrder}
use Rattle.intel_hex.proofs.Lines.{cut, uncut, nil}

-- a refusal stays
pub stays : (k n : ℕ) (ls : List Line) → steps (stopped k n) ls ≡ stopped k n
unfolding steps
stays k n [] = refl
stays k n (l ∷ ls) = stays k n ls

-- a line behind the end record
pub behind-end : (n u : ℕ) (bs begun t : List ℕ) → 0 < length begun + length t → steps (reading n u bs true) (lines_from begun t) ≡ stopped 17 n
unfolding steps lines_from
behind-end n u bs [] [] h = absurd (omega arith)
behind-end n u bs (c ∷ begun) [] h = refl
behind-end n u bs begun (c ∷ t) h = go (behind-end n u bs (begun ++ c ∷ []) t (omega (arith, length-append begun (c ∷ [])))) (eqb c 10)
  where
    go : steps (reading n u bs true) (lines_from (begun ++ c ∷ []) t) ≡ stopped 17 n → (b : Bool) →
        steps (reading n u bs true) (cond b (line begun true ∷ lines_from [] t) (lines_from (begun ++ c ∷ []) t)) ≡ stopped 17 n
    go ih true = stays 17 n (lines_from [] t)
    go ih false = ih

-- a last line without its LF
pub unended : (n u : ℕ) (bs t : List ℕ) → 0 < length t → line_length t ≡ length t → steps (reading n u bs false) (lines t) ≡ stopped 15 n
unfolding steps
unended n u bs [] h e = absurd (omega arith)
unended n u bs (c ∷ t) h e = ap (steps (reading n u bs false)) (uncut [] (c ∷ t) e)

pub length-placed : (bs more : List ℕ) (from : ℕ) → length bs ≤ from → length (placed bs from more) ≡ from + length more
unfolding placed
length-placed bs more from h =
    length-append (bs ++ replicate (from - length bs) 0) more ∙
    rw (length-append bs (replicate (from - length bs) 0), length-replicate {A = ℕ} (from - length bs) 0) (omega arith)

pub or-false : (a b : Bool) → (a || b) ≡ false → a ≡ false
or-false true b e = e
or-false false b e = refl

-- what a record makes of a file read so far, by what the code makes of its heading
pub record-stops : (n u : ℕ) (k : Refusal) (bs : List ℕ) (r : Record) → advanced (cursor u (length bs) false) (heading r) ≡ Err k → taken n u bs r ≡ stopped (row_of k) n
unfolding advanced
record-stops n u k bs no_record e = let f : HexRecord ≡ k = cc in ap (λ (x : Refusal). stopped (row_of x) n) f
record-stops n u k bs end_record e = let z : ◌≡◌ {A = ℕ} 0 1 = cc in absurd (omega arith)
record-stops n u k bs (upper_record h) e = let z : ◌≡◌ {A = ℕ} 0 1 = cc in absurd (omega arith)
record-stops n u k bs (data_record a ds) e = go (misplaced (length bs) u a (length ds)) e
  where
    go : (b : Bool) → cond b (Err HexOrder) (Ok (cursor u (65536 * u + a + length ds) false)) ≡ Err k →
        cond b (stopped 16 n) (reading (n + 1) u (placed bs (65536 * u + a) ds) false) ≡ stopped (row_of k) n
    go true e = let f : HexOrder ≡ k = cc in ap (λ (x : Refusal). stopped (row_of x) n) f
    go false e = let z : ◌≡◌ {A = ℕ} 0 1 = cc in absurd (omega arith)

-- a file read on
pub record Goes (p : Progress) (n : ℕ) (c : Cursor) : Type 0 where
  pub bytes : List ℕ
  pub read : p ≡ reading n c.upper bytes c.ended
  pub top : c.top ≡ length bytes

pub record-goes : (n u : ℕ) (bs : List ℕ) (r : Record) (c : Cursor) → advanced (cursor u (length bs) false) (heading r) ≡ Ok c → Goes (taken n u bs r) (n + 1) c
unfolding advanced
record-goes n u bs no_record c e = let z : ◌≡◌ {A = ℕ} 0 1 = cc in absurd (omega arith)
record-goes n u bs end_record c e = let f : cursor u (length bs) true ≡ c = cc in rw (← f) (record { bytes = bs; read = refl; top = refl })
record-goes n u bs (upper_record h) c e = let f : cursor h (length bs) false ≡ c = cc in rw (← f) (record { bytes = bs; read = refl; top = refl })
record-goes n u bs (data_record a ds) c e = go (misplaced (length bs) u a (length ds)) refl e
  where
    go : (b : Bool) → misplaced (length bs) u a (length ds) ≡ b → cond b (Err HexOrder) (Ok (cursor u (65536 * u + a + length ds) false)) ≡ Ok c →
        Goes (cond b (stopped 16 n) (reading (n + 1) u (placed bs (65536 * u + a) ds) false)) (n + 1) c
    go true q e = let z : ◌≡◌ {A = ℕ} 0 1 = cc in absurd (omega arith)
    go false q e =
        let f : cursor u (65536 * u + a + length ds) false ≡ c = cc in
        rw (← f) (record { bytes = placed bs (65536 * u + a) ds; read = refl; top = sym (length-placed bs ds (65536 * u + a) (ltb-false _ _ (or-false _ _ q))) })

-- a blank line is no record
pub blank-bad : (t : List ℕ) → length t ≡ 0 → record_of t ≡ no_record
unfolding record_of without_cr
blank-bad [] h = refl
blank-bad (c ∷ t) h = absurd (omega arith)

-- one line more
pub line_step : (t : List ℕ) (e n u : ℕ) (bs : List ℕ) → e < length t → e ≡ line_length t →
    steps (reading n u bs false) (lines t) ≡ steps (taken n u bs (record_of (take e t))) (lines (drop (e + 1) t))
unfolding steps
line_step t e n u bs more l =
    let y : suc (line_length t) ≡ e + 1 = omega arith in
    ap (steps (reading n u bs false)) (cut [] t (omega arith)) ∙ rw (y, ← l)

-- a file judged as far as a rest of it
pub record Judging (text : List ℕ) (c : Cursor) (n : ℕ) (rest : List ℕ) : Type 0 where
  pub bytes : List ℕ
  pub few : 2 * n + length rest ≤ length text + 2
  pub top : c.top ≡ length bytes
  pub read : steps start (lines text) ≡ steps (reading n c.upper bytes c.ended) (lines rest)

pub begin : (text : List ℕ) → Judging text (cursor 0 0 false) 1 text
begin text = record { bytes = []; few = omega arith; top = refl; read = refl }

module _ (text : List ℕ) (c : Cursor) (n : ℕ) (rest : List ℕ) (j : Judging text c n rest) where
  pub judged-behind : 0 < length rest → c.ended ≡ true → Refused 17 n ≡ judged (image_of text)
  unfolding image_of
  judged-behind h e =
      let r : steps start (lines text) ≡ stopped 17 n = j.read ∙ rw e (behind-end n c.upper j.bytes [] rest (omega arith)) in
      sym (ap (λ (p : Progress). judged (finish p)) r)

  pub judged-unended : 0 < length rest → c.ended ≡ false → line_length rest ≡ length rest → Refused 15 n ≡ judged (image_of text)
  unfolding image_of
  judged-unended h e l =
      let r : steps start (lines text) ≡ stopped 15 n = j.read ∙ rw e (unended n c.upper j.bytes rest h l) in
      sym (ap (λ (p : Progress). judged (finish p)) r)

  pub judged-whole : length rest ≡ 0 → c.ended ≡ true → Bytes c.top ≡ judged (image_of text)
  unfolding image_of steps lines_from
  judged-whole h e =
      let d = nil rest h in
      let r : steps start (lines text) ≡ reading n c.upper j.bytes true = j.read ∙ rw (e, d) in
      sym (ap (λ (p : Progress). judged (finish p)) r ∙ ap {B = Judged} (λ m. Bytes m) (sym j.top))

  pub judged-endless : length rest ≡ 0 → c.ended ≡ false → Refused 17 n ≡ judged (image_of text)
  unfolding image_of steps lines_from
  judged-endless h e =
      let d = nil rest h in
      let r : steps start (lines text) ≡ reading n c.upper j.bytes false = j.read ∙ rw (e, d) in
      sym (ap (λ (p : Progress). judged (finish p)) r)

  module _ (e : ℕ) (more : e < length rest) (fresh : c.ended ≡ false) (l : e ≡ line_length rest) where
    -- one line more
    stepped : steps start (lines text) ≡ steps (taken n c.upper j.bytes (record_of (take e rest))) (lines (drop (e + 1) rest))
    unfolding steps
    stepped = j.read ∙ rw fresh (line_step rest e n c.upper j.bytes more l)

    kept : advanced (cursor c.upper (length j.bytes) false) (heading (record_of (take e rest))) ≡ advanced c (heading (record_of (take e rest)))
    kept = ap (λ (d : Cursor). advanced d (heading (record_of (take e rest)))) (sym (ap (λ (m : ℕ). cursor c.upper m c.ended) j.top ∙ ap (λ (b : Bool). cursor c.upper (length j.bytes) b) fresh))

    pub judged-stops : (k : Refusal) → advanced c (heading (record_of (take e rest))) ≡ Err k → Refused (row_of k) n ≡ judged (image_of text)
    unfolding image_of
    judged-stops k s =
        sym (ap (λ (p : Progress). judged (finish p)) (stepped ∙ ap (λ (p : Progress). steps p (lines (drop (e + 1) rest))) (record-stops n c.upper k j.bytes (record_of (take e rest)) (kept ∙ s)) ∙ stays (row_of k) n _))

    -- a record is not blank
    passed : (next : Cursor) → advanced c (heading (record_of (take e rest))) ≡ Ok next → 0 < e
    unfolding advanced
    passed next s = go (ltb 0 e) refl
      where
        go : (b : Bool) → ltb 0 e ≡ b → 0 < e
        go true h = ltb-true 0 e h
        go false h =
            let d = length-take-le e rest (omega arith) in
            let x = ap (λ (r : Record). advanced c (heading r)) (blank-bad (take e rest) (omega (arith, ltb-false 0 e h))) in
            let z : ◌≡◌ {A = ℕ} 0 1 = cc in
            absurd (omega arith)

    pub judging : (next : Cursor) → advanced c (heading (record_of (take e rest))) ≡ Ok next → Judging text next (n + 1) (drop (e + 1) rest)
    unfolding advanced
    judging next s =
        let g = record-goes n c.upper j.bytes (record_of (take e rest)) next (kept ∙ s) in
        record {
          bytes = g.bytes;
          few = omega (arith, j.few, passed next s, length-drop (e + 1) rest);
          top = g.top;
          read = stepped ∙ ap (λ (p : Progress). steps p (lines (drop (e + 1) rest))) g.read;
        }
