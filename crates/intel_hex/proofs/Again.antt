-- What export writes, imported: the program again.
use Prim.Native.Nat.{ℕ, zero, suc, ◌+◌, ◌-◌, ◌*◌, ◌/◌, ◌%◌, ◌≤◌, ◌<◌}
use mathlib.Core.Bool.{Bool, true, false, cond}
use mathlib.Core.List.{List, [], ◌∷◌, ◌++◌, map, append-nil, append_assoc}
use mathlib.Core.Option.{some}
use mathlib.Core.Path.{◌≡◌, refl, sym, ap, ◌∙◌}
use native.Mathlib.Omega.{arith}
use borrow.Author.Tests.{eq-eqb, ne_eqb, lt-ltb, le-ltb, ltb-true, ltb-false}
use lib.Dec.{eqb, ltb}
use lib.ListN.{length, get_or, take, drop, length-append, length-drop, length-take, get_or-eq_default}
use lib.Seq.{take_at, take_all, take-add, length-take-le}
use Rattle.answer.specs.Answer.{given, refused}
use Rattle.answer.specs.Refusal.{bad_program}
use Rattle.text.specs.Number.{digit}
use Rattle.intel_hex.specs.Claims.{ImportsExport, ReadsBack, data_records, ExportsRecords}
use Rattle.intel_hex.specs.Digits.{value, pairs, hexes, total}
use Rattle.intel_hex.specs.Record.{line, lines_from, lines, Record, data_record, end_record, fields_of, bytes_record, colon_record, record_of, record_in, without_cr}
use Rattle.intel_hex.specs.File.{Progress, reading, placed, taken, steps, start, finish, Image, image, image_of}
use Rattle.intel_hex.specs.Program.{program_bytes}
use Rattle.intel_hex.specs.Export.{heads, checksum, record_text, body, export_text, Export, exports, export_into}
use Rattle.intel_hex.specs.Import.{imports, import_image, import_into}
use Rattle.program.proofs.Sizes.{allowed}
use Rattle.intel_hex.proofs.Stored.{small-append}
use Rattle.intel_hex.proofs.Contents.{small-part}
use Rattle.intel_hex.proofs.Words.{Small, length-bytes, bytes_small, words-again}
use Rattle.intel_hex.proofs.Texts.{total-append}

-- a text whose bytes are all 48 or more: no LF, no CR
abbrev High : List ℕ → Type 0
High u = (i : ℕ) → i < length u → 48 ≤ get_or u i 0

digit-high : (n : ℕ) → 48 ≤ digit n
digit-high n = go (ltb n 10)
  where
    go : (b : Bool) → 48 ≤ cond b (48 + n) (55 + n)
    go true = omega arith
    go false = omega arith

hexes-high : (x : List ℕ) → High (hexes x)
unfolding hexes
hexes-high [] i h = absurd (omega arith)
hexes-high (b ∷ x) zero h = digit-high (b / 16)
hexes-high (b ∷ x) (suc zero) h = digit-high (b % 16)
hexes-high (b ∷ x) (suc (suc i)) h = hexes-high x i (omega arith)

cons-high : (c : ℕ) (u : List ℕ) → 48 ≤ c → High u → High (c ∷ u)
cons-high c u h g zero i = h
cons-high c u h g (suc j) i = g j (omega arith)

-- such a text is a line
line-off : (begun u t : List ℕ) → High u → lines_from begun (u ++ 10 ∷ t) ≡ line (begun ++ u) true ∷ lines t
unfolding lines_from
line-off begun [] t h = rw (append-nil begun)
line-off begun (c ∷ u) t h =
    let g = h 0 (omega arith) in
    let e : eqb c 10 ≡ false = ne_eqb c 10 (λ z. omega arith) in
    rw e (line-off (begun ++ c ∷ []) u t (λ i k. h (suc i) (omega arith)) ∙ rw (append_assoc begun (c ∷ []) u))

no-cr : (u : List ℕ) → 0 < length u → High u → without_cr u ≡ u
unfolding without_cr
no-cr u p h =
    let g = h (length u - 1) (omega arith) in
    rw (ne_eqb (get_or u (length u - 1) 0) 13 (λ z. omega arith))

-- digits that were written are read
value-digit : (n : ℕ) → n < 16 → value (digit n) ≡ n
unfolding value
value-digit n h = go (ltb n 10) refl
  where
    go : (b : Bool) → ltb n 10 ≡ b → value (cond b (48 + n) (55 + n)) ≡ n
    go true e = let f = ltb-true n 10 e in rw (le-ltb (48 + n) 48 (omega arith), lt-ltb (48 + n) 58 (omega arith)) (omega arith)
    go false e = let f = ltb-false n 10 e in rw (le-ltb (55 + n) 48 (omega arith), le-ltb (55 + n) 58 (omega arith), le-ltb (55 + n) 65 (omega arith), lt-ltb (55 + n) 71 (omega arith)) (omega arith)

pairs-hexes : (x : List ℕ) → Small x → pairs (hexes x) ≡ some x
unfolding pairs hexes
pairs-hexes [] s = refl
pairs-hexes (b ∷ x) s =
    let g = s 0 in
    let h = value-digit (b / 16) (omega arith) in
    let l = value-digit (b % 16) (omega arith) in
    let e : 16 * (b / 16) + b % 16 ≡ b = omega arith in
    rw (h, l, lt-ltb (b / 16) 16 (omega arith), lt-ltb (b % 16) 16 (omega arith), pairs-hexes x (λ i. s (suc i)), e)

-- a record that was written is read
module _ (address : ℕ) (ds : List ℕ) (low : address < 65536) (many : 0 < length ds) (few : length ds ≤ 16) (small : Small ds) where
  check : ℕ
  check = checksum (total (heads (length ds) address 0 ++ ds))

  fields : List ℕ
  fields = heads (length ds) address 0 ++ ds ++ check ∷ []

  sum-zero : total fields % 256 ≡ 0
  unfolding total check fields
  sum-zero =
      let h = total-append (heads (length ds) address 0 ++ ds) (check ∷ []) in
      omega arith

  read-fields : fields_of fields ≡ data_record address ds
  unfolding fields
  read-fields =
      let e : 256 * (address / 256) + address % 256 ≡ address = omega arith in
      rw (eq-eqb (length (ds ++ check ∷ [])) (length ds + 1) (length-append ds (check ∷ [])), eq-eqb (total fields % 256) 0 sum-zero, ne_eqb (length ds) 0 (λ z. omega arith), e, take_at ds (check ∷ []) (length ds) refl)

  heads-small : Small (heads (length ds) address 0)
  heads-small zero = omega arith
  heads-small (suc zero) = omega arith
  heads-small (suc (suc zero)) = omega arith
  heads-small (suc (suc (suc zero))) = omega arith
  heads-small (suc (suc (suc (suc i)))) = omega arith

  check-small : Small (check ∷ [])
  unfolding check
  check-small zero = omega arith
  check-small (suc i) = omega arith

  fields-small : Small fields
  unfolding fields
  fields-small = small-append (heads (length ds) address 0 ++ ds) (check ∷ []) (small-append (heads (length ds) address 0) ds heads-small small) check-small

  high : High (58 ∷ hexes fields)
  high = cons-high 58 (hexes fields) (omega arith) (hexes-high fields)

  read-record : record_of (58 ∷ hexes fields) ≡ data_record address ds
  unfolding record_of
  read-record =
      let n : 0 < length (58 ∷ hexes fields) = omega arith in
      ap colon_record (no-cr (58 ∷ hexes fields) n high) ∙ ap bytes_record (pairs-hexes fields fields-small) ∙ read-fields

  read-line : (n : ℕ) (bs t : List ℕ) → steps (reading n 0 bs false) (lines (record_text 0 address ds ++ t)) ≡ steps (taken n 0 bs (data_record address ds)) (lines t)
  unfolding steps record_text fields check
  read-line n bs t =
      ap (λ (y : List ℕ). steps (reading n 0 bs false) (lines y)) (append_assoc (58 ∷ hexes fields) (10 ∷ []) t)
      ∙ ap (steps (reading n 0 bs false)) (line-off [] (58 ∷ hexes fields) t high)
      ∙ ap (λ (r : Record). steps (taken n 0 bs r) (lines t)) read-record

  read_as : (t : List ℕ) → map record_in (lines (record_text 0 address ds ++ t)) ≡ data_record address ds ∷ map record_in (lines t)
  unfolding record_text fields check
  read_as t =
      ap (λ (y : List ℕ). map record_in (lines y)) (append_assoc (58 ∷ hexes fields) (10 ∷ []) t)
      ∙ ap (map record_in) (line-off [] (58 ∷ hexes fields) t high)
      ∙ ap (λ (r : Record). r ∷ map record_in (lines t)) read-record

-- the records of a program, read one by one
module _ (bs : List ℕ) (small : Small bs) (fits : length bs ≤ 65536) where
  more-placed : (k : ℕ) → 16 * k < length bs → placed (take (16 * k) bs) (65536 * 0 + 16 * k) (take 16 (drop (16 * k) bs)) ≡ take (16 * suc k) bs
  unfolding placed
  more-placed k h =
      let l = length-take-le (16 * k) bs (omega arith) in
      let e : 65536 * 0 + 16 * k - length (take (16 * k) bs) ≡ 0 = omega arith in
      let f : 16 * k + 16 ≡ 16 * suc k = omega arith in
      rw (e, append-nil (take (16 * k) bs), ← f) (sym (take-add (16 * k) 16 bs))

  taken_more : (k : ℕ) → 16 * k < length bs →
      taken (k + 1) 0 (take (16 * k) bs) (data_record (16 * k) (take 16 (drop (16 * k) bs))) ≡ reading (suc k + 1) 0 (take (16 * suc k) bs) false
  taken_more k h =
      let l = length-take-le (16 * k) bs (omega arith) in
      let d = length-drop (16 * k) bs in
      let m = length-take 16 (drop (16 * k) bs) in
      let e : k + 1 + 1 ≡ suc k + 1 = omega arith in
      rw (le-ltb (65536 * 0 + 16 * k) (length (take (16 * k) bs)) (omega arith), le-ltb 65536 (16 * k + length (take 16 (drop (16 * k) bs))) (omega arith), more-placed k h, e)

  pub read-body : (k : ℕ) (t : List ℕ) → 16 * k < length bs + 16 → steps start (lines (body bs k ++ t)) ≡ steps (reading (k + 1) 0 (take (16 * k) bs) false) (lines t)
  unfolding body
  read-body zero t h = refl
  read-body (suc k) t h =
      let d = length-drop (16 * k) bs in
      let m = length-take 16 (drop (16 * k) bs) in
      let ds = take 16 (drop (16 * k) bs) in
      ap (λ (y : List ℕ). steps start (lines y)) (append_assoc (body bs k) (record_text 0 (16 * k) ds) t)
      ∙ read-body k (record_text 0 (16 * k) ds ++ t) (omega arith)
      ∙ read-line (16 * k) ds (omega arith) (omega arith) (omega arith) (small-part bs 16 (16 * k) small) (k + 1) (take (16 * k) bs) t
      ∙ ap (λ (p : Progress). steps p (lines t)) (taken_more k (omega arith))

  pub records-body : (k : ℕ) (t : List ℕ) → 16 * k < length bs + 16 → map record_in (lines (body bs k ++ t)) ≡ data_records bs k ++ map record_in (lines t)
  unfolding body data_records
  records-body zero t h = refl
  records-body (suc k) t h =
      let d = length-drop (16 * k) bs in
      let m = length-take 16 (drop (16 * k) bs) in
      let ds = take 16 (drop (16 * k) bs) in
      ap (λ (y : List ℕ). map record_in (lines y)) (append_assoc (body bs k) (record_text 0 (16 * k) ds) t)
      ∙ records-body k (record_text 0 (16 * k) ds ++ t) (omega arith)
      ∙ ap (λ (r : List Record). data_records bs k ++ r) (read_as (16 * k) ds (omega arith) (omega arith) (omega arith) (small-part bs 16 (16 * k) small) t)
      ∙ sym (append_assoc (data_records bs k) (data_record (16 * k) ds ∷ []) (map record_in (lines t)))

read-end : (n : ℕ) (bs : List ℕ) → steps (reading n 0 bs false) (lines (record_text 1 0 [])) ≡ reading (n + 1) 0 bs true
unfolding steps lines_from record_text hexes total record_of without_cr pairs value
read-end n bs = refl

record-end : map record_in (lines (record_text 1 0 [])) ≡ end_record ∷ []
unfolding lines_from record_text hexes total record_of without_cr pairs value
record-end = refl

-- a text without a CR
abbrev NoCR : List ℕ → Type 0
NoCR u = (i : ℕ) → get_or u i 0 ≡ 13 → ⊥

no-cr-append : (u v : List ℕ) → NoCR u → NoCR v → NoCR (u ++ v)
no-cr-append [] v a b i = b i
no-cr-append (x ∷ u) v a b zero = a zero
no-cr-append (x ∷ u) v a b (suc i) = no-cr-append u v (λ j. a (suc j)) b i

no-cr-high : (u : List ℕ) → High u → NoCR u
no-cr-high u h i e = go (ltb i (length u)) refl
  where
    go : (b : Bool) → ltb i (length u) ≡ b → ⊥
    go true t = omega (arith, h i (ltb-true i (length u) t))
    go false t = omega (arith, get_or-eq_default u 0 {n = i} (ltb-false i (length u) t))

no-cr-lf : NoCR (10 ∷ [])
no-cr-lf zero e = omega arith
no-cr-lf (suc i) e = omega arith

no-cr-record : (type address : ℕ) (ds : List ℕ) → NoCR (record_text type address ds)
unfolding record_text
no-cr-record type address ds =
    let x = heads (length ds) address type ++ ds ++ checksum (total (heads (length ds) address type ++ ds)) ∷ [] in
    no-cr-append (58 ∷ hexes x) (10 ∷ []) (no-cr-high (58 ∷ hexes x) (cons-high 58 (hexes x) (omega arith) (hexes-high x))) no-cr-lf

no-cr-body : (bs : List ℕ) (k : ℕ) → NoCR (body bs k)
unfolding body
no-cr-body bs zero i e = omega arith
no-cr-body bs (suc k) i e =
    let ds = take 16 (drop (16 * k) bs) in
    no-cr-append (body bs k) (record_text 0 (16 * k) ds) (no-cr-body bs k) (no-cr-record 0 (16 * k) ds) i e

pub exports-records : ExportsRecords
unfolding export_text
exports-records ws ok =
    let a = allowed (length ws) ok in
    let l = length-bytes ws in
    let k = (length ws + 3) / 4 in
    record {
      records = records-body (program_bytes ws) (bytes_small ws) (omega arith) k (record_text 1 0 []) (omega arith)
          ∙ ap (λ (r : List Record). data_records (program_bytes ws) k ++ r) record-end;
      no-CR = no-cr-append (body (program_bytes ws) k) (record_text 1 0 []) (no-cr-body (program_bytes ws) k) (no-cr-record 1 0 []);
    }

image-again : (ws : List ℕ) → bad_program (length ws) ≡ false → image_of (export_text ws) ≡ image (program_bytes ws)
unfolding image_of export_text
image-again ws ok =
    let a = allowed (length ws) ok in
    let l = length-bytes ws in
    let k = (length ws + 3) / 4 in
    let e : take (16 * k) (program_bytes ws) ≡ program_bytes ws = take_all (16 * k) (program_bytes ws) (omega arith) in
    ap finish (read-body (program_bytes ws) (bytes_small ws) (omega arith) k (record_text 1 0 []) (omega arith)
    ∙ ap (λ (x : List ℕ). steps (reading (k + 1) 0 x false) (lines (record_text 1 0 []))) e ∙ read-end (k + 1) (program_bytes ws))

pub imports-export : ImportsExport
imports-export ws buffer ok small room =
    let a = allowed (length ws) ok in
    let l = length-bytes ws in
    let n = length (program_bytes ws) in
    let q : n / 4 ≡ length ws = omega arith in
    ap (λ (i : Image). import_image i buffer) (image-again ws ok)
    ∙ rw (words-again ws small, eq-eqb (n % 4) 0 (omega arith), q, ok, le-ltb (length buffer) (length ws) room)

pub reads-back : ReadsBack
unfolding export_into
reads-back ws text left buffer n small room e = go (bad_program (length ws)) refl (ltb (length text) (length (export_text ws))) e
  where
    go : (b : Bool) → bad_program (length ws) ≡ b → (t : Bool) →
        exports (given n) left ≡ cond b (exports (refused 1) text) (cond t (exports (refused 18) text) (exports (given (length (export_text ws))) (export_text ws ++ drop (length (export_text ws)) text))) →
        import_into (take n left) buffer ≡ imports (given (length ws)) 0 (ws ++ drop (length ws) buffer)
    go true q t e = let f = ap (λ (x : Export). x.answer) e in let z : ◌≡◌ {A = ℕ} 0 1 = cc in absurd (omega arith)
    go false q true e = let f = ap (λ (x : Export). x.answer) e in let z : ◌≡◌ {A = ℕ} 0 1 = cc in absurd (omega arith)
    go false q false e =
        let f = ap (λ (x : Export). x.answer) e in
        let g : n ≡ length (export_text ws) = cc in
        let h : left ≡ export_text ws ++ drop (length (export_text ws)) text = ap (λ (x : Export). x.text) e in
        let k : take n left ≡ export_text ws = ap (take n) h ∙ take_at (export_text ws) (drop (length (export_text ws)) text) n (sym g) in
        ap (λ (x : List ℕ). import_into x buffer) k ∙ imports-export ws buffer q small room
