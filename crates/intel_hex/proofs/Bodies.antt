-- The records of a program, one behind the other: how long they are, and the next one.
use Prim.Native.Nat.{ℕ, zero, suc, ◌+◌, ◌-◌, ◌*◌, ◌/◌, ◌≤◌, ◌<◌, min}
use mathlib.Core.List.{List, [], ◌∷◌, ◌++◌}
use mathlib.Core.Path.{◌≡◌, refl, sym, ap, ◌∙◌}
use native.Mathlib.Omega.{arith}
use native.Mathlib.Numerals.{add-one}
use lib.ListN.{length, take, drop, length-append, length-take, length-drop}
use lib.Seq.{take_all}
use Rattle.intel_hex.specs.Digits.{hexes, total}
use mathlib.Core.Bool.{Bool, true, false}
use lib.Dec.{ltb}
use borrow.Author.Tests.{lt-ltb, le-ltb, ltb-true, ltb-false}
use Rattle.answer.specs.Refusal.{bad_program}
use Rattle.text.specs.Buffer.{wrote, writes}
use Rattle.text.proofs.Placing.{end_is, buffer-is}
use Rattle.std.specs.Prelude.{Ok, Err}
use Rattle.answer.specs.declared.refusal.Refusal.TheVariants.{Program, ShortBuffer}
use Rattle.intel_hex.specs.Export.{heads, checksum, record_text, body, export_text, exported, export_into}
use Rattle.intel_hex.specs.Program.{program_bytes}
use Rattle.intel_hex.specs.Scan.{text_length}
use Rattle.intel_hex.proofs.Texts.{length-hexes}
use Rattle.intel_hex.proofs.Words.{length-bytes}

pub length-record : (kind address : ℕ) (ds : List ℕ) → length (record_text kind address ds) ≡ 12 + 2 * length ds
unfolding record_text
length-record kind address ds =
    let h = heads (length ds) address kind in
    let x = h ++ ds ++ checksum (total (h ++ ds)) ∷ [] in
    let a = length-hexes x in
    let b = length-append (h ++ ds) (checksum (total (h ++ ds)) ∷ []) in
    let c = length-append h ds in
    length-append (58 ∷ hexes x) (10 ∷ []) ∙ omega arith

-- a record's bytes, whether 16 of them are taken or what is left
taken : (bs : List ℕ) (n : ℕ) → n ≡ min (length bs) 16 → take n bs ≡ take 16 bs
taken bs n e = go (ltb (length bs) 16) refl
  where
    go : (t : Bool) → ltb (length bs) 16 ≡ t → take n bs ≡ take 16 bs
    go true h = let l = ltb-true (length bs) 16 h in take_all n bs (omega arith) ∙ sym (take_all 16 bs (omega arith))
    go false h = let l = ltb-false (length bs) 16 h in let z : n ≡ 16 = omega arith in rw z

module _ (ws : List ℕ) (k : ℕ) where
  pub next-record : (n : ℕ) → k < (length ws + 3) / 4 → n ≡ min (4 * length ws - 16 * k) 16 →
      body (program_bytes ws) k ++ record_text 0 (16 * k) (take n (drop (16 * k) (program_bytes ws))) ≡ body (program_bytes ws) (k + 1)
  unfolding body
  next-record n h b =
      let e = length-drop (16 * k) (program_bytes ws) in
      let m = length-bytes ws in
      rw (add-one k) (ap (λ (x : List ℕ). body (program_bytes ws) k ++ record_text 0 (16 * k) x)
      (taken (drop (16 * k) (program_bytes ws)) n (omega arith)))

pub length-body : (ws : List ℕ) (k : ℕ) → k ≤ (length ws + 3) / 4 → length (body (program_bytes ws) k) ≡ 12 * k + 2 * min (16 * k) (4 * length ws)
unfolding body
length-body ws zero h = omega arith
length-body ws (suc k) h =
    let i = length-body ws k (omega arith) in
    let e = length-drop (16 * k) (program_bytes ws) in
    let m = length-bytes ws in
    let t = length-take 16 (drop (16 * k) (program_bytes ws)) in
    length-append (body (program_bytes ws) k) (record_text 0 (16 * k) (take 16 (drop (16 * k) (program_bytes ws))))
    ∙ rw (i, length-record 0 (16 * k) (take 16 (drop (16 * k) (program_bytes ws)))) (omega arith)

pub length-text : (ws : List ℕ) → length (export_text ws) ≡ text_length (length ws)
unfolding export_text
length-text ws =
    length-append (body (program_bytes ws) ((length ws + 3) / 4)) (record_text 1 0 [])
    ∙ rw (length-body ws ((length ws + 3) / 4) (omega arith), length-record 1 0 []) (omega arith)

-- what export answers and leaves
module _ (ws buffer : List ℕ) where
  pub no_program : bad_program (length ws) ≡ true → exported (Err Program) buffer ≡ export_into ws buffer
  unfolding export_into
  no_program e = rw e

  pub no_room : bad_program (length ws) ≡ false → length buffer < text_length (length ws) → exported (Err ShortBuffer) buffer ≡ export_into ws buffer
  unfolding export_into
  no_room e h = let l = length-text ws in rw (e, lt-ltb (length buffer) (length (export_text ws)) (omega arith))

  pub whole-text : (r : ℕ) (out : List ℕ) → bad_program (length ws) ≡ false → text_length (length ws) ≤ length buffer →
      wrote r out ≡ writes buffer 0 (export_text ws) → exported (Ok r) out ≡ export_into ws buffer
  unfolding export_into
  whole-text r out e h p =
      let l = length-text ws in
      let t = export_text ws in
      let z : 0 + length t ≡ length t = omega arith in
      let f : r ≡ length t = end_is p ∙ z in
      let g : out ≡ t ++ drop (length t) buffer = buffer-is p ∙ ap (λ (m : ℕ). t ++ drop m buffer) z in
      rw (e, le-ltb (length buffer) (length (export_text ws)) (omega arith))
      (ap (λ (x : ℕ). exported (Ok x) out) f ∙ ap (λ (y : List ℕ). exported (Ok (length t)) y) g)
