-- A word reads as an instruction exactly if that instruction writes that word.
use Rattle.std.proofs.Common.{◌≡◌, ℕ, ◌-◌, ◌^◌, ◌<◌, Bool, true, false, cond, eqb, ◌⊎◌, [], ◌∷◌, refl, ◌∙◌, inl, inr, ⊎_elim, arith, eqb-true}
use borrow.Author.Tests.{eqb-false}
use Rattle.isa.proofs.Answers.{not-given, guarded-is, accept, accept-one, listed-is, encoded-is, encodes}
use Rattle.isa.proofs.Both.{each, and_left, and_right, and_both}
use Rattle.isa.proofs.Formats.{is-R, is-I, is-Movei, is-J, is-C, is-M}
use Rattle.isa.proofs.Lookup.{found}
use Rattle.word_layout.proofs.Signed.{truncated-signed, fits-signed-field, signed-truncated}
use Rattle.isa.proofs.Number.{field-number, fits-number, number-field}
use Rattle.isa.proofs.Tables.{finds-R, finds-Movei, finds-J, finds-C, finds-M}
use Rattle.answer.specs.Answer.{Answer, given, refused, undefined, not-fitted}
use Rattle.isa.specs.Claims.{Exact, Apart}
use Rattle.word_layout.specs.Layout.{bits, layout_r, layout_i, layout_movei, layout_j, layout_c, layout_m, truncated, signed}
use Rattle.isa.specs.Number.{number_movei, field_movei}
use Rattle.isa.specs.Read.{reads, read, read_r, read_i, read_movei, read_j, read_c, read_m, as_r, as_i, as_movei, as_j, as_c, as_m, listed}
use Rattle.isa.specs.Rule.{allows_r, allows_i, allows_movei, allows_j, allows_c, allows_m}
use Rattle.isa.specs.Table.{row_r, row_i, row_movei, row_j, row_c, row_m, table_r, table_movei, table_j, table_c, table_m}
use Rattle.isa.specs.Types.{Instruction, R, I, Movei, J, C, M}
use Rattle.isa.specs.Write.{write, write_r, write_i, write_movei, write_j, write_c, write_m}

fitted-is : (t : Bool) (n : ℕ) (x : Answer Instruction) (i : Instruction) → cond t (refused n) x ≡ given i → (t ≡ false) × (x ≡ given i)
fitted-is true n x i e = not-given n i e
fitted-is false n x i e = (refl, e)

scalar_is : (t : Bool) (n : ℕ) (x : Answer Instruction) (i : Instruction) → cond t x (refused n) ≡ given i → (t ≡ true) × (x ≡ given i)
scalar_is true n x i e = (refl, e)
scalar_is false n x i e = not-given n i e

not-one : (n : ℕ) → n < 2 → eqb n 1 ≡ false → n ≡ 0
not-one n l e = let f = eqb-false n 1 e in omega arith

-- The word of an instruction is read as it, by format.
pub write_read : (i : Instruction) (w : ℕ) → write i ≡ given w → read w ≡ given i
unfolding write write_r write_i write_movei write_j write_c write_m read read_r read_i read_movei read_j read_c read_m as_r as_i as_movei as_j as_c as_m listed
write_read (R op flags d a b) w e =
    let l = encoded-is layout_r refl (0b00 ∷ (row_r op).opcode ∷ d ∷ a ∷ b ∷ 0 ∷ 0 ∷ flags ∷ 0 ∷ []) refl _ w e in
    let p : bits w 31 30 ≡ 0b00 = cc in
    let po : bits w 29 24 ≡ (row_r op).opcode = cc in
    let pd : bits w 23 18 ≡ d = cc in
    let pa : bits w 17 12 ≡ a = cc in
    let pb : bits w 11 6 ≡ b = cc in
    let p5 : bits w 5 5 ≡ 0 = cc in
    let p4 : bits w 4 4 ≡ 0 = cc in
    let pf : bits w 3 1 ≡ flags = cc in
    let p0 : bits w 0 0 ≡ 0 = cc in
    is-R reads w p ∙ rw (po, finds-R op, p4, p5, pd, pa, pb, pf, p0) (accept _ _ (refl, (refl, (l.allows, tt))))
write_read (I op flags d a immediate) w e =
    let l = encoded-is layout_i refl (0b010 ∷ (row_i op).opcode ∷ d ∷ a ∷ truncated (2 ^ 8) immediate ∷ flags ∷ 0 ∷ []) refl _ w e in
    let p : bits w 31 29 ≡ 0b010 = cc in
    let po : bits w 28 24 ≡ (row_r op).opcode = cc in
    let pd : bits w 23 18 ≡ d = cc in
    let pa : bits w 17 12 ≡ a = cc in
    let pi : bits w 11 3 ≡ truncated (2 ^ 8) immediate = cc in
    let pf : bits w 2 1 ≡ flags = cc in
    let p0 : bits w 0 0 ≡ 0 = cc in
    let s = signed-truncated (2 ^ 8) immediate (and_right (allows_i op flags d) _ l.allows) in
    is-I reads w p ∙ rw (po, finds-R op, pd, pa, pi, s, pf, p0) (accept _ _ (refl, (and_left _ _ l.allows, tt)))
write_read (Movei op flag d immediate) w e =
    let l = encoded-is layout_movei refl (0b01100 ∷ (row_movei op).opcode ∷ d ∷ field_movei immediate ∷ flag ∷ 0 ∷ []) refl _ w e in
    let p : bits w 31 27 ≡ 0b01100 = cc in
    let po : bits w 26 24 ≡ (row_movei op).opcode = cc in
    let pd : bits w 23 18 ≡ d = cc in
    let pi : bits w 17 2 ≡ field_movei immediate = cc in
    let pf : bits w 1 1 ≡ flag = cc in
    let p0 : bits w 0 0 ≡ 0 = cc in
    let s = number-field op immediate (and_right (allows_movei flag d) _ l.allows) in
    is-Movei reads w p ∙ rw (po, finds-Movei op, pd, pi, s, pf, p0) (accept _ _ (refl, (and_left _ _ l.allows, tt)))
write_read (J op register offset) w e =
    let l = encoded-is layout_j refl (0b01110 ∷ (row_j op).opcode ∷ register ∷ truncated (2 ^ 17) offset ∷ []) refl _ w e in
    let p : bits w 31 27 ≡ 0b01110 = cc in
    let po : bits w 26 24 ≡ (row_j op).opcode = cc in
    let pr : bits w 23 18 ≡ register = cc in
    let pi : bits w 17 0 ≡ truncated (2 ^ 17) offset = cc in
    let s = signed-truncated (2 ^ 17) offset (and_right (allows_j op register offset) _ l.allows) in
    is-J reads w p ∙ rw (po, finds-J op, pr, pi, s) (accept-one _ _ (and_left _ _ l.allows))
write_read (C op first second) w e =
    let l = encoded-is layout_c refl (0b01111 ∷ (row_c op).opcode ∷ first ∷ second ∷ 0 ∷ []) refl _ w e in
    let p : bits w 31 27 ≡ 0b01111 = cc in
    let po : bits w 26 24 ≡ (row_c op).opcode = cc in
    let pr : bits w 23 18 ≡ first = cc in
    let ps : bits w 17 12 ≡ second = cc in
    let p0 : bits w 11 0 ≡ 0 = cc in
    is-C reads w p ∙ rw (po, finds-C op, pr, ps, p0) (accept _ _ (refl, (l.allows, tt)))
write_read (M op register base offset) w e =
    let l = encoded-is layout_m refl (0b10 ∷ (row_m op).opcode ∷ register ∷ base ∷ truncated (2 ^ 8) offset ∷ 0 ∷ 0 ∷ []) refl _ w e in
    let p : bits w 31 30 ≡ 0b10 = cc in
    let po : bits w 29 24 ≡ (row_m op).opcode = cc in
    let pr : bits w 23 18 ≡ register = cc in
    let pb : bits w 17 12 ≡ base = cc in
    let pi : bits w 11 3 ≡ truncated (2 ^ 8) offset = cc in
    let p2 : bits w 2 1 ≡ 0 = cc in
    let p0 : bits w 0 0 ≡ 0 = cc in
    let s = signed-truncated (2 ^ 8) offset (and_right (allows_m op register) _ l.allows) in
    is-M reads w p ∙ rw (po, finds-M op, pr, pb, pi, s, p2, p0) (accept _ _ (refl, (and_left _ _ l.allows, tt)))

-- A word that is read as an instruction is its word, by format.
from-R : (w : ℕ) (i : Instruction) → w < 2 ^ 32 → bits w 31 30 ≡ 0b00 → read_r w ≡ given i → write i ≡ given w
unfolding read_r as_r write write_r
from-R w i b p e =
    let o = listed-is _ (as_r w) _ i e in
    let f = fitted-is _ not-fitted _ i o.is in
    let t = guarded-is _ _ i f.1 in
    let h = each (eqb (bits w 5 5) 0 ∷ eqb (bits w 0 0) 0 ∷ allows_r o.op (bits w 3 1) (bits w 23 18) (bits w 11 6) ∷ []) t.0 in
    let po : (row_r o.op).opcode ≡ bits w 29 24 = found row_r table_r.operations (bits w 29 24) o.op o.at in
    let p4 : bits w 4 4 ≡ 0 = not-one (bits w 4 4) (omega arith) f.0 in
    let p5 : bits w 5 5 ≡ 0 = eqb-true _ _ h.0 in
    let p0 : bits w 0 0 ≡ 0 = eqb-true _ _ h.1.0 in
    rw (← t.1)
    (encodes layout_r refl (0b00 ∷ (row_r o.op).opcode ∷ bits w 23 18 ∷ bits w 17 12 ∷ bits w 11 6 ∷ 0 ∷ 0 ∷ bits w 3 1 ∷ 0 ∷ []) _ w h.1.1.0 (cc) b)

from-I : (w : ℕ) (i : Instruction) → w < 2 ^ 32 → bits w 31 29 ≡ 0b010 → read_i w ≡ given i → write i ≡ given w
unfolding read_i as_i write write_i
from-I w i b p e =
    let o = listed-is _ (as_i w) _ i e in
    let t = guarded-is _ _ i o.is in
    let h = each (eqb (bits w 0 0) 0 ∷ allows_i o.op (bits w 2 1) (bits w 23 18) ∷ []) t.0 in
    let po : (row_r o.op).opcode ≡ bits w 28 24 = found row_r table_r.operations (bits w 28 24) o.op o.at in
    let p0 : bits w 0 0 ≡ 0 = eqb-true _ _ h.0 in
    let n : bits w 11 3 < 512 = omega arith in
    let pc = truncated-signed (2 ^ 8) (2 ^ 23 - 1) refl (bits w 11 3) n in
    rw (← t.1)
    (encodes layout_i refl (0b010 ∷ (row_r o.op).opcode ∷ bits w 23 18 ∷ bits w 17 12 ∷ truncated (2 ^ 8) (signed (2 ^ 8) (bits w 11 3)) ∷ bits w 2 1 ∷ 0 ∷ []) _ w
    (and_both _ _ h.1.0 (fits-signed-field (2 ^ 8) (2 ^ 23 - 1) refl (bits w 11 3) n)) (cc) b)

from-Movei : (w : ℕ) (i : Instruction) → w < 2 ^ 32 → bits w 31 27 ≡ 0b01100 → read_movei w ≡ given i → write i ≡ given w
unfolding read_movei as_movei write write_movei
from-Movei w i b p e =
    let o = listed-is _ (as_movei w) _ i e in
    let t = guarded-is _ _ i o.is in
    let h = each (eqb (bits w 0 0) 0 ∷ allows_movei (bits w 1 1) (bits w 23 18) ∷ []) t.0 in
    let po : (row_movei o.op).opcode ≡ bits w 26 24 = found row_movei table_movei.operations (bits w 26 24) o.op o.at in
    let p0 : bits w 0 0 ≡ 0 = eqb-true _ _ h.0 in
    let n : bits w 17 2 < 65536 = omega arith in
    let pc = field-number o.op (bits w 17 2) n in
    rw (← t.1)
    (encodes layout_movei refl (0b01100 ∷ (row_movei o.op).opcode ∷ bits w 23 18 ∷ field_movei (number_movei o.op (bits w 17 2)) ∷ bits w 1 1 ∷ 0 ∷ []) _ w
    (and_both _ _ h.1.0 (fits-number o.op (bits w 17 2) n)) (cc) b)

from-J : (w : ℕ) (i : Instruction) → w < 2 ^ 32 → bits w 31 27 ≡ 0b01110 → read_j w ≡ given i → write i ≡ given w
unfolding read_j as_j write write_j
from-J w i b p e =
    let o = listed-is _ (as_j w) _ i e in
    let t = guarded-is _ _ i o.is in
    let po : (row_j o.op).opcode ≡ bits w 26 24 = found row_j table_j.operations (bits w 26 24) o.op o.at in
    let n : bits w 17 0 < 262144 = omega arith in
    let pc = truncated-signed (2 ^ 17) (2 ^ 14 - 1) refl (bits w 17 0) n in
    rw (← t.1)
    (encodes layout_j refl (0b01110 ∷ (row_j o.op).opcode ∷ bits w 23 18 ∷ truncated (2 ^ 17) (signed (2 ^ 17) (bits w 17 0)) ∷ []) _ w
    (and_both _ _ t.0 (fits-signed-field (2 ^ 17) (2 ^ 14 - 1) refl (bits w 17 0) n)) (cc) b)

from-C : (w : ℕ) (i : Instruction) → w < 2 ^ 32 → bits w 31 27 ≡ 0b01111 → read_c w ≡ given i → write i ≡ given w
unfolding read_c as_c write write_c
from-C w i b p e =
    let o = listed-is _ (as_c w) _ i e in
    let t = guarded-is _ _ i o.is in
    let h = each (eqb (bits w 11 0) 0 ∷ allows_c o.op (bits w 23 18) (bits w 17 12) ∷ []) t.0 in
    let po : (row_c o.op).opcode ≡ bits w 26 24 = found row_c table_c.operations (bits w 26 24) o.op o.at in
    let p0 : bits w 11 0 ≡ 0 = eqb-true _ _ h.0 in
    rw (← t.1) (encodes layout_c refl (0b01111 ∷ (row_c o.op).opcode ∷ bits w 23 18 ∷ bits w 17 12 ∷ 0 ∷ []) _ w h.1.0 (cc) b)

from-M : (w : ℕ) (i : Instruction) → w < 2 ^ 32 → bits w 31 30 ≡ 0b10 → read_m w ≡ given i → write i ≡ given w
unfolding read_m as_m write write_m
from-M w i b p e =
    let o = listed-is _ (as_m w) _ i e in
    let f = scalar_is _ not-fitted _ i o.is in
    let t = guarded-is _ _ i f.1 in
    let h = each (eqb (bits w 0 0) 0 ∷ allows_m o.op (bits w 23 18) ∷ []) t.0 in
    let po : (row_m o.op).opcode ≡ bits w 29 24 = found row_m table_m.operations (bits w 29 24) o.op o.at in
    let p2 : bits w 2 1 ≡ 0 = eqb-true _ _ f.0 in
    let p0 : bits w 0 0 ≡ 0 = eqb-true _ _ h.0 in
    let n : bits w 11 3 < 512 = omega arith in
    let pc = truncated-signed (2 ^ 8) (2 ^ 23 - 1) refl (bits w 11 3) n in
    rw (← t.1)
    (encodes layout_m refl (0b10 ∷ (row_m o.op).opcode ∷ bits w 23 18 ∷ bits w 17 12 ∷ truncated (2 ^ 8) (signed (2 ^ 8) (bits w 11 3)) ∷ 0 ∷ 0 ∷ []) _ w
    (and_both _ _ h.1.0 (fits-signed-field (2 ^ 8) (2 ^ 23 - 1) refl (bits w 11 3) n)) (cc) b)

-- the way that a test went
by : (t : Bool) (x y : Answer Instruction) (i : Instruction) → cond t x y ≡ given i → ((t ≡ true) × (x ≡ given i)) ⊎ ((t ≡ false) × (y ≡ given i))
by true x y i e = inl (refl, e)
by false x y i e = inr (refl, e)

read-write : (w : ℕ) (i : Instruction) → w < 2 ^ 32 → read w ≡ given i → write i ≡ given w
unfolding read
read-write w i b e =
    ⊎_elim (λ h. from-R w i b (eqb-true _ _ h.0) h.1) (λ h.
    ⊎_elim (λ h. from-I w i b (eqb-true _ _ h.0) h.1) (λ h.
    ⊎_elim (λ h. from-Movei w i b (eqb-true _ _ h.0) h.1) (λ h.
    ⊎_elim (λ h. from-J w i b (eqb-true _ _ h.0) h.1) (λ h.
    ⊎_elim (λ h. from-C w i b (eqb-true _ _ h.0) h.1) (λ h.
    ⊎_elim (λ h. from-M w i b (eqb-true _ _ h.0) h.1) (λ h. not-given undefined i h.1)
    (by _ _ _ i h.1)) (by _ _ _ i h.1)) (by _ _ _ i h.1)) (by _ _ _ i h.1)) (by _ _ _ i h.1)) (by _ _ _ i e)

pub exact : Exact
unfolding Exact
exact w i b = (read-write w i b, write_read i w)

pub apart : Apart
unfolding Apart
apart w i j p q = let u = write_read i w p in let v = write_read j w q in cc
