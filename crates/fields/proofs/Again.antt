-- The six numbers of a word are those of its instruction, and reading and writing belong together.
use Prim.Native.Nat.{ℕ, ◌/◌, ◌%◌, ◌^◌, ◌<◌}
use mathlib.Core.Bool.{Bool, true, false, cond}
use mathlib.Core.List.{List, [], ◌∷◌}
use mathlib.Core.Option.{Option, none, some}
use mathlib.Core.Path.{◌≡◌, refl, ap, sym, ◌∙◌}
use native.Mathlib.Nat.{mod-eq_of_lt, mod-lt}
use native.Mathlib.Omega.{arith}
use lib.Dec.{eqb}
use lib.Pow.{pow_pos}
use borrow.Author.Tests.{eq-eqb, eqb-true}
use Rattle.answer.specs.Answer.{Answer, given, refused, no_word}
use Rattle.isa.proofs.Answers.{not-given, encoded-is}
use Rattle.isa.proofs.Both.{and_right, each}
use Rattle.isa.proofs.Formats.{is-R, is-I, is-Movei, is-J, is-C, is-M}
use Rattle.isa.proofs.Parts.{covers, pack-unpack}
use Rattle.isa.proofs.RoundTrip.{exact}
use Rattle.word_layout.proofs.Signed.{signed-truncated}
use Rattle.isa.proofs.Number.{number-field}
use Rattle.isa.proofs.Tables.{finds-R, finds-Movei, finds-J, finds-C, finds-M}
use Rattle.isa.specs.Claims.{Exact}
use Rattle.word_layout.specs.Layout.{Part, bits, width, unpack, truncated, signed, layout_r, layout_i, layout_movei, layout_j, layout_c, layout_m}
use Rattle.isa.specs.Number.{field_movei}
use Rattle.isa.specs.Rule.{allows_i, allows_movei, allows_j, allows_m}
use Rattle.isa.specs.Table.{find, row_r, row_i, row_movei, row_j, row_c, row_m}
use Rattle.isa.specs.Test.{all}
use Rattle.isa.specs.Write.{write, write_r, write_i, write_movei, write_j, write_c, write_m}
use Rattle.fields.specs.Claims.{Owned, HasWord, Numbered, WordAgain, NumbersAgain, Rows}
use Rattle.fields.specs.Find.{Held, held, beside, written, word_for}
use Rattle.fields.specs.Instructions.{instruction_numbers, shaped, owned, instruction_of}
use Rattle.fields.specs.Numbers.{unpacks, same_numbers, reduced, filled, numbers_of, word_of}
use Rattle.fields.specs.Types.{Numbers, Instruction, R, I, Movei, J, C, M}

-- a word is filled again with its parts
reduced-unpack : (ps : List Part) (w : ℕ) → reduced ps (unpack ps w) ≡ unpack ps w
reduced-unpack [] w = refl
reduced-unpack (p ∷ ps) w = rw (mod-eq_of_lt (mod-lt (w / 2 ^ p.low) (pow_pos (width p))), reduced-unpack ps w)

filled-unpack : (ps : List Part) → covers 32 ps ≡ true → (vs : List ℕ) (w : ℕ) → w < 2 ^ 32 → reduced ps (unpack ps w) ≡ reduced ps vs → filled ps vs ≡ w
filled-unpack ps c vs w b e = rw (← e, reduced-unpack ps w, pack-unpack 32 ps c w) (mod-eq_of_lt b)

-- a number is truncated once
truncated-again : (m n : ℕ) → 0 < m → n % m % m ≡ n % m
truncated-again m n p = mod-eq_of_lt (mod-lt n p)

-- What the word of an instruction says of its numbers, by format: they are the instruction's, and the word is filled again with them.
pub record Encoded (i : Instruction) (w : ℕ) : Type 0 where
  pub below : w < 2 ^ 32
  pub own : numbers_of w ≡ instruction_numbers i
  pub back : word_of (instruction_numbers i) ≡ w

pub encoded-numbers : (i : Instruction) (w : ℕ) → write i ≡ given w → Encoded i w
unfolding write write_r write_i write_movei write_j write_c write_m numbers_of word_of
encoded-numbers (R op flags d a b) w e =
    let l = encoded-is layout_r refl (0b00 ∷ (row_r op).opcode ∷ d ∷ a ∷ b ∷ 0 ∷ 0 ∷ flags ∷ 0 ∷ []) refl _ w e in
    let p : bits w 31 30 ≡ 0b00 = cc in
    record {
      below = l.below;
      own = is-R unpacks w p ∙ cc;
      back =
          filled-unpack layout_r refl (0b00 ∷ (row_r op).opcode ∷ d ∷ a ∷ b ∷ 0 ∷ 0 ∷ flags ∷ 0 ∷ []) w l.below
          (ap (reduced layout_r) l.parts);
    }
encoded-numbers (I op flags d a immediate) w e =
    let l = encoded-is layout_i refl (0b010 ∷ (row_i op).opcode ∷ d ∷ a ∷ truncated (2 ^ 8) immediate ∷ flags ∷ 0 ∷ []) refl _ w e in
    let p : bits w 31 29 ≡ 0b010 = cc in
    let s = signed-truncated (2 ^ 8) immediate (and_right (allows_i op flags d) _ l.allows) in
    record {
      below = l.below;
      own = is-I unpacks w p ∙ cc;
      back =
          filled-unpack layout_i refl (0b010 ∷ (row_i op).opcode ∷ d ∷ a ∷ immediate ∷ flags ∷ 0 ∷ []) w l.below
          (ap (reduced layout_i) l.parts ∙ rw (truncated-again (2 ^ 9) immediate (pow_pos 9)));
    }
encoded-numbers (Movei op flag d immediate) w e =
    let l = encoded-is layout_movei refl (0b01100 ∷ (row_movei op).opcode ∷ d ∷ field_movei immediate ∷ flag ∷ 0 ∷ []) refl _ w e in
    let p : bits w 31 27 ≡ 0b01100 = cc in
    let po : bits w 26 24 ≡ (row_movei op).opcode = cc in
    let pd : bits w 23 18 ≡ d = cc in
    let pi : bits w 17 2 ≡ field_movei immediate = cc in
    let pf : bits w 1 1 ≡ flag = cc in
    let s = number-field op immediate (and_right (allows_movei flag d) _ l.allows) in
    record {
      below = l.below;
      own = is-Movei unpacks w p ∙ rw (po, finds-Movei op, pd, pi, s, pf);
      back =
          filled-unpack layout_movei refl (0b01100 ∷ (row_movei op).opcode ∷ d ∷ immediate ∷ flag ∷ 0 ∷ []) w l.below
          (ap (reduced layout_movei) l.parts ∙ rw (truncated-again (2 ^ 16) immediate (pow_pos 16)));
    }
encoded-numbers (J op register offset) w e =
    let l = encoded-is layout_j refl (0b01110 ∷ (row_j op).opcode ∷ register ∷ truncated (2 ^ 17) offset ∷ []) refl _ w e in
    let p : bits w 31 27 ≡ 0b01110 = cc in
    let s = signed-truncated (2 ^ 17) offset (and_right (allows_j op register offset) _ l.allows) in
    record {
      below = l.below;
      own = is-J unpacks w p ∙ cc;
      back =
          filled-unpack layout_j refl (0b01110 ∷ (row_j op).opcode ∷ register ∷ offset ∷ []) w l.below
          (ap (reduced layout_j) l.parts ∙ rw (truncated-again (2 ^ 18) offset (pow_pos 18)));
    }
encoded-numbers (C op first second) w e =
    let l = encoded-is layout_c refl (0b01111 ∷ (row_c op).opcode ∷ first ∷ second ∷ 0 ∷ []) refl _ w e in
    let p : bits w 31 27 ≡ 0b01111 = cc in
    record {
      below = l.below;
      own = is-C unpacks w p ∙ cc;
      back =
          filled-unpack layout_c refl (0b01111 ∷ (row_c op).opcode ∷ first ∷ second ∷ 0 ∷ []) w l.below
          (ap (reduced layout_c) l.parts);
    }
encoded-numbers (M op register base offset) w e =
    let l = encoded-is layout_m refl (0b10 ∷ (row_m op).opcode ∷ register ∷ base ∷ truncated (2 ^ 8) offset ∷ 0 ∷ 0 ∷ []) refl _ w e in
    let p : bits w 31 30 ≡ 0b10 = cc in
    let s = signed-truncated (2 ^ 8) offset (and_right (allows_m op register) _ l.allows) in
    record {
      below = l.below;
      own = is-M unpacks w p ∙ cc;
      back =
          filled-unpack layout_m refl (0b10 ∷ (row_m op).opcode ∷ register ∷ base ∷ offset ∷ 0 ∷ 0 ∷ []) w l.below
          (ap (reduced layout_m) l.parts ∙ rw (truncated-again (2 ^ 9) offset (pow_pos 9)));
    }

pub numbered : Numbered
unfolding Numbered Exact
numbered w i u e = (encoded-numbers i w ((exact w i u).0 e)).own

-- numbers are the same as themselves, and as no others
pub own : (n : Numbers) → same_numbers n n ≡ true
unfolding same_numbers
own n =
    rw (eq-eqb n.format n.format refl, eq-eqb n.opcode n.opcode refl, eq-eqb n.flags n.flags refl, eq-eqb n.first n.first refl, eq-eqb n.second n.second refl, eq-eqb n.third n.third refl)

pub same : (a b : Numbers) → same_numbers a b ≡ true → a ≡ b
unfolding same_numbers all
same a b t =
    let h = each (eqb a.format b.format ∷ eqb a.opcode b.opcode ∷ eqb a.flags b.flags ∷ eqb a.first b.first ∷ eqb a.second b.second ∷ eqb a.third b.third ∷ []) t in
    let format : a.format ≡ b.format = eqb-true _ _ h.0 in
    let opcode : a.opcode ≡ b.opcode = eqb-true _ _ h.1.0 in
    let flags : a.flags ≡ b.flags = eqb-true _ _ h.1.1.0 in
    let first : a.first ≡ b.first = eqb-true _ _ h.1.1.1.0 in
    let second : a.second ≡ b.second = eqb-true _ _ h.1.1.1.1.0 in
    let third : a.third ≡ b.third = eqb-true _ _ h.1.1.1.1.1.0 in
    (λ k. record { format = format k; opcode = opcode k; flags = flags k; first = first k; second = second k; third = third k })

-- Numbers are an instruction's exactly if they are found to be.

finds : (i : Instruction) → shaped (instruction_numbers i) ≡ some i
unfolding shaped
finds (R op flags d a b) = rw (finds-R op)
finds (I op flags d a immediate) = rw (finds-R op)
finds (Movei op flag d immediate) = rw (finds-Movei op)
finds (J op register offset) = rw (finds-J op)
finds (C op first second) = rw (finds-C op)
finds (M op register base offset) = rw (finds-M op)

owned-is : (n : Numbers) (o : Option Instruction) (i : Instruction) → owned n o ≡ some i → n ≡ instruction_numbers i
owned-is n none i e = let z : ◌≡◌ {A = ℕ} 0 1 = cc in absurd (omega arith)
owned-is n (some x) i e = by (same_numbers (instruction_numbers x) n) refl e
  where
    by : (t : Bool) → same_numbers (instruction_numbers x) n ≡ t → cond t (some x) none ≡ some i → n ≡ instruction_numbers i
    by true s g = let k : x ≡ i = cc in sym (same (instruction_numbers x) n s) ∙ ap instruction_numbers k
    by false s g = let z : ◌≡◌ {A = ℕ} 0 1 = cc in absurd (omega arith)

pub owned-exactly : Owned
unfolding Owned instruction_of
owned-exactly n i = (owned-is n (shaped n) i, (λ e. rw (e, finds i, own (instruction_numbers i))))

-- Numbers have a word exactly if they are an instruction's and that instruction writes it.

beside-is : (i j : Instruction) (a : Answer ℕ) (w : ℕ) → beside i a ≡ given (held w j) → (i ≡ j) × (a ≡ given w)
beside-is i j (given v) w e =
    let k : held v i ≡ held w j = cc in
    (ap (λ (x : Held). x.instruction) k, ap (λ (x : Held). given x.word) k)
beside-is i j (refused number) w e = not-given number (held w j) e

written_is : (n : Numbers) (o : Option Instruction) (w : ℕ) (i : Instruction) → instruction_of n ≡ o → written o ≡ given (held w i) →
    (n ≡ instruction_numbers i) × (write i ≡ given w)
unfolding Owned
written_is n none w i o e = not-given no_word (held w i) e
written_is n (some x) w i o e =
    let b = beside-is x i (write x) w e in
    ((owned-exactly n i).0 (o ∙ ap some b.0), rw (← b.0) b.1)

pub has_word : HasWord
unfolding HasWord Owned word_for
has_word n w i = (written_is n (instruction_of n) w i refl, (λ h. rw ((owned-exactly n i).1 h.0, h.1)))

-- Reading and writing belong together.

pub word-again : WordAgain
unfolding WordAgain HasWord Numbered Exact
word-again w i u e = (has_word (numbers_of w) w i).1 (numbered w i u e, (exact w i u).0 e)

pub numbers-again : NumbersAgain
unfolding NumbersAgain HasWord Exact
numbers-again n h e =
    let k = (has_word n h.word h.instruction).0 e in
    let l = encoded-numbers h.instruction h.word k.1 in
    ((exact h.word h.instruction l.below).1 k.1, l.own ∙ sym k.0)

pub rows-hold : Rows
unfolding numbers_of signed find
rows-hold = record { r = refl; i = refl; movei = refl; j = refl; c = refl; m = refl }
