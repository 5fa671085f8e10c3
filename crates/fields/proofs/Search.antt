-- How the word of six numbers is found: the one with them in its fields, if it is read as an instruction and the numbers are its own.
use Prim.Native.Nat.{ℕ, ◌^◌, ◌<◌}
use mathlib.Core.Bool.{Bool, true, false, cond, ◌&&◌}
use mathlib.Core.List.{List, [], ◌∷◌}
use mathlib.Core.Option.{Option, none, some}
use mathlib.Core.Path.{◌≡◌, refl, ap, sym, ◌∙◌}
use native.Mathlib.Nat.{mod-lt}
use lib.Dec.{eqb}
use lib.ListN.{length}
use lib.Pow.{pow_pos}
use borrow.Author.Tests.{lt-ltb}
use Rattle.answer.specs.Answer.{Answer, given, refused, no_word}
use Rattle.isa.proofs.Answers.{not-given}
use Rattle.isa.proofs.Both.{Each}
use Rattle.isa.proofs.Parts.{covers, pack-below}
use Rattle.isa.proofs.RoundTrip.{exact}
use Rattle.isa.specs.Claims.{Exact}
use Rattle.word_layout.specs.Layout.{Part, width, each_fits, layout_r, layout_i, layout_movei, layout_j, layout_c, layout_m}
use Rattle.isa.specs.Read.{read}
use Rattle.isa.specs.Write.{write, written as encoded, write_r, write_i, write_movei, write_j, write_c, write_m}
use Rattle.fields.proofs.Again.{encoded-numbers, numbered, own, same, has_word}
use Rattle.fields.specs.Claims.{HasWord, Numbered}
use Rattle.fields.specs.Find.{Held, held, beside, written, word_for}
use Rattle.fields.specs.Instructions.{instruction_of}
use Rattle.fields.specs.Numbers.{same_numbers, reduced, filled, numbers_of, word_of}
use Rattle.fields.specs.Types.{Numbers, Instruction, R, I, Movei, J, C, M}

-- the derived equality of numbers is that of the definition
regroup : (a b c d e f : Bool) → (a && (b && (c && (d && (e && f))))) ≡ (a && b && c && d && e && f)
regroup false b c d e f = refl
regroup true false c d e f = refl
regroup true true false d e f = refl
regroup true true true false e f = refl
regroup true true true true false f = refl
regroup true true true true true f = refl

pub equal-numbers : (a b : Numbers) →
    (eqb a.format b.format && (eqb a.opcode b.opcode && (eqb a.flags b.flags
    && (eqb a.first b.first && (eqb a.second b.second && eqb a.third b.third))))) ≡ same_numbers a b
unfolding same_numbers
equal-numbers a b = regroup (eqb a.format b.format) (eqb a.opcode b.opcode) (eqb a.flags b.flags) (eqb a.first b.first) (eqb a.second b.second) (eqb a.third b.third)

abbrev pub matched : Numbers → ℕ → Answer Instruction → Answer Held
matched n w (given i) = cond (same_numbers (numbers_of w) n) (given (held w i)) (refused no_word)
matched n w (refused number) = refused no_word

-- the word with the numbers in its fields is one of 32 bits

each_fits-reduced : (ps : List Part) (vs : List ℕ) → Each (each_fits ps (reduced ps vs))
each_fits-reduced [] vs = tt
each_fits-reduced (p ∷ ps) [] = tt
each_fits-reduced (p ∷ ps) (v ∷ vs) = (lt-ltb _ _ (mod-lt v (pow_pos (width p))), each_fits-reduced ps vs)

filled-below : (ps : List Part) → covers 32 ps ≡ true → (vs : List ℕ) → length (reduced ps vs) ≡ length ps → filled ps vs < 2 ^ 32
filled-below ps c vs l = pack-below 32 ps c (reduced ps vs) l (each_fits-reduced ps vs)

either-below : (t : Bool) (x y : ℕ) → x < 2 ^ 32 → y < 2 ^ 32 → cond t x y < 2 ^ 32
either-below true x y p q = p
either-below false x y p q = q

word_below : (n : Numbers) → word_of n < 2 ^ 32
unfolding word_of
word_below n =
    let r = filled-below layout_r refl (0b00 ∷ n.opcode ∷ n.first ∷ n.second ∷ n.third ∷ 0 ∷ 0 ∷ n.flags ∷ 0 ∷ []) refl in
    let i = filled-below layout_i refl (0b010 ∷ n.opcode ∷ n.first ∷ n.second ∷ n.third ∷ n.flags ∷ 0 ∷ []) refl in
    let v = filled-below layout_movei refl (0b01100 ∷ n.opcode ∷ n.first ∷ n.second ∷ n.flags ∷ 0 ∷ []) refl in
    let j = filled-below layout_j refl (0b01110 ∷ n.opcode ∷ n.first ∷ n.second ∷ []) refl in
    let c = filled-below layout_c refl (0b01111 ∷ n.opcode ∷ n.first ∷ n.second ∷ 0 ∷ []) refl in
    let m = filled-below layout_m refl (0b10 ∷ n.opcode ∷ n.first ∷ n.second ∷ n.third ∷ 0 ∷ 0 ∷ []) refl in
    either-below (eqb n.format 0) _ _ r
    (either-below (eqb n.format 1) _ _ i
    (either-below (eqb n.format 2) _ _ v
    (either-below (eqb n.format 3) _ _ j
    (either-below (eqb n.format 4) _ _ c
    (either-below (eqb n.format 5) _ _ m (pow_pos 32))))))

-- what is found is the word of the instruction whose numbers they are,

matched-is : (n : Numbers) (w : ℕ) (r : Answer Instruction) (h : Held) → matched n w r ≡ given h →
    (r ≡ given h.instruction) × (w ≡ h.word) × (same_numbers (numbers_of w) n ≡ true)
matched-is n w (refused k) h e = not-given no_word h e
matched-is n w (given i) h e = by (same_numbers (numbers_of w) n) refl e
  where
    by : (t : Bool) → same_numbers (numbers_of w) n ≡ t → cond t (given (held w i)) (refused no_word) ≡ given h →
        (given i ≡ given h.instruction) × (w ≡ h.word) × (same_numbers (numbers_of w) n ≡ true)
    by true s g = let k : held w i ≡ h = cc in (ap (λ (x : Held). given x.instruction) k, ap (λ (x : Held). x.word) k, s)
    by false s g = not-given no_word h g

found-is : (n : Numbers) (h : Held) → matched n (word_of n) (read (word_of n)) ≡ given h → word_for n ≡ given h
unfolding HasWord Numbered Exact
found-is n h e =
    let m = matched-is n (word_of n) (read (word_of n)) h e in
    let b = word_below n in
    let its = sym (same (numbers_of (word_of n)) n m.2) ∙ numbered (word_of n) h.instruction b m.0 in
    (has_word n h.word h.instruction).1 (its, rw (← m.1) ((exact (word_of n) h.instruction b).0 m.0))

-- and that word is found

is_found : (n : Numbers) (h : Held) → word_for n ≡ given h → matched n (word_of n) (read (word_of n)) ≡ given h
unfolding HasWord Exact
is_found n h e =
    let k = (has_word n h.word h.instruction).0 e in
    let l = encoded-numbers h.instruction h.word k.1 in
    let w : word_of n ≡ h.word = ap word_of k.0 ∙ l.back in
    let r : numbers_of h.word ≡ n = l.own ∙ sym k.0 in
    rw (w, (exact h.word h.instruction l.below).1 k.1, r, own n)

-- either is refused with 6 alone

abbrev Six : Answer Held → Type 0
Six (given h) = Unit {0}
Six (refused number) = number ≡ no_word

matched-six : (n : Numbers) (w : ℕ) (r : Answer Instruction) → Six (matched n w r)
matched-six n w (refused number) = refl
matched-six n w (given i) = by (same_numbers (numbers_of w) n)
  where
    by : (t : Bool) → Six (cond t (given (held w i)) (refused no_word))
    by true = tt
    by false = refl

encoded-six : (i : Instruction) (t : Bool) (w : ℕ) → Six (beside i (encoded t w))
unfolding encoded
encoded-six i true w = tt
encoded-six i false w = refl

write-six : (i : Instruction) → Six (beside i (write i))
unfolding write write_r write_i write_movei write_j write_c write_m
write-six (R op flags d a b) = encoded-six _ _ _
write-six (I op flags d a immediate) = encoded-six _ _ _
write-six (Movei op flag d immediate) = encoded-six _ _ _
write-six (J op register offset) = encoded-six _ _ _
write-six (C op first second) = encoded-six _ _ _
write-six (M op register base offset) = encoded-six _ _ _

written-six : (o : Option Instruction) → Six (written o)
written-six none = refl
written-six (some i) = write-six i

same_answer : (x y : Answer Held) → Six x → Six y →
    ((h : Held) → x ≡ given h → y ≡ given h) → ((h : Held) → y ≡ given h → x ≡ given h) → x ≡ y
same_answer (given h) y p q f g = sym (f h refl)
same_answer (refused m) (given h) p q f g = g h refl
same_answer (refused m) (refused n) p q f g = ap refused (p ∙ sym q)

pub search_is : (n : Numbers) → matched n (word_of n) (read (word_of n)) ≡ word_for n
unfolding word_for
search_is n = same_answer _ _ (matched-six n (word_of n) (read (word_of n))) (written-six (instruction_of n)) (found-is n) (is_found n)
