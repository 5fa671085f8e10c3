-- The claims about a line.
use Prim.Native.Nat.{ℕ, ◌+◌, ◌*◌, ◌/◌, ◌%◌, ◌<◌, ◌≤◌}
use mathlib.Core.Bool.{Bool, true, false, ◌&&◌, not, cond}
use mathlib.Core.List.{List, [], ◌∷◌}
use mathlib.Core.Option.{Option, none, some}
use mathlib.Core.Path.{◌≡◌, refl, sym, ap, ◌∙◌}
use native.Mathlib.Omega.{arith}
use borrow.Author.Tests.{eq-eqb, eqb-true, lt-ltb, le-leb, ltb-true, ltb-false}
use lib.Dec.{eqb, ltb}
use Rattle.answer.specs.Answer.{Answer, given, refused}
use Rattle.isa.specs.Rule.{allows_j}
use Rattle.isa.specs.Text.{bytes, bytes_from}
use Rattle.isa.specs.Write.{write}
use Rattle.isa.proofs.RoundTrip.{write_read}
use Rattle.names.specs.Name.{name_of}
use Rattle.statement.specs.Types.{Instruction, R, I, Movei, J, C, M}
use Rattle.token.specs.Byte.{digit}
use Rattle.expression.specs.Label.{same}
use Rattle.token.specs.Number.{digits_on, numeral}
use Rattle.statement.specs.Types.{Register}
use Rattle.statement.specs.Mnemonic.{with_immediate, nameable, named_in}
use Rattle.statement.specs.Register.{reg, letter, digits_of, spelled, numbered_by, lettered_by, register_of}
use Rattle.statement.specs.Meaning.{lettered, same_letter, is_vector_m, offset_from, meaning_with, word_by, word_for}
use Rattle.statement.specs.Claims.{NamesApart, Registers, SameName, ReadsBack}
use Rattle.statement.proofs.Digits.{both}

pub names_apart : NamesApart
unfolding bytes bytes_from same with_immediate nameable named_in NamesApart
names_apart = refl

-- a meaning has the line's name

kept : (b : Bool) (k j : Instruction) (t : List ℕ) → name_of k ≡ t → lettered b k ≡ some j → name_of j ≡ t
kept true k j t h e = let q : k ≡ j = cc in rw (← q) h
kept false k j t h e = absurd (let z : ◌≡◌ {A = ℕ} 0 1 = cc in omega arith)

pub same_name : SameName
unfolding SameName meaning_with
same_name (R op flags d a b) j x y z n at e = kept true _ j _ refl e
same_name (I op flags d a i) j x y z n at e = kept true _ j _ refl e
same_name (Movei op flag d i) j x y z n at e = kept true _ j _ refl e
same_name (J op r offset) j x y z n at e = kept (not x.vector) (J op x.number (offset_from (allows_j op 0 1) n at)) j (name_of (J op r offset)) refl e
same_name (C op first second) j x y z n at e = kept (not x.vector && not y.vector) (C op x.number y.number) j (name_of (C op first second)) refl e
same_name (M op r base offset) j x y z n at e = kept (same_letter (is_vector_m op) x.vector && not y.vector) (M op x.number y.number n) j (name_of (M op r base offset)) refl e

-- a word is the writer's

word-given : (a : Answer ℕ) (w : ℕ) → word_by a ≡ some w → a ≡ given w
word-given (given v) w e = let q : v ≡ w = cc in rw q
word-given (refused n) w e = absurd (let z : ◌≡◌ {A = ℕ} 0 1 = cc in omega arith)

pub reads-back : ReadsBack
unfolding ReadsBack
reads-back i j x y z n at w m e = write_read j w (word-given (write j) w (ap word_for (sym m) ∙ e))

-- registers

pub same_true : (xs ys : List ℕ) → same xs ys ≡ true → xs ≡ ys
unfolding same
same_true [] [] h = refl
same_true [] (d ∷ ds) h = absurd (let z : ◌≡◌ {A = ℕ} 0 1 = cc in omega arith)
same_true (c ∷ cs) [] h = absurd (let z : ◌≡◌ {A = ℕ} 0 1 = cc in omega arith)
same_true (c ∷ cs) (d ∷ ds) h =
    let p = both (eqb c d) (same cs ds) h in
    let q : c ≡ d = eqb-true c d p.0 in
    let r : cs ≡ ds = same_true cs ds p.1 in
    rw (q, r)

same_self : (xs : List ℕ) → same xs xs ≡ true
unfolding same
same_self [] = refl
same_self (c ∷ cs) = rw (eq-eqb c c refl) (same_self cs)

-- a register's word is spelled as the register

number_by : (v : Bool) (ds : List ℕ) (n : ℕ) (r : Register) (t : Bool) → ltb n 64 && same (digits_of n) ds ≡ t → cond t (some (reg v n)) none ≡ some r → (r ≡ reg v n) × (ds ≡ digits_of n) × (n < 64)
number_by v ds n r true e h =
    let p = both (ltb n 64) (same (digits_of n) ds) e in
    let q : reg v n ≡ r = cc in
    (sym q, sym (same_true (digits_of n) ds p.1), ltb-true n 64 p.0)
number_by v ds n r false e h = absurd (let z : ◌≡◌ {A = ℕ} 0 1 = cc in omega arith)

from-number : (v : Bool) (ds : List ℕ) (r : Register) (o : Option ℕ) → numbered_by v ds o ≡ some r → (letter v ∷ ds ≡ spelled r) × (r.number < 64)
from-number v ds r none h = absurd (let z : ◌≡◌ {A = ℕ} 0 1 = cc in omega arith)
from-number v ds r (some n) h =
    let p = number_by v ds n r (ltb n 64 && same (digits_of n) ds) refl h in
    (rw (p.0, p.1), rw p.0 p.2)

from-letter : (c : ℕ) (ds : List ℕ) (r : Register) (s v : Bool) → eqb c 115 ≡ s → eqb c 118 ≡ v → lettered_by (cond s (some false) (cond v (some true) none)) ds ≡ some r → (c ∷ ds ≡ spelled r) × (r.number < 64)
from-letter c ds r true v e f h = let q : c ≡ 115 = eqb-true c 115 e in rw q (from-number false ds r (numeral 10 ds) h)
from-letter c ds r false true e f h = let q : c ≡ 118 = eqb-true c 118 f in rw q (from-number true ds r (numeral 10 ds) h)
from-letter c ds r false false e f h = absurd (let z : ◌≡◌ {A = ℕ} 0 1 = cc in omega arith)

from-word : (w : List ℕ) (r : Register) → register_of w ≡ some r → (w ≡ spelled r) × (r.number < 64)
unfolding register_of
from-word [] r h = absurd (let z : ◌≡◌ {A = ℕ} 0 1 = cc in omega arith)
from-word (c ∷ ds) r h = from-letter c ds r (eqb c 115) (eqb c 118) refl refl h

-- and a number that is written is read

digit-of : (d : ℕ) → d < 10 → digit (48 + d) ≡ d
digit-of d h = rw (le-leb 48 (48 + d) (omega arith), le-leb (48 + d) 57 (omega arith)) (omega arith)

digits-by : (n : ℕ) (b : Bool) → ltb n 10 ≡ b → n < 64 → numeral 10 (cond b ((48 + n) ∷ []) ((48 + n / 10) ∷ (48 + n % 10) ∷ [])) ≡ some n
unfolding numeral digits_on
digits-by n true e h =
    let l : n < 10 = ltb-true n 10 e in
    let q : 0 * 10 + n ≡ n = omega arith in
    rw (digit-of n l, lt-ltb n 10 l) (ap some q)
digits-by n false e h =
    let l : 10 ≤ n = ltb-false n 10 e in
    let x : n / 10 < 10 = omega arith in
    let y : n % 10 < 10 = omega arith in
    let q : (0 * 10 + n / 10) * 10 + n % 10 ≡ n = omega arith in
    rw (digit-of (n / 10) x, digit-of (n % 10) y, lt-ltb (n / 10) 10 x, lt-ltb (n % 10) 10 y) (ap some q)

numeral-digits : (n : ℕ) → n < 64 → numeral 10 (digits_of n) ≡ some n
unfolding digits_of
numeral-digits n h = digits-by n (ltb n 10) refl h

written-number : (v : Bool) (n : ℕ) → n < 64 → numbered_by v (digits_of n) (numeral 10 (digits_of n)) ≡ some (reg v n)
written-number v n h = rw (numeral-digits n h, lt-ltb n 64 h, same_self (digits_of n))

to_word : (v : Bool) (n : ℕ) → n < 64 → register_of (spelled (reg v n)) ≡ some (reg v n)
unfolding register_of
to_word false n h = written-number false n h
to_word true n h = written-number true n h

pub registers : Registers
unfolding Registers
registers w r = (from-word w r, λ h. ap register_of h.0 ∙ to_word r.vector r.number h.1)
