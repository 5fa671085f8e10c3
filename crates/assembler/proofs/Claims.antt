-- The claims about a source.
use Prim.Native.Nat.{ℕ, suc, ◌+◌, ◌*◌, ◌%◌, ◌^◌, ◌≤◌}
use mathlib.Core.Bool.{Bool, true, false, ◌||◌, cond}
use mathlib.Core.List.{List, [], ◌∷◌, ◌++◌, map}
use mathlib.Core.Option.{Option, none, some}
use mathlib.Core.Path.{◌≡◌, refl, sym, ap, ◌∙◌}
use native.Mathlib.Omega.{arith}
use borrow.Author.Tests.{eqb-true, le-ltb, ltb-true, ltb-false}
use lib.Dec.{eqb, ltb}
use lib.ListN.{length}
use Rattle.answer.specs.Answer.{given}
use Rattle.answer.specs.Refusal.{program_words, bad_program}
use Rattle.isa.specs.Read.{read}
use Rattle.statement.specs.Types.{Instruction}
use Rattle.statement.specs.Field.{value_in, nth}
use Rattle.statement.specs.Operand.{Operands}
use Rattle.statement.specs.Line.{Line, blank, label, instruction, line_of}
use Rattle.statement.specs.Meaning.{meaning_of, word_for, word_of}
use Rattle.statement.proofs.Claims as Statement
use Rattle.statement.specs.Claims as StatementClaims
use Rattle.statement.proofs.Shortest.{shortest}
use Rattle.assembler.specs.Types.{Value, Known, TooLarge, Unknown}
use Rattle.assembler.specs.Source.{Refusal, at-line, longer, texts_of, line_or, line_in, lines_of, count, or_later, first_from, first, text_number, label_number, word_number, without_word, value_number, value_word, and_word, words_from, Assembly, words, refused, refused_or, in_room, of_lines, of_texts, assembly}
use Rattle.assembler.specs.Claims.{value_meaning, and_meaning, meanings_from, addresses_of, ReadsBack, FewWords, Accepted, NoProgram}
use Rattle.assembler.proofs.Counted.{count-append, none-later, all_words}

-- instructions are few: a line that has one has three bytes and its LF, but for the last

total : List (List ℕ) → ℕ
total [] = 0
total (t ∷ ts) = suc (length t) + total ts

total-by : (c : ℕ) (cs : List ℕ) (t : List ℕ) (ts : List (List ℕ)) (b : Bool) → total (t ∷ ts) ≡ suc (length cs) → total (cond b ([] ∷ t ∷ ts) (longer c (t ∷ ts))) ≡ suc (length (c ∷ cs))
unfolding total
total-by c cs t ts true h = omega arith
total-by c cs t ts false h = omega arith

cons_of : (cs : List ℕ) (ts : List (List ℕ)) → total ts ≡ suc (length cs) → (c : ℕ) (b : Bool) → total (cond b ([] ∷ ts) (longer c ts)) ≡ suc (length (c ∷ cs))
unfolding total
cons_of cs [] h c b = absurd (omega arith)
cons_of cs (t ∷ ts) h c b = total-by c cs t ts b h

texts-total : (source : List ℕ) → total (texts_of source) ≡ suc (length source)
unfolding total texts_of
texts-total [] = refl
texts-total (c ∷ cs) = cons_of cs (texts_of cs) (texts-total cs) c (eqb c 10)

one_line : (text : List ℕ) (ls : List Line) (o : Option Line) → line_of text ≡ o → 4 * count (line_or o ∷ ls) ≤ suc (length text) + 4 * count ls
unfolding count StatementClaims.Shortest
one_line text ls none h = omega arith
one_line text ls (some blank) h = omega arith
one_line text ls (some (label w)) h = omega arith
one_line text ls (some (instruction i os)) h = let s : 3 ≤ length text = shortest text i os h in omega arith

few-lines : (ts : List (List ℕ)) → 4 * count (map line_in ts) ≤ total ts
unfolding total count
few-lines [] = omega arith
few-lines (t ∷ ts) = let h = few-lines ts in let k = one_line t (map line_in ts) (line_of t) refl in omega arith

pub few_words : FewWords
unfolding FewWords
few_words source h = let q = few-lines (texts_of source) in let t = texts-total source in omega arith

-- words read back

back-word : (i : Instruction) (os : Operands) (v at : ℕ) (ws : List ℕ) (is : List Instruction) (j : Instruction) (o : Option ℕ) → meaning_of i os v at ≡ some j → word_for (some j) ≡ o → without_word o ≡ none → map read ws ≡ map given is → map read (and_word o ws) ≡ map given (j ∷ is)
unfolding StatementClaims.ReadsBack
back-word i os v at ws is j none m q h r = absurd (let z : ◌≡◌ {A = ℕ} 0 1 = cc in omega arith)
back-word i os v at ws is j (some w) m q h r =
    rw (Statement.reads-back i j (nth 0 os.registers) (nth 1 os.registers) (nth 2 os.registers) (v % 2 ^ 32) at w m (ap word_for m ∙ q), r)

back-meaning : (i : Instruction) (os : Operands) (v at : ℕ) (ws : List ℕ) (is : List Instruction) (o : Option Instruction) → meaning_of i os v at ≡ o → without_word (word_for o) ≡ none → map read ws ≡ map given is → map read (and_word (word_for o) ws) ≡ map given (and_meaning o is)
back-meaning i os v at ws is none m h r = absurd (let z : ◌≡◌ {A = ℕ} 0 1 = cc in omega arith)
back-meaning i os v at ws is (some j) m h r = back-word i os v at ws is j (word_for (some j)) m refl h r

back-value : (i : Instruction) (os : Operands) (at : ℕ) (ws : List ℕ) (is : List Instruction) (x : Value) → value_number (λ v. word_of i os v at) x ≡ none → map read ws ≡ map given is → map read (and_word (value_word (λ v. word_of i os v at) x) ws) ≡ map given (and_meaning (value_meaning (λ v. meaning_of i os v at) x) is)
back-value i os at ws is (Known v) h r = back-meaning i os v at ws is (meaning_of i os v at) refl h r
back-value i os at ws is TooLarge h r = absurd (let z : ◌≡◌ {A = ℕ} 0 1 = cc in omega arith)
back-value i os at ws is Unknown h r = absurd (let z : ◌≡◌ {A = ℕ} 0 1 = cc in omega arith)

back-lines : (a : List ℕ → Option ℕ) (before ls : List Line) → first_from (word_number a) before ls ≡ none → map read (words_from a (4 * count before) ls) ≡ map given (meanings_from a (4 * count before) ls)
unfolding first_from words_from meanings_from count
back-lines a before [] h = refl
back-lines a before (blank ∷ ls) h =
    let c : count (before ++ blank ∷ []) ≡ count before = count-append before (blank ∷ []) ∙ omega arith in
    rw (← c) (back-lines a (before ++ blank ∷ []) ls h)
back-lines a before (label w ∷ ls) h =
    let c : count (before ++ label w ∷ []) ≡ count before = count-append before (label w ∷ []) ∙ omega arith in
    rw (← c) (back-lines a (before ++ label w ∷ []) ls h)
back-lines a before (instruction i os ∷ ls) h =
    let n = none-later (value_number (λ v. word_of i os v (4 * count before)) (value_in a os.expression)) (suc (length before)) (first_from (word_number a) (before ++ instruction i os ∷ []) ls) h in
    let c : 4 * count (before ++ instruction i os ∷ []) ≡ 4 * count before + 4 = rw (count-append before (instruction i os ∷ [])) (omega arith) in
    let r : map read (words_from a (4 * count before + 4) ls) ≡ map given (meanings_from a (4 * count before + 4) ls) = rw (← c) (back-lines a (before ++ instruction i os ∷ []) ls n.1) in
    back-value i os (4 * count before) (words_from a (4 * count before + 4) ls) (meanings_from a (4 * count before + 4) ls) (value_in a os.expression) n.0 r

taken : (o : Option Refusal) (x : Assembly) (ws : List ℕ) → refused_or o x ≡ words ws → (o ≡ none) × (x ≡ words ws)
taken none x ws h = (refl, h)
taken (some r) x ws h = absurd (let z : ◌≡◌ {A = ℕ} 0 1 = cc in omega arith)

room_by : (vs ws : List ℕ) (b c : Bool) → cond b (refused (at-line 1 0)) (cond c (refused (at-line 18 0)) (words vs)) ≡ words ws → vs ≡ ws
room_by vs ws true c h = absurd (let z : ◌≡◌ {A = ℕ} 0 1 = cc in omega arith)
room_by vs ws false true h = absurd (let z : ◌≡◌ {A = ℕ} 0 1 = cc in omega arith)
room_by vs ws false false h = cc

back_by : (source ws : List ℕ) (room : ℕ) (b : Bool) → cond b (refused (at-line 12 0)) (of_texts room source) ≡ words ws → map read ws ≡ map given (meanings_from (addresses_of source) 0 (lines_of source))
unfolding count
back_by source ws room true h = absurd (let z : ◌≡◌ {A = ℕ} 0 1 = cc in omega arith)
back_by source ws room false h =
    let a = addresses_of source in
    let ls = lines_of source in
    let t = taken (first text_number (texts_of source)) (of_lines a room ls) ws h in
    let l = taken (first (label_number a) ls) (refused_or (first (word_number a) ls) (in_room room (words_from a 0 ls))) ws t.1 in
    let w = taken (first (word_number a) ls) (in_room room (words_from a 0 ls)) ws l.1 in
    let q = room_by (words_from a 0 ls) ws (bad_program (length (words_from a 0 ls))) (ltb room (length (words_from a 0 ls))) w.1 in
    rw (← q) (back-lines a [] ls w.0)

pub reads-back : ReadsBack
unfolding ReadsBack assembly
reads-back source ws room h = back_by source ws room (ltb 65536 (length source)) h

-- where 1 is given

later-line : (o : Option ℕ) (n : ℕ) (later : Option Refusal) (r : Refusal) → (later ≡ some r → r.line ≡ 0 → ⊥) → or_later o (suc n) later ≡ some r → r.line ≡ 0 → ⊥
later-line none n later r f h z = f h z
later-line (some x) n later r f h z = let q : at-line x (suc n) ≡ r = cc in let k : suc n ≡ r.line = ap (λ y. y.line) q in omega arith

no-line-0 : {A : Type 0} (f : List A → A → Option ℕ) (before xs : List A) (r : Refusal) → first_from f before xs ≡ some r → r.line ≡ 0 → ⊥
unfolding first_from
no-line-0 f before [] r h z = let y : ◌≡◌ {A = ℕ} 0 1 = cc in omega arith
no-line-0 f before (x ∷ xs) r h z = later-line (f before x) (length before) (first_from f (before ++ x ∷ []) xs) r (no-line-0 f (before ++ x ∷ []) xs r) h z

passed : (o : Option Refusal) (x : Assembly) → ((r : Refusal) → o ≡ some r → r.line ≡ 0 → ⊥) → refused_or o x ≡ refused (at-line 1 0) → (o ≡ none) × (x ≡ refused (at-line 1 0))
passed none x f h = (refl, h)
passed (some r) x f h = let q : r ≡ at-line 1 0 = cc in absurd (f r refl (ap (λ y. y.line) q))

bad-by : (vs : List ℕ) (b c : Bool) → cond b (refused (at-line 1 0)) (cond c (refused (at-line 18 0)) (words vs)) ≡ refused (at-line 1 0) → b ≡ true
bad-by vs true c h = refl
bad-by vs false true h = let q : at-line 18 0 ≡ at-line 1 0 = cc in let k : ◌≡◌ {A = ℕ} 18 1 = ap (λ y. y.number) q in absurd (omega arith)
bad-by vs false false h = absurd (let z : ◌≡◌ {A = ℕ} 0 1 = cc in omega arith)

zero-by : (n : ℕ) (b : Bool) → eqb n 0 ≡ b → n ≤ program_words → b || ltb program_words n ≡ true → n ≡ 0
zero-by n true e h p = eqb-true n 0 e
zero-by n false e h p = absurd (omega (arith, ltb-true program_words n p))

one-by : (source : List ℕ) (room : ℕ) (b : Bool) → ltb 65536 (length source) ≡ b → cond b (refused (at-line 12 0)) (of_texts room source) ≡ refused (at-line 1 0) → Accepted source × (count (lines_of source) ≡ 0)
unfolding FewWords
one-by source room true e h = let q : at-line 12 0 ≡ at-line 1 0 = cc in let k : ◌≡◌ {A = ℕ} 12 1 = ap (λ y. y.number) q in absurd (omega arith)
one-by source room false e h =
    let a = addresses_of source in
    let ls = lines_of source in
    let n = ltb-false 65536 (length source) e in
    let t = passed (first text_number (texts_of source)) (of_lines a room ls) (no-line-0 text_number [] (texts_of source)) h in
    let l = passed (first (label_number a) ls) (refused_or (first (word_number a) ls) (in_room room (words_from a 0 ls))) (no-line-0 (label_number a) [] ls) t.1 in
    let w = passed (first (word_number a) ls) (in_room room (words_from a 0 ls)) (no-line-0 (word_number a) [] ls) l.1 in
    let p = bad-by (words_from a 0 ls) (bad_program (length (words_from a 0 ls))) (ltb room (length (words_from a 0 ls))) w.1 in
    let c = all_words a ls w.0 in
    (record { short = n; texts = t.0; labels = l.0; words = w.0 }, zero-by (count ls) (eqb (count ls) 0) refl (few_words source n) (ap bad_program (sym c) ∙ p))

one-back : (source : List ℕ) (room : ℕ) → Accepted source → count (lines_of source) ≡ 0 → assembly source room ≡ refused (at-line 1 0)
unfolding assembly
one-back source room x z =
    let a = addresses_of source in
    let c : length (words_from a 0 (lines_of source)) ≡ 0 = all_words a (lines_of source) x.words ∙ z in
    rw (le-ltb 65536 (length source) x.short, x.texts, x.labels, x.words, c)

pub no_program : NoProgram
unfolding NoProgram assembly
no_program source room = (one-by source room (ltb 65536 (length source)) refl, λ h. one-back source room h.0 h.1)
