-- The sums that are read are those of the grammar.
use Prim.Native.Nat.{ℕ, zero, suc, ◌+◌, ◌-◌, ◌*◌, ◌<◌, ◌≤◌}
use mathlib.Core.Bool.{Bool, true, false, ◌&&◌, ◌||◌, cond}
use mathlib.Core.List.{List, [], ◌∷◌, ◌++◌, append_assoc, append-nil}
use mathlib.Core.Option.{Option, none, some}
use mathlib.Core.Path.{◌≡◌, refl, sym, ap, subst, ◌∙◌}
use native.Mathlib.Omega.{arith}
use borrow.Author.Tests.{le-ltb, lt-leb, ne_eqb, eqb-true}
use lib.Dec.{eqb, leb, ltb}
use lib.ListN.{length, length-append}
use Rattle.expression.specs.Claims.{sign_mark, leading, IsTerm, a-number, a-label, a-group, IsSum, one, more, Exact}
use Rattle.expression.specs.Grammar.{Parse, parse, and_then, sign_at, lead_at, closed, goes_on, word_term, behind_it, number_or, term_at, sum_at}
use Rattle.token.specs.Token.{past, Token, word, mark}
use Rattle.token.specs.Name.{is_label, all_letters}
use Rattle.token.specs.Byte.{between, is_digit, is_letter, digit}
use Rattle.token.specs.Number.{number as number_of, numeral, digits_on}
use Rattle.token.proofs.Bytes.{and_left, at_least}
use Rattle.token.proofs.Numbers.{and-false}
use Rattle.expression.specs.Syntax.{Term, number, label, group, Sum, last, next}
use Rattle.expression.specs.Types.{Sign, Plus, Minus}

-- a sum begins with a word or an opening parenthesis, so no minus is taken from it
lead-term : {ts : List Token} {t : Term} → IsTerm ts t → (rest : List Token) → lead_at (ts ++ rest) ≡ record { value = Plus; rest = ts ++ rest }
lead-term (a-number w n e) rest = refl
lead-term (a-label w e) rest = refl
lead-term (a-group us ts s e q i) rest = rw q

lead-sum : {ts : List Token} {e : Sum} → IsSum ts e → (rest : List Token) → lead_at (ts ++ rest) ≡ record { value = Plus; rest = ts ++ rest }
lead-sum (one ts t i) rest = lead-term i rest
lead-sum (more vs ts us t s e q i j) rest = rw (q, append_assoc ts (mark (sign_mark s) ∷ us) rest) (lead-term i ((mark (sign_mark s) ∷ us) ++ rest))

-- a label is no number: its first byte is a letter, and no letter is a decimal digit

letter-by : (c : ℕ) (b : Bool) → between 97 122 c ≡ b → b || between 65 90 c ≡ true → 65 ≤ c
letter-by c true e h = omega (arith, at_least 97 122 c e)
letter-by c false e h = at_least 65 90 c h

no-digit-by : (c : ℕ) → 65 ≤ c → (a b : Bool) → between 97 102 c ≡ a → between 65 70 c ≡ b → ltb (cond a (c - 87) (cond b (c - 55) 16)) 10 ≡ false
no-digit-by c h true b e f = le-ltb (c - 87) 10 (omega (arith, at_least 97 102 c e))
no-digit-by c h false true e f = le-ltb (c - 55) 10 (omega arith)
no-digit-by c h false false e f = refl

no_digit : (c : ℕ) → 65 ≤ c → ltb (digit c) 10 ≡ false
no_digit c h =
    let d : leb c 57 ≡ false = lt-leb c 57 (omega arith) in
    let i : is_digit c ≡ false = rw d (and-false (leb 48 c)) in
    rw i (no-digit-by c h (between 97 102 c) (between 65 70 c) refl refl)

no_number : (w : List ℕ) → is_label w ≡ true → number_of w ≡ none
unfolding all_letters number_of numeral digits_on
no_number [] e = absurd (let z : ◌≡◌ {A = ℕ} 0 1 = cc in omega arith)
no_number (c ∷ cs) e =
    let l : is_letter c ≡ true = and_left (is_letter c) (all_letters cs) (and_left (is_letter c && all_letters cs) (leb 1 (length (c ∷ cs)) && leb (length (c ∷ cs)) 16) e) in
    let h : 65 ≤ c = letter-by c (between 97 122 c) refl l in
    rw (ne_eqb c 48 (λ q. absurd (omega arith)), no_digit c h)

-- the grammar's sums are read

sign_read : (s : Sign) (ts : List Token) → sign_at (mark (sign_mark s) ∷ ts) ≡ parse s ts
sign_read Plus ts = refl
sign_read Minus ts = refl

lead-read : (s : Sign) (ts : List Token) → lead_at ts ≡ record { value = Plus; rest = ts } → lead_at (leading s ts) ≡ record { value = s; rest = ts }
lead-read Plus ts e = e
lead-read Minus ts e = refl

lead-append : (s : Sign) (ts us : List Token) → leading s ts ++ us ≡ leading s (ts ++ us)
lead-append Plus ts us = refl
lead-append Minus ts us = refl

lead-length : (s : Sign) (ts : List Token) → length ts ≤ length (leading s ts)
lead-length Plus ts = omega arith
lead-length Minus ts = omega arith

number_read : (w : List ℕ) (n m : ℕ) (rest : List Token) → number_of w ≡ some n → 0 < m → term_at m (word w ∷ rest) ≡ parse (number n) rest
unfolding term_at word_term
number_read w n zero rest e h = absurd (omega arith)
number_read w n (suc m) rest e h = rw e

label-read : (w : List ℕ) (m : ℕ) (rest : List Token) → is_label w ≡ true → 0 < m → term_at m (word w ∷ rest) ≡ parse (label w) rest
unfolding term_at word_term
label-read w zero rest e h = absurd (omega arith)
label-read w (suc m) rest e h = rw (no_number w e, e)

-- what is read of a sum's tokens, whatever stands behind them, unless it is a sign
abbrev Reads : List Token → Sum → Type 0
Reads ts e = (n : ℕ) → 2 * length ts + 1 < n → (rest : List Token) → sign_at rest ≡ none → sum_at n (ts ++ rest) ≡ parse e rest

group-read : (s : Sign) (ts : List Token) (e : Sum) → IsSum ts e → Reads ts e → (n : ℕ) → 2 * length (mark 40 ∷ leading s (ts ++ mark 41 ∷ [])) < n → (rest : List Token) → term_at n ((mark 40 ∷ leading s (ts ++ mark 41 ∷ [])) ++ rest) ≡ parse (group s e) rest
unfolding term_at
group-read s ts e i r zero h rest = absurd (omega arith)
group-read s ts e i r (suc m) h rest =
    let whole : leading s (ts ++ mark 41 ∷ []) ++ rest ≡ leading s (ts ++ mark 41 ∷ rest) = lead-append s (ts ++ mark 41 ∷ []) rest ∙ ap (λ us. leading s us) (append_assoc ts (mark 41 ∷ []) rest) in
    let lead = lead-read s (ts ++ mark 41 ∷ rest) (lead-sum i (mark 41 ∷ rest)) in
    let b : 2 * length ts + 1 < m = omega (arith, lead-length s (ts ++ mark 41 ∷ []), length-append ts (mark 41 ∷ [])) in
    rw (whole, lead, r m b (mark 41 ∷ rest) refl)

one-read : (ts : List Token) (t : Term) (n : ℕ) (rest : List Token) → ((m : ℕ) → 2 * length ts < m → term_at m (ts ++ rest) ≡ parse t rest) → 2 * length ts + 1 < n → sign_at rest ≡ none → sum_at n (ts ++ rest) ≡ parse (last t) rest
unfolding sum_at
one-read ts t zero rest r h z = absurd (omega arith)
one-read ts t (suc m) rest r h z = rw (r m (omega arith), z)

more-read : (ts us : List Token) (t : Term) (s : Sign) (e : Sum) → ((m : ℕ) → 2 * length ts < m → (rest : List Token) → term_at m (ts ++ rest) ≡ parse t rest) → Reads us e → Reads (ts ++ mark (sign_mark s) ∷ us) (next t s e)
unfolding sum_at
more-read ts us t s e r q zero h rest z = absurd (omega arith)
more-read ts us t s e r q (suc m) h rest z =
    let len = length-append ts (mark (sign_mark s) ∷ us) in
    rw (append_assoc ts (mark (sign_mark s) ∷ us) rest, r m (omega (arith, len)) (mark (sign_mark s) ∷ (us ++ rest)), sign_read s (us ++ rest), q m (omega (arith, len)) rest z)

mutual
  read-term : {ts : List Token} {t : Term} → IsTerm ts t → (n : ℕ) → 2 * length ts < n → (rest : List Token) → term_at n (ts ++ rest) ≡ parse t rest
  read-term (a-number w n e) m h rest = number_read w n m rest e (omega arith)
  read-term (a-label w e) m h rest = label-read w m rest e (omega arith)
  read-term (a-group us ts s e q i) m h rest = rw q (group-read s ts e i (λ k l r z. read-sum i k l r z) m (rw q at h) rest)

  read-sum : {ts : List Token} {e : Sum} → IsSum ts e → (n : ℕ) → 2 * length ts + 1 < n → (rest : List Token) → sign_at rest ≡ none → sum_at n (ts ++ rest) ≡ parse e rest
  read-sum (one ts t i) n h rest z = one-read ts t n rest (λ k l. read-term i k l rest) h z
  read-sum (more vs ts us t s e q i j) n h rest z = rw q (more-read ts us t s e (λ k l r. read-term i k l r) (λ k l r y. read-sum j k l r y) n (rw q at h) rest z)

-- and what is read is a sum of the grammar

-- tokens of which the first are a term, or a sum
abbrev TermFirst : List Token → Term → List Token → Type 0
TermFirst ts t rest = (us : List Token) × (ts ≡ us ++ rest) × IsTerm us t

abbrev SumFirst : List Token → Sum → List Token → Type 0
SumFirst ts e rest = (us : List Token) × (ts ≡ us ++ rest) × IsSum us e

same-front : {A : Type 0} (a b : A) (ts us : List Token) → parse a ts ≡ parse b us → (a ≡ b) × (ts ≡ us)
same-front {A} a b ts us e =
    let p : ◌≡◌ {A = Parse A} (record { value = a; rest = ts }) (record { value = b; rest = us }) = cc in
    (ap (λ x. x.value) p, ap (λ x. x.rest) p)

word-is : (w : List ℕ) (ts : List Token) (t : Term) (rest : List Token) (o : Option ℕ) (b : Bool) → number_of w ≡ o → is_label w ≡ b → behind_it (number_or o (cond b (some (label w)) none)) ts ≡ parse t rest → TermFirst (word w ∷ ts) t rest
word-is w ts t rest (some n) b e f h =
    let q = same-front (number n) t ts rest h in
    (word w ∷ [], ap (λ r. word w ∷ r) q.1, subst (λ (x : Term). IsTerm (word w ∷ []) x) q.0 (a-number w n e))
word-is w ts t rest none true e f h =
    let q = same-front (label w) t ts rest h in
    (word w ∷ [], ap (λ r. word w ∷ r) q.1, subst (λ (x : Term). IsTerm (word w ∷ []) x) q.0 (a-label w f))
word-is w ts t rest none false e f h = absurd (let z : ◌≡◌ {A = ℕ} 0 1 = cc in omega arith)

lead-of-by : (c : ℕ) (ts : List Token) (b : Bool) → eqb c 45 ≡ b → mark c ∷ ts ≡ leading (lead_at (mark c ∷ ts)).value (lead_at (mark c ∷ ts)).rest
lead-of-by c ts true e = rw e (ap (λ d. mark d ∷ ts) (eqb-true c 45 e))
lead-of-by c ts false e = rw e

lead-of : (ts : List Token) → ts ≡ leading (lead_at ts).value (lead_at ts).rest
lead-of [] = refl
lead-of (word w ∷ ts) = refl
lead-of (mark c ∷ ts) = lead-of-by c ts (eqb c 45) refl

past_by : (c d : ℕ) (ts rest : List Token) (b : Bool) → eqb d c ≡ b → cond b (some ts) none ≡ some rest → mark d ∷ ts ≡ mark c ∷ rest
past_by c d ts rest true e h = let q : ts ≡ rest = cc in rw (eqb-true d c e, q)
past_by c d ts rest false e h = absurd (let z : ◌≡◌ {A = ℕ} 0 1 = cc in omega arith)

past_is : (c : ℕ) (ts rest : List Token) → past c ts ≡ some rest → ts ≡ mark c ∷ rest
past_is c [] rest h = absurd (let z : ◌≡◌ {A = ℕ} 0 1 = cc in omega arith)
past_is c (word w ∷ ts) rest h = absurd (let z : ◌≡◌ {A = ℕ} 0 1 = cc in omega arith)
past_is c (mark d ∷ ts) rest h = past_by c d ts rest (eqb d c) refl h

sign-by : (c : ℕ) (ts : List Token) (f : Parse Sign) (a b : Bool) → eqb c 43 ≡ a → eqb c 45 ≡ b → cond a (parse Plus ts) (cond b (parse Minus ts) none) ≡ some f → mark c ∷ ts ≡ mark (sign_mark f.value) ∷ f.rest
sign-by c ts f true b d e h =
    let q = same-front Plus f.value ts f.rest h in
    ap (λ x. mark x ∷ ts) (eqb-true c 43 d) ∙ ap (λ x. mark (sign_mark x) ∷ ts) q.0 ∙ ap (λ us. mark (sign_mark f.value) ∷ us) q.1
sign-by c ts f false true d e h =
    let q = same-front Minus f.value ts f.rest h in
    ap (λ x. mark x ∷ ts) (eqb-true c 45 e) ∙ ap (λ x. mark (sign_mark x) ∷ ts) q.0 ∙ ap (λ us. mark (sign_mark f.value) ∷ us) q.1
sign-by c ts f false false d e h = absurd (let z : ◌≡◌ {A = ℕ} 0 1 = cc in omega arith)

sign-is : (ts : List Token) (f : Parse Sign) → sign_at ts ≡ some f → ts ≡ mark (sign_mark f.value) ∷ f.rest
sign-is [] f h = absurd (let z : ◌≡◌ {A = ℕ} 0 1 = cc in omega arith)
sign-is (word w ∷ ts) f h = absurd (let z : ◌≡◌ {A = ℕ} 0 1 = cc in omega arith)
sign-is (mark c ∷ ts) f h = sign-by c ts f (eqb c 43) (eqb c 45) refl refl h

-- a group: its sum, and the parenthesis behind it
closed_is : (ts : List Token) (s : Sign) (e : Sum) (inner t-rest : List Token) (t : Term) (rest : List Token) (o : Option (List Token)) → ts ≡ leading s inner → SumFirst inner e t-rest → past 41 t-rest ≡ o → elim o as (λ x. Option (Parse Term)) [ none ↦ none | some r ↦ parse (group s e) r ] ≡ parse t rest → TermFirst (mark 40 ∷ ts) t rest
closed_is ts s e inner u t rest none l f p h = absurd (let z : ◌≡◌ {A = ℕ} 0 1 = cc in omega arith)
closed_is ts s e inner u t rest (some r) l f p h =
    let q = same-front (group s e) t r rest h in
    let us = f.0 in
    let w : inner ≡ (us ++ mark 41 ∷ []) ++ rest = f.1 ∙ ap (λ x. us ++ x) (past_is 41 u r p) ∙ ap (λ x. us ++ mark 41 ∷ x) q.1 ∙ sym (append_assoc us (mark 41 ∷ []) rest) in
    (mark 40 ∷ leading s (us ++ mark 41 ∷ []), ap (λ x. mark 40 ∷ x) (l ∙ ap (λ x. leading s x) w ∙ sym (lead-append s (us ++ mark 41 ∷ []) rest)), subst (λ (x : Term). IsTerm (mark 40 ∷ leading s (us ++ mark 41 ∷ [])) x) q.0 (a-group _ us s e refl f.2))

opened-is : (ts : List Token) (t : Term) (rest : List Token) (o : Option (Parse Sum)) → ((f : Parse Sum) → o ≡ some f → SumFirst (lead_at ts).rest f.value f.rest) → and_then o (λ e r. closed (lead_at ts).value e r) ≡ parse t rest → TermFirst (mark 40 ∷ ts) t rest
opened-is ts t rest none i h = absurd (let z : ◌≡◌ {A = ℕ} 0 1 = cc in omega arith)
opened-is ts t rest (some f) i h = closed_is ts (lead_at ts).value f.value (lead_at ts).rest f.rest t rest (past 41 f.rest) (lead-of ts) (i f refl) refl h

mark-is : (m c : ℕ) (ts : List Token) (t : Term) (rest : List Token) → ((us : List Token) (e : Sum) (r : List Token) → sum_at m us ≡ parse e r → SumFirst us e r) → (b : Bool) → eqb c 40 ≡ b → cond b (and_then (sum_at m (lead_at ts).rest) (λ e r. closed (lead_at ts).value e r)) none ≡ parse t rest → TermFirst (mark c ∷ ts) t rest
mark-is m c ts t rest i true e h = rw (eqb-true c 40 e) (opened-is ts t rest (sum_at m (lead_at ts).rest) (λ f q. i (lead_at ts).rest f.value f.rest q) h)
mark-is m c ts t rest i false e h = absurd (let z : ◌≡◌ {A = ℕ} 0 1 = cc in omega arith)

-- a sum: its first term, and what a sign says
next-is : (ts us : List Token) (t : Term) (s : Parse Sign) (e : Sum) (rest : List Token) (o : Option (Parse Sum)) → ts ≡ us ++ mark (sign_mark s.value) ∷ s.rest → IsTerm us t → ((g : Parse Sum) → o ≡ some g → SumFirst s.rest g.value g.rest) → and_then o (λ x r. parse (next t s.value x) r) ≡ parse e rest → SumFirst ts e rest
next-is ts us t s e rest none w i j h = absurd (let z : ◌≡◌ {A = ℕ} 0 1 = cc in omega arith)
next-is ts us t s e rest (some g) w i j h =
    let q = same-front (next t s.value g.value) e g.rest rest h in
    let f = j g refl in
    let vs = f.0 in
    (us ++ mark (sign_mark s.value) ∷ vs, w ∙ ap (λ x. us ++ mark (sign_mark s.value) ∷ x) (f.1 ∙ ap (λ x. vs ++ x) q.1) ∙ sym (append_assoc us (mark (sign_mark s.value) ∷ vs) rest), subst (λ (x : Sum). IsSum (us ++ mark (sign_mark s.value) ∷ vs) x) q.0 (more _ us vs t s.value g.value refl i f.2))

goes-on-is : (m : ℕ) (ts : List Token) (t : Term) (u : List Token) (e : Sum) (rest : List Token) → ((us : List Token) (x : Sum) (r : List Token) → sum_at m us ≡ parse x r → SumFirst us x r) → TermFirst ts t u → (o : Option (Parse Sign)) → sign_at u ≡ o → goes_on t u o (λ us. sum_at m us) ≡ parse e rest → SumFirst ts e rest
goes-on-is m ts t u e rest i f none z h =
    let q = same-front (last t) e u rest h in
    (f.0, f.1 ∙ ap (λ x. f.0 ++ x) q.1, subst (λ (x : Sum). IsSum f.0 x) q.0 (one f.0 t f.2))
goes-on-is m ts t u e rest i f (some s) z h =
    next-is ts f.0 t s e rest (sum_at m s.rest) (f.1 ∙ ap (λ x. f.0 ++ x) (sign-is u s z)) f.2 (λ g q. i s.rest g.value g.rest q) h

begun-is : (m : ℕ) (ts : List Token) (e : Sum) (rest : List Token) → ((us : List Token) (x : Sum) (r : List Token) → sum_at m us ≡ parse x r → SumFirst us x r) → (o : Option (Parse Term)) → ((f : Parse Term) → o ≡ some f → TermFirst ts f.value f.rest) → and_then o (λ t r. goes_on t r (sign_at r) (λ us. sum_at m us)) ≡ parse e rest → SumFirst ts e rest
begun-is m ts e rest i none j h = absurd (let z : ◌≡◌ {A = ℕ} 0 1 = cc in omega arith)
begun-is m ts e rest i (some f) j h = goes-on-is m ts f.value f.rest e rest i (j f refl) (sign_at f.rest) refl h

no_fuel : (ts : List Token) (t : Term) (rest : List Token) → term_at 0 ts ≡ parse t rest → ⊥
unfolding term_at
no_fuel ts t rest h = let z : ◌≡◌ {A = ℕ} 0 1 = cc in omega arith

no-fuel-sum : (ts : List Token) (e : Sum) (rest : List Token) → sum_at 0 ts ≡ parse e rest → ⊥
unfolding sum_at
no-fuel-sum ts e rest h = let z : ◌≡◌ {A = ℕ} 0 1 = cc in omega arith

first-is : (m : ℕ) (ts : List Token) (t : Term) (rest : List Token) → ((us : List Token) (e : Sum) (r : List Token) → sum_at m us ≡ parse e r → SumFirst us e r) → term_at (suc m) ts ≡ parse t rest → TermFirst ts t rest
unfolding term_at word_term
first-is m [] t rest i h = absurd (let z : ◌≡◌ {A = ℕ} 0 1 = cc in omega arith)
first-is m (word w ∷ ts) t rest i h = word-is w ts t rest (number_of w) (is_label w) refl refl h
first-is m (mark c ∷ ts) t rest i h = mark-is m c ts t rest i (eqb c 40) refl h

by-term : (m : ℕ) (ts : List Token) (e : Sum) (rest : List Token) → ((us : List Token) (x : Sum) (r : List Token) → sum_at m us ≡ parse x r → SumFirst us x r) → ((us : List Token) (x : Term) (r : List Token) → term_at m us ≡ parse x r → TermFirst us x r) → sum_at (suc m) ts ≡ parse e rest → SumFirst ts e rest
unfolding sum_at
by-term m ts e rest i j h = begun-is m ts e rest i (term_at m ts) (λ f q. j ts f.value f.rest q) h

mutual
  term_is : (n : ℕ) (ts : List Token) (t : Term) (rest : List Token) → term_at n ts ≡ parse t rest → TermFirst ts t rest
  term_is zero ts t rest h = absurd (no_fuel ts t rest h)
  term_is (suc m) ts t rest h = first-is m ts t rest (λ us e r q. sum_is m us e r q) h

  sum_is : (n : ℕ) (ts : List Token) (e : Sum) (rest : List Token) → sum_at n ts ≡ parse e rest → SumFirst ts e rest
  sum_is zero ts e rest h = absurd (no-fuel-sum ts e rest h)
  sum_is (suc m) ts e rest h = by-term m ts e rest (λ us x r q. sum_is m us x r q) (λ us x r q. term_is m us x r q) h

pub exact : Exact
unfolding Exact
exact ts e n h = (
  (λ q. let f = sum_is n ts e [] q in subst (λ (us : List Token). IsSum us e) (sym (f.1 ∙ append-nil f.0)) f.2),
  (λ i. subst (λ (us : List Token). sum_at n us ≡ parse e []) (append-nil ts) (read-sum i n h [] refl)),
)

-- A larger bound of the calls gives the same.

-- a term has a token
term-long : {us : List Token} {t : Term} → IsTerm us t → 1 ≤ length us
term-long (a-number w n e) = omega arith
term-long (a-label w e) = omega arith
term-long (a-group us ts s e q i) = rw q (omega arith)

-- what stands behind a term is shorter
term-behind : (n : ℕ) (ts : List Token) (f : Parse Term) → term_at n ts ≡ some f → length f.rest < length ts
term-behind n ts f h =
    let r = term_is n ts f.value f.rest h in
    omega (arith, ap length r.1, length-append r.0 f.rest, term-long r.2)

sign-behind : (ts : List Token) (f : Parse Sign) → sign_at ts ≡ some f → length f.rest < length ts
sign-behind ts f h = omega (arith, ap length (sign-is ts f h))

lead-behind : (ts : List Token) → length (lead_at ts).rest ≤ length ts
lead-behind ts = omega (arith, ap length (lead-of ts), lead-length (lead_at ts).value (lead_at ts).rest)

-- two bounds read the same from tokens that are few enough
abbrev Same : ℕ → ℕ → ℕ → Type 0
Same n m k = (us : List Token) → length us < k → sum_at n us ≡ sum_at m us

goes-on-same : (n m k : ℕ) (t : Term) (u : List Token) → Same n m k → length u ≤ k → (o : Option (Parse Sign)) → sign_at u ≡ o → goes_on t u o (λ us. sum_at n us) ≡ goes_on t u o (λ us. sum_at m us)
goes-on-same n m k t u i h none z = refl
goes-on-same n m k t u i h (some s) z = rw (i s.rest (omega (arith, sign-behind u s z)))

term-then-same : (n m k : ℕ) (o : Option (Parse Term)) → Same n m k → ((f : Parse Term) → o ≡ some f → length f.rest ≤ k) → and_then o (λ t r. goes_on t r (sign_at r) (λ us. sum_at n us)) ≡ and_then o (λ t r. goes_on t r (sign_at r) (λ us. sum_at m us))
term-then-same n m k none i h = refl
term-then-same n m k (some f) i h = goes-on-same n m k f.value f.rest i (h f refl) (sign_at f.rest) refl

sum_same : (n m : ℕ) (ts : List Token) → Same n m (length ts) → term_at n ts ≡ term_at m ts → sum_at (suc n) ts ≡ sum_at (suc m) ts
unfolding sum_at
sum_same n m ts i e = rw e (term-then-same n m (length ts) (term_at m ts) i (λ f q. omega (arith, term-behind m ts f q)))

term-same : (n m : ℕ) (ts : List Token) → Same n m (length ts) → term_at (suc n) ts ≡ term_at (suc m) ts
unfolding term_at
term-same n m [] i = refl
term-same n m (word w ∷ ts) i = refl
term-same n m (mark c ∷ ts) i = rw (i (lead_at ts).rest (omega (arith, lead-behind ts)))

mutual
  enough-term : (n m : ℕ) (ts : List Token) → 2 * length ts < n → 2 * length ts < m → term_at n ts ≡ term_at m ts
  enough-term zero m ts h k = absurd (omega arith)
  enough-term (suc n) zero ts h k = absurd (omega arith)
  enough-term (suc n) (suc m) ts h k = term-same n m ts (λ us l. enough-sum n m us (omega arith) (omega arith))

  enough-sum : (n m : ℕ) (ts : List Token) → 2 * length ts + 1 < n → 2 * length ts + 1 < m → sum_at n ts ≡ sum_at m ts
  enough-sum zero m ts h k = absurd (omega arith)
  enough-sum (suc n) zero ts h k = absurd (omega arith)
  enough-sum (suc n) (suc m) ts h k = sum_same n m ts (λ us l. enough-sum n m us (omega arith) (omega arith)) (enough-term n m ts (omega arith) (omega arith))

pub enough : (n m : ℕ) (ts : List Token) → 2 * length ts + 1 < n → 2 * length ts + 1 < m → sum_at n ts ≡ sum_at m ts
enough n m ts h k = enough-sum n m ts h k
