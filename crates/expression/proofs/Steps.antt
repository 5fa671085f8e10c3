-- What a sum and a term promise, from what the parts that they read promise.
use Prim.Native.Nat.{ℕ, zero, suc, ◌+◌, ◌-◌, ◌*◌, ◌<◌, ◌≤◌}
use mathlib.Core.Bool.{Bool, true, false, cond}
use mathlib.Core.List.{List, [], ◌∷◌}
use mathlib.Core.Option.{Option, none, some}
use mathlib.Core.Path.{◌≡◌, refl, sym, ap, ◌∙◌}
use native.Mathlib.Omega.{arith}
use lib.Dec.{eqb}
use lib.ListN.{length, drop, length-drop}
use Rattle.expression.proofs.Exact.{enough}
use Rattle.token.specs.Byte.{is_blank, in_word}
use lib.Seq.{slice}
use Rattle.expression.specs.Grammar.{Parse, parse, and_then, sign_at, lead_at, closed, goes_on, word_term, behind_it, number_or, term_at, sum_at, expression_at}
use Rattle.token.specs.Token.{past, Token, word, mark, tokens_in, tokens}
use Rattle.token.specs.Name.{is_label}
use Rattle.token.specs.Number.{number as number_of}
use Rattle.expression.specs.Reading.{parsed_as, evaluated, word_value, grouped, grouped_at, TermRead, SumRead}
use Rattle.expression.specs.Syntax.{Term, label, group, Sum, next}
use Rattle.expression.specs.Types.{Sign, Value, Known}
use Rattle.expression.specs.Value.{plus, bias, value_term, value_sum, value_of}
use Rattle.std.specs.Prelude as code
use Rattle.std.specs.Prelude.{Some, None}

-- nothing is read behind what is not read
none-on : {A B : Type 0} (f : A → Value) (g : B → Value) (k : A → List Token → Option (Parse B)) (o : Option (Parse A)) → none ≡ evaluated f o → none ≡ evaluated g (and_then o k)
none-on f g k none e = refl
none-on f g k (some a) e = absurd (let z : ◌≡◌ {A = ℕ} 0 1 = cc in omega arith)

pub sum-stops : (line : List ℕ) (addresses : List ℕ → Option ℕ) (at depth : ℕ) (v : Value) (s : Sign) → TermRead line addresses at depth None → SumRead line addresses at depth v s None
unfolding TermRead SumRead sum_at
sum-stops line addresses at depth v s h zero lt = absurd (omega arith)
sum-stops line addresses at depth v s h (suc m) lt =
    none-on (value_term addresses depth) (value_sum addresses depth v s) (λ t rest. goes_on t rest (sign_at rest) (λ us. sum_at m us)) (term_at m (tokens (drop at line))) (h m (omega arith))

-- no sign behind a term: the sum ends there
last_on : (a : List ℕ → Option ℕ) (depth : ℕ) (v : Value) (s : Sign) (k : List Token → Option (Parse Sum)) (o : Option (Parse Term)) (w : Value) (ts : List Token) → some (record { value = w; rest = ts }) ≡ evaluated (value_term a depth) o → none ≡ sign_at ts → some (record { value = plus v s w; rest = ts }) ≡ evaluated (value_sum a depth v s) (and_then o (λ t rest. goes_on t rest (sign_at rest) k))
unfolding value_sum
last_on a depth v s k none w ts e n = absurd (let z : ◌≡◌ {A = ℕ} 0 1 = cc in omega arith)
last_on a depth v s k (some f) w ts e n =
    let p : ◌≡◌ {A = Parse Value} (record { value = w; rest = ts }) (record { value = value_term a depth f.value; rest = f.rest }) = cc in
    let b : ts ≡ f.rest = ap (λ x. x.rest) p in
    let d : w ≡ value_term a depth f.value = ap (λ x. x.value) p in
    let g : sign_at f.rest ≡ none = sym (n ∙ ap sign_at b) in
    rw (g, b, d)

carried : (a : List ℕ → Option ℕ) (depth : ℕ) (v : Value) (s u : Sign) (t : Term) (q : Option (Parse Sum)) → evaluated (value_sum a depth (plus v s (value_term a depth t)) u) q ≡ evaluated (value_sum a depth v s) (and_then q (λ e rest. parse (next t u e) rest))
unfolding value_sum
carried a depth v s u t none = refl
carried a depth v s u t (some e) = refl

-- a sign behind a term: the sum goes on behind it
next-on : (a : List ℕ → Option ℕ) (depth : ℕ) (v : Value) (s u : Sign) (k : List Token → Option (Parse Sum)) (o : Option (Parse Term)) (w : Value) (ts us : List Token) (r : Option (Parse Value)) → some (record { value = w; rest = ts }) ≡ evaluated (value_term a depth) o → some (record { value = u; rest = us }) ≡ sign_at ts → r ≡ evaluated (value_sum a depth (plus v s w) u) (k us) → r ≡ evaluated (value_sum a depth v s) (and_then o (λ t rest. goes_on t rest (sign_at rest) k))
next-on a depth v s u k none w ts us r e n h = absurd (let z : ◌≡◌ {A = ℕ} 0 1 = cc in omega arith)
next-on a depth v s u k (some f) w ts us r e n h =
    let p : ◌≡◌ {A = Parse Value} (record { value = w; rest = ts }) (record { value = value_term a depth f.value; rest = f.rest }) = cc in
    let b : ts ≡ f.rest = ap (λ x. x.rest) p in
    let d : w ≡ value_term a depth f.value = ap (λ x. x.value) p in
    let g : sign_at f.rest ≡ some (record { value = u; rest = us }) = sym (n ∙ ap sign_at b) in
    rw g (h ∙ ap (λ x. evaluated (value_sum a depth (plus v s x) u) (k us)) d ∙ carried a depth v s u f.value (k us))

pub sum-ends : (line : List ℕ) (addresses : List ℕ → Option ℕ) (at depth : ℕ) (v : Value) (s : Sign) (w : Value) (behind : ℕ) → TermRead line addresses at depth (Some (w, behind)) → none ≡ sign_at (tokens (drop behind line)) → SumRead line addresses at depth v s (Some (plus v s w, behind))
unfolding TermRead SumRead sum_at
sum-ends line addresses at depth v s w behind h n zero lt = absurd (omega arith)
sum-ends line addresses at depth v s w behind h n (suc m) lt =
    last_on addresses depth v s (λ us. sum_at m us) (term_at m (tokens (drop at line))) w (tokens (drop behind line)) (h m (omega arith)) n

pub sum-goes-on : (line : List ℕ) (addresses : List ℕ → Option ℕ) (at depth : ℕ) (v : Value) (s u : Sign) (w : Value) (behind after : ℕ) (r : code.Option (Value × ℕ)) → at < after → after ≤ length line → TermRead line addresses at depth (Some (w, behind)) → some (record { value = u; rest = tokens (drop after line) }) ≡ sign_at (tokens (drop behind line)) → SumRead line addresses after depth (plus v s w) u r → SumRead line addresses at depth v s r
unfolding TermRead SumRead sum_at
sum-goes-on line addresses at depth v s u w behind after r fwd in-line h n k zero lt = absurd (omega arith)
sum-goes-on line addresses at depth v s u w behind after r fwd in-line h n k (suc m) lt =
    next-on addresses depth v s u (λ us. sum_at m us) (term_at m (tokens (drop at line))) w (tokens (drop behind line)) (tokens (drop after line)) (parsed_as line r) (h m (omega arith)) n (k m (omega arith))

-- a term by its first token

pub term-ends : (line : List ℕ) (addresses : List ℕ → Option ℕ) (at depth : ℕ) → tokens (drop at line) ≡ [] → TermRead line addresses at depth None
unfolding TermRead term_at
term-ends line addresses at depth e zero lt = absurd (omega arith)
term-ends line addresses at depth e (suc m) lt = rw e

by-label : (a : List ℕ → Option ℕ) (depth : ℕ) (w : List ℕ) (ts : List Token) (b : Bool) → word_value (value_term a 0) (cond b (some (label w)) none) ts ≡ evaluated (value_term a depth) (behind_it (cond b (some (label w)) none) ts)
unfolding value_term
by-label a depth w ts true = refl
by-label a depth w ts false = refl

by_number : (a : List ℕ → Option ℕ) (depth : ℕ) (w : List ℕ) (ts : List Token) (o : Option ℕ) → word_value (value_term a 0) (number_or o (cond (is_label w) (some (label w)) none)) ts ≡ evaluated (value_term a depth) (behind_it (number_or o (cond (is_label w) (some (label w)) none)) ts)
unfolding value_term
by_number a depth w ts none = by-label a depth w ts (is_label w)
by_number a depth w ts (some n) = refl

-- a word's value is the same at any depth
any-depth : (a : List ℕ → Option ℕ) (depth : ℕ) (w : List ℕ) (ts : List Token) → word_value (value_term a 0) (word_term w) ts ≡ evaluated (value_term a depth) (behind_it (word_term w) ts)
unfolding word_term
any-depth a depth w ts = by_number a depth w ts (number_of w)

pub term-word : (line : List ℕ) (addresses : List ℕ → Option ℕ) (at depth start stop : ℕ) (r : code.Option (Value × ℕ)) → tokens (drop at line) ≡ word (slice start stop line) ∷ tokens (drop stop line) → parsed_as line r ≡ word_value (value_term addresses 0) (word_term (slice start stop line)) (tokens (drop stop line)) → TermRead line addresses at depth r
unfolding TermRead term_at
term-word line addresses at depth start stop r e h zero lt = absurd (omega arith)
term-word line addresses at depth start stop r e h (suc m) lt = rw e (h ∙ any-depth addresses depth (slice start stop line) (tokens (drop stop line)))

pub term-mark : (line : List ℕ) (addresses : List ℕ → Option ℕ) (at depth c behind : ℕ) → tokens (drop at line) ≡ mark c ∷ tokens (drop behind line) → eqb c 40 ≡ false → TermRead line addresses at depth None
unfolding TermRead term_at
term-mark line addresses at depth c behind e h zero lt = absurd (omega arith)
term-mark line addresses at depth c behind e h (suc m) lt = rw (e, h)

by-mark : (a : List ℕ → Option ℕ) (depth : ℕ) (s : Sign) (e : Sum) (o : Option (List Token)) → grouped_at depth (value_sum a (depth - 1) (Known bias) s e) o ≡ evaluated (value_term a depth) (elim o [ none ↦ none | some rest ↦ parse (group s e) rest ])
unfolding value_term
by-mark a depth s e none = refl
by-mark a depth s e (some ts) = refl

-- what a sum in parentheses comes to
shut-on : (a : List ℕ → Option ℕ) (depth : ℕ) (s : Sign) (o : Option (Parse Sum)) (i : Option (Parse Value)) → i ≡ evaluated (value_sum a (depth - 1) (Known bias) s) o → grouped depth i ≡ evaluated (value_term a depth) (and_then o (λ e rest. closed s e rest))
shut-on a depth s none i e = rw e
shut-on a depth s (some f) i e = rw e (by-mark a depth s f.value (past 41 f.rest))

pub term-group : (line : List ℕ) (addresses : List ℕ → Option ℕ) (at depth c behind first : ℕ) (s : Sign) (inside r : code.Option (Value × ℕ)) → at < behind → behind ≤ first → behind ≤ length line → tokens (drop at line) ≡ mark c ∷ tokens (drop behind line) → eqb c 40 ≡ true → record { value = s; rest = tokens (drop first line) } ≡ lead_at (tokens (drop behind line)) → SumRead line addresses first (depth - 1) (Known bias) s inside → parsed_as line r ≡ grouped depth (parsed_as line inside) → TermRead line addresses at depth r
unfolding TermRead SumRead term_at
term-group line addresses at depth c behind first s inside r fwd lead in-line e h l i d zero lt = absurd (omega arith)
term-group line addresses at depth c behind first s inside r fwd lead in-line e h l i d (suc m) lt =
    rw (e, h, ← l) (d ∙ shut-on addresses depth s (sum_at m (tokens (drop first line))) (parsed_as line inside) (i m (omega arith)))

-- an expression is a sum behind its sign
led_on : (a : List ℕ → Option ℕ) (s : Sign) (o : Option (Parse Sum)) → evaluated (value_sum a 8 (Known bias) s) o ≡ evaluated (value_of a) (and_then o (λ e rest. parse (record { lead = s; sum = e }) rest))
led_on a s none = refl
led_on a s (some f) = refl

few-by : (c : ℕ) (cs : List ℕ) (g b d : Bool) → is_blank c ≡ b → in_word c ≡ d → ((h : Bool) → length (tokens_in h cs) ≤ length cs) → length (tokens_in g (c ∷ cs)) ≤ length (c ∷ cs)
unfolding tokens_in
few-by c cs g true d e f h = rw e (omega (arith, h false))
few-by c cs true false true e f h = rw (e, f) (omega (arith, h true))
few-by c cs false false true e f h = rw (e, f) (omega (arith, h true))
few-by c cs g false false e f h = rw (e, f) (omega (arith, h false))

-- there are no more tokens than bytes
few : (t : List ℕ) (g : Bool) → length (tokens_in g t) ≤ length t
unfolding tokens_in
few [] g = omega arith
few (c ∷ cs) g = few-by c cs g (is_blank c) (in_word c) refl refl (few cs)

pub expression-read : (line : List ℕ) (addresses : List ℕ → Option ℕ) (at first : ℕ) (s : Sign) (r : code.Option (Value × ℕ)) → record { value = s; rest = tokens (drop first line) } ≡ lead_at (tokens (drop at line)) → SumRead line addresses first 8 (Known bias) s r → parsed_as line r ≡ evaluated (value_of addresses) (expression_at (tokens (drop at line)))
unfolding SumRead expression_at
expression-read line addresses at first s r l i =
    let ts = tokens (drop first line) in
    let n = 2 * (length line - first) + 2 in
    let h : length ts ≤ length line - first = omega (arith, few (drop first line) false, length-drop first line) in
    rw (← l) (i n (omega arith) ∙ ap (λ o. evaluated (value_sum addresses 8 (Known bias) s) o) (enough n (2 * length ts + 2) ts (omega arith) (omega arith)) ∙ led_on addresses s (sum_at (2 * length ts + 2) ts))
