-- The loop over pages follows the plain run, page by page.
use Prim.Native.Nat.{ℕ, ◌+◌, ◌-◌, ◌*◌, ◌^◌, ◌<◌, ◌≤◌}
use mathlib.Core.Bool.{Bool, true, false, ◌&&◌, cond}
use mathlib.Core.List.{List, [], ◌∷◌, ◌++◌}
use mathlib.Core.Option.{Option, none, some}
use Rattle.std.specs.Prelude.{Result, Ok, Err, IsOk}
use mathlib.Core.Path.{◌≡◌, refl, sym, ap, ◌∙◌}
use native.Mathlib.Omega.{arith}
use borrow.Author.Tests.{ltb-true, ltb-false}
use lib.Dec.{ltb}
use lib.ListN.{length, take}
use Rattle.answer.specs.Answer.{given}
use Rattle.interpreter.proofs.Claims.{answers_number, joins, no-budget, spends-budget, within-budget}
use Rattle.interpreter.specs.Answer.{spent}
use Rattle.interpreter.specs.Choosing.{Issue}
use Rattle.interpreter.specs.Claims.{number_in}
use Rattle.interpreter.specs.Run.{Outcome, run_outcome, outcome, number, run_issues, run_reached, run_answer, run}
use Rattle.interpreter.specs.declared.outcome.Run.{Run}
use Rattle.answer.specs.declared.refusal.Refusal.{Refusal}
use Rattle.machine.specs.State.{State, state}
use Rattle.machine.specs.declared.record.Machine.{Machine}
use Rattle.trace.proofs.Claims.{continues, ends-for-good, least-budget, least-room}
use Rattle.trace.proofs.Following.{both, spent-given, not-spent}
use Rattle.trace.proofs.Lists.{rows_append, rows-length}
use Rattle.trace.proofs.Rules.{not-refused, refused-same, taken-so, taken-still}
use Rattle.trace.specs.Rows.{rows_of, onto}
use Rattle.trace.specs.Traced.{least, TracedRun, traced, traced_run, run_traced, is_spent}
use Rattle.trace.specs.declared.row.Row.{Row}
use Rattle.capi_trace.specs.Calls.{filled, filling}
use Rattle.capi_trace.specs.Numbers.{all_numbers, put_rows}
use Rattle.capi_trace.specs.Pages.{Paged}
use Rattle.capi_trace.proofs.Putting.{rows-onto}

-- what stays true from page to page: with `made` of the budget it is the plain run so far
pub record Following (p : List ℕ) (s : State) (limit : ℕ) (lent : List ℕ) (made : ℕ) (r : Run) (registers memory numbers : List ℕ) : Type
    0 where
  pub ran : run_outcome r registers memory ≡ run p made s
  pub within : made ≤ limit
  pub numbers-are : numbers ≡ onto (all_numbers (rows_of p (run_issues p made s))) lent

-- the rows that were written, out of a page
taken-front : (new old : List Row) → take (length new) (onto new old) ≡ new
unfolding onto
taken-front new old = front new _
  where
    front : (a b : List Row) → take (length a) (a ++ b) ≡ a
    front [] b = refl
    front (x ∷ a) b = ap {B = List Row} (λ l. x ∷ l) (front a b)

least-some : (b room : ℕ) → 1 ≤ b → 1 ≤ room → 1 ≤ least b room
unfolding least
least-some b room h k = go (ltb room b)
  where
    go : (t : Bool) → 1 ≤ cond t room b
    go true = k
    go false = h

empty : (is : List Issue) → length is ≤ 0 → is ≡ []
empty [] l = refl
empty (i ∷ is) l = absurd (omega arith)

nothing_put : (lent : List ℕ) (p : List ℕ) → onto (all_numbers (rows_of p [])) lent ≡ lent
unfolding onto all_numbers rows_of
nothing_put lent p = refl

-- a traced run of a run that the table gives no number is not refused
pub run-ok : (p : List ℕ) (s : State) (budget : ℕ) (lent rows : List Row) (x : Result Run Refusal) (m : Machine) (registers memory : List ℕ)
    → number p s ≡ none → traced x m registers memory rows ≡ run_traced p budget s lent → IsOk x
unfolding run_traced
run-ok p s budget lent rows (Ok r) m registers memory h o = refl
run-ok p s budget lent rows (Err e) m registers memory h o =
    absurd (not-refused p (least budget (length lent)) s e m registers memory h (ap (λ (t : TracedRun). t.run) o))

-- a page makes no more issues than are left, and than it has rows
pub page-few : (p : List ℕ) (left : ℕ) (s : State) (blank : List Row) (page : Run) (registers memory : List ℕ) (rows : List Row)
    → length blank ≡ 64 → traced_run page registers memory rows ≡ run_traced p left s blank → (page.issues ≤ 64) × (page.issues ≤ left)
unfolding run_traced run
page-few p left s blank page registers memory rows blanks e =
    let made : page.issues ≡ length (run_issues p (least left (length blank)) s) = ap (λ (t : TracedRun). t.run.issues) e in
    let most = within-budget p (least left (length blank)) s in
    (omega (arith, made, most, blanks, least-room left (length blank)), omega (arith, made, most, least-budget left (length blank)))

-- a run with no budget hands back where it began
pub from-here : (p : List ℕ) (s : State) (r : Run) (registers memory : List ℕ) → run_outcome r registers memory ≡ run p 0 s
    → state r.machine registers memory ≡ s
unfolding run
from-here p s r registers memory e = ap (λ (o : Outcome). o.left) e ∙ no-budget p s

pub begun : (p : List ℕ) (s : State) (limit : ℕ) (lent : List ℕ) (r : Run) (registers memory : List ℕ)
    → run_outcome r registers memory ≡ run p 0 s → Following p s limit lent 0 r registers memory lent
begun p s limit lent r registers memory e =
    record {
      ran = e;
      within = omega arith;
      numbers-are = sym (ap (λ is. onto (all_numbers (rows_of p is)) lent) (empty (run_issues p 0 s) (within-budget p 0 s))
          ∙ nothing_put lent p);
    }

-- a refused run leaves the list as it was lent
pub refuses : (p : List ℕ) (s : State) (limit : ℕ) (lent : List ℕ) (e : Refusal) (m : Machine) (registers memory : List ℕ)
    → outcome (Err e) m registers memory ≡ run p 0 s → filled (outcome (Err e) m registers memory) lent ≡ filling p limit s lent
unfolding filling
refuses p s limit lent e m registers memory o = go (number p s) refl
  where
    go : (k : Option ℕ) → number p s ≡ k
        → filled (outcome (Err e) m registers memory) lent ≡ filled (run p limit s) (onto (all_numbers (rows_of p (run_issues p limit s))) lent)
    go none h = absurd (not-refused p 0 s e m registers memory h o)
    go (some j) h =
        let same = refused-same p 0 limit j s h in
        let ran : outcome (Err e) m registers memory ≡ run p limit s = o ∙ same.0 in
        let numbers : lent ≡ onto (all_numbers (rows_of p (run_issues p limit s))) lent =
        sym (ap (λ is. onto (all_numbers (rows_of p is)) lent) same.1 ∙ nothing_put lent p) in cc

-- the next page is not refused
pub taken-next : {p : List ℕ} {s : State} {limit : ℕ} {lent : List ℕ} {made : ℕ} {r : Run} {registers memory numbers : List ℕ}
    → Following p s limit lent made r registers memory numbers → number p (state r.machine registers memory) ≡ none
unfolding run
taken-next {p = p} {s = s} {made = made} {r = r} {registers = registers} {memory = memory} f =
    ap (λ (o : Outcome). number p o.left) f.ran ∙ taken-still p made s (taken-so p made s r registers memory f.ran)

module _ {p : List ℕ} {s : State} {limit : ℕ} {lent : List ℕ} (small : limit < 2 ^ 32) (fits : 7 * limit ≤ length lent) {made : ℕ} {r : Run}
    {registers memory numbers : List ℕ} (f : Following p s limit lent made r registers memory numbers)
    (go : (is_spent r.stop && ltb made limit) ≡ true) {r' : Run} {registers' memory' numbers' : List ℕ}
    (q : Paged p r made (limit - made) registers memory numbers r' registers' memory' numbers') where
  abbrev page : Run
  page = q.page

  abbrev rows : List Row
  rows = q.rows

  abbrev blank : List Row
  blank = q.blank

  -- the budget of the page
  abbrev part : ℕ
  part = least (limit - made) 64

  abbrev here : State
  here = run_reached p made s

  below : made < limit
  below = ltb-true made limit (both (is_spent r.stop) (ltb made limit) go).1

  part_left : part ≤ limit - made
  part_left = least-budget (limit - made) 64

  some-part : 1 ≤ part
  some-part = least-some (limit - made) 64 (omega (arith, below)) (omega arith)

  spent-here : run_answer p made s ≡ given spent
  unfolding run
  spent-here =
      sym (ap (λ (o : Outcome). o.answer) f.ran) ∙ spent-given r.stop (both (is_spent r.stop) (ltb made limit) go).0

  taken : number p s ≡ none
  taken = sym (answers_number p made s) ∙ ap number_in spent-here

  at_here : state r.machine registers memory ≡ here
  unfolding run
  at_here = ap (λ (o : Outcome). o.left) f.ran

  page-is : traced_run page registers' memory' rows ≡ run_traced p (limit - made) here blank
  page-is = q.ran ∙ ap (λ (y : State). run_traced p (limit - made) y blank) at_here

  page-ran : run_outcome page registers' memory' ≡ run p part here
  unfolding run_traced
  page-ran = ap (λ (t : TracedRun). t.run) page-is ∙ ap (λ k. run p (least (limit - made) k) here) q.blanks

  page-rows : rows ≡ onto (rows_of p (run_issues p part here)) blank
  unfolding run_traced
  page-rows = ap (λ (t : TracedRun). t.rows) page-is ∙ ap (λ k. onto (rows_of p (run_issues p (least (limit - made) k) here)) blank)
      q.blanks

  page-issues : page.issues ≡ length (run_issues p part here)
  unfolding run
  page-issues = ap (λ (o : Outcome). o.issues) page-ran

  pub more-fits : made + part < 2 ^ 32
  more-fits = omega (arith, part_left, below, small)

  abbrev A : List Row
  A = rows_of p (run_issues p made s)

  abbrev B : List Row
  B = rows_of p (run_issues p part here)

  front-rows : take page.issues rows ≡ B
  front-rows =
      ap (λ l. take page.issues l) page-rows
      ∙ ap (λ k. take k (onto B blank)) (page-issues ∙ sym (rows-length p (run_issues p part here)))
      ∙ taken-front B blank

  so-many : length A ≡ made
  so-many = rows-length p (run_issues p made s) ∙ spends-budget p made s spent-here

  pub turned : Following p s limit lent (made + part) r' registers' memory' numbers'
  turned =
      record {
        ran =
            ap (λ y. run_outcome y registers' memory') q.next
            ∙ continues p made part s r page registers memory registers' memory' more-fits taken f.ran page-ran;
        within = omega (arith, part_left, below);
        numbers-are =
            q.put
            ∙ ap (λ l. put_rows numbers made l) front-rows
            ∙ ap (λ l. put_rows l made B) f.numbers-are
            ∙ ap (λ k. put_rows (onto (all_numbers A) lent) k B) (sym so-many)
            ∙ rows-onto A B lent
            (omega (arith, so-many, rows-length p (run_issues p part here), within-budget p part here, part_left, below, fits))
            ∙ ap (λ l. onto (all_numbers l) lent) (sym (rows_append p (run_issues p made s) (run_issues p part here)))
            ∙ ap (λ is. onto (all_numbers (rows_of p is)) lent) (sym (joins p made part s).issues);
      }

  pub nearer : limit - (made + part) < limit - made
  nearer = omega (arith, some-part, part_left, below)

-- the end
module _ (p : List ℕ) (s : State) (limit : ℕ) (lent : List ℕ) (made : ℕ) (r : Run) (registers memory numbers : List ℕ)
    (f : Following p s limit lent made r registers memory numbers) where
  whole : (spent-so-far fewer : Bool) → is_spent r.stop ≡ spent-so-far → ltb made limit ≡ fewer → (spent-so-far && fewer) ≡ false
      → (run p limit s ≡ run p made s) × (run_issues p limit s ≡ run_issues p made s)
  unfolding run
  whole true true e g h = absurd (let z : ◌≡◌ {A = ℕ} 0 1 = cc in omega arith)
  whole true false e g h =
      let all : limit ≡ made = omega (arith, ltb-false made limit g, f.within) in
      (ap (λ k. run p k s) all, ap (λ k. run_issues p k s) all)
  whole false fewer e g h =
      let all : limit ≡ made + (limit - made) = omega (arith, f.within) in
      let w = ends-for-good p made (limit - made) s (λ k. not-spent r.stop e (ap (λ (o : Outcome). o.answer) f.ran ∙ k)) in
      (ap (λ b. run p b s) all ∙ w.0, ap (λ b. run_issues p b s) all ∙ w.1)

  pub ended : (is_spent r.stop && ltb made limit) ≡ false → filled (run_outcome r registers memory) numbers ≡ filling p limit s lent
  unfolding filling
  ended stopped =
      let w = whole (is_spent r.stop) (ltb made limit) refl refl stopped in
      (λ i. filled (f.ran i) (f.numbers-are i))
      ∙ ap (λ o. filled o (onto (all_numbers (rows_of p (run_issues p made s))) lent)) (sym w.0)
      ∙ ap (λ is. filled (run p limit s) (onto (all_numbers (rows_of p is)) lent)) (sym w.1)
