-- The loop of a traced run follows the plain run, issue by issue.
use Rattle.std.proofs.Common.{◌≡◌, ℕ, ◌+◌, ◌-◌, ◌^◌, ◌<◌, ◌≤◌, Bool, true, false, cond, ◌&&◌, ltb, List, [], ◌∷◌, ◌++◌, length, set, sym, refl, ap, ◌∙◌, arith, length-append, ltb-false, ltb-true}
use mathlib.Core.Option.{Option, none, some}
use Rattle.std.specs.Prelude.{Result, Ok, Err, IsOk}
use Rattle.answer.specs.Answer.{given}
use Rattle.interpreter.proofs.Claims.{answers_number, joins, within-budget}
use Rattle.interpreter.specs.Answer.{ending_of, spent}
use Rattle.interpreter.specs.Choosing.{Issue, issued}
use Rattle.interpreter.specs.Claims.{number_in}
use Rattle.interpreter.specs.Run.{Outcome, run_outcome, outcome, number, run_issues, run_reached, run_answer, run}
use Rattle.machine.specs.Scheduler.{some_chosen, choice, after_choice, choose}
use Rattle.machine.specs.State.{State, state}
use Rattle.trace.specs.Joining.{continued_run}
use Rattle.trace.specs.Rows.{row_of, rows_of, onto}
use Rattle.trace.specs.Traced.{TracedRun, least, traced_run, traced, traced_page, run_traced, is_spent}
use Rattle.trace.specs.Turn.{next_thread, row_after, Advanced}
use Rattle.trace.specs.Types.{Row, Page, Run, Step, Stop, Stopped, Stuck, Spent, Refusal, Machine}
use Rattle.trace.proofs.Lists.{onto-set, no_rows, one-row, rows_append, rows-length}
use Rattle.trace.proofs.Rules.{taken-still, taken-so, not-refused, refused-same, joined, one-issue, one-reached, spent-chosen, ended-for-good}

-- where the loop stands
pub record Place : Type 0 where
  pub run : Run
  pub registers : List ℕ
  pub memory : List ℕ
  pub rows : List Row

abbrev pub place : Run → List ℕ → List ℕ → List Row → Place
place run registers memory rows = record { run = run; registers = registers; memory = memory; rows = rows }

abbrev made : Place → ℕ
made x = x.run.issues

-- the most issues that it may make
pub record Limited (limit : ℕ) (lent : List Row) : Type 0 where
  pub small : limit < 2 ^ 32
  pub room : limit ≤ length lent

pub limited : (budget : ℕ) (lent : List Row) → budget < 2 ^ 32 → Limited (least budget (length lent)) lent
unfolding least
limited budget lent l = go (ltb (length lent) budget) refl
  where
    go : (t : Bool) → ltb (length lent) budget ≡ t → Limited (cond t (length lent) budget) lent
    go true e = record { small = omega (arith, ltb-true (length lent) budget e); room = omega arith }
    go false e = record { small = l; room = ltb-false (length lent) budget e }

-- what stays true from turn to turn: so far it is the plain run with a budget of the issues made
pub record Follows (p : List ℕ) (s : State) (limit : ℕ) (lent : List Row) (x : Place) : Type 0 where
  pub ran : run_outcome x.run x.registers x.memory ≡ run p (made x) s
  pub within : made x ≤ limit
  pub rows : x.rows ≡ onto (rows_of p (run_issues p (made x) s)) lent

-- The beginning.

none_made : (p : List ℕ) (s : State) → run_issues p 0 s ≡ []
none_made p s = go (run_issues p 0 s) (within-budget p 0 s)
  where
    go : (is : List Issue) → length is ≤ 0 → is ≡ []
    go [] l = refl
    go (i ∷ is) l = absurd (omega arith)

pub begins : (p : List ℕ) (s : State) (limit : ℕ) (lent : List Row) (r : Run) (registers memory : List ℕ)
    → run_outcome r registers memory ≡ run p 0 s → Follows p s limit lent (place r registers memory lent)
unfolding run
begins p s limit lent r registers memory ran =
    let zero-made : r.issues ≡ 0 = ap (λ (o : Outcome). o.issues) ran ∙ ap length (none_made p s) in
    record {
      ran = ran ∙ ap (λ k. run p k s) (sym zero-made);
      within = omega arith;
      rows = sym (ap (λ k. onto (rows_of p (run_issues p k s)) lent) zero-made ∙ ap (λ is. onto (rows_of p is) lent) (none_made p s)
          ∙ no_rows p lent);
    }

-- A turn.

pub spent-given : (a : Stop) → is_spent a ≡ true → given (ending_of a) ≡ given spent
spent-given Stopped e = absurd (let z : ◌≡◌ {A = ℕ} 0 1 = cc in omega arith)
spent-given Stuck e = absurd (let z : ◌≡◌ {A = ℕ} 0 1 = cc in omega arith)
spent-given Spent e = refl

chosen-next : (m : Machine) (t d : ℕ) → choice m ≡ some_chosen t d → next_thread m ≡ t
unfolding choose
chosen-next m t d e = ap (λ c. (after_choice m c).last) e

-- both of two tests
pub both : (a b : Bool) → (a && b) ≡ true → (a ≡ true) × (b ≡ true)
both true b e = (refl, e)
both false b e = absurd (let z : ◌≡◌ {A = ℕ} 0 1 = cc in omega arith)

module _ (p : List ℕ) (s : State) (limit : ℕ) (lent : List Row) (x : Place) (bound : Limited limit lent) (f : Follows p s limit lent x)
    (go : (is_spent x.run.stop && ltb x.run.issues limit) ≡ true) (r : Step) (registers memory : List ℕ)
    (a : Advanced p x.run x.registers x.memory r registers memory) where
  abbrev n : ℕ
  n = made x

  -- the state that it stands in
  abbrev here : State
  here = state x.run.machine x.registers x.memory

  at_here : here ≡ run_reached p n s
  unfolding run
  at_here = ap (λ (o : Outcome). o.left) f.ran

  goes : (is_spent x.run.stop ≡ true) × (ltb n limit ≡ true)
  goes = both (is_spent x.run.stop) (ltb n limit) go

  below : n < limit
  below = ltb-true n limit goes.1

  spent-here : run_answer p n s ≡ given spent
  unfolding run
  spent-here = sym (ap (λ (o : Outcome). o.answer) f.ran) ∙ spent-given x.run.stop goes.0

  taken : number p s ≡ none
  taken = sym (answers_number p n s) ∙ ap number_in spent-here

  taken_here : number p here ≡ none
  taken_here = ap (number p) at_here ∙ taken-still p n s taken

  chosen : (t : ℕ) × ((d : ℕ) × (choice here.machine ≡ some_chosen t d))
  chosen =
      let c = spent-chosen p n s taken spent-here in
      (c.0, (c.1.0, ap (λ (y : State). choice y.machine) at_here ∙ c.1.1))

  abbrev issue : Issue
  issue = record { before = here; thread = chosen.0 }

  more : run p (n + 1) s ≡ run_outcome (continued_run x.run a.one) registers memory
  more =
      sym (joined p n 1 s x.run a.one x.registers x.memory registers memory (omega (arith, below, bound.small)) taken
      f.ran (a.ran ∙ ap (run p 1) at_here))

  more-issues : run_issues p (n + 1) s ≡ run_issues p n s ++ issue ∷ []
  more-issues =
      (joins p n 1 s).issues
      ∙ ap (λ (y : State). run_issues p n s ++ run_issues p 1 y) (sym at_here)
      ∙ ap (λ is. run_issues p n s ++ is) (one-issue p here taken_here chosen.0 chosen.1.0 chosen.1.1)

  so-many : length (run_issues p n s) ≡ n
  unfolding run
  so-many = sym (ap (λ (o : Outcome). o.issues) f.ran)

  one-made : r.run.issues ≡ n + 1
  unfolding run
  one-made =
      ap (λ (q : Run). q.issues) a.next
      ∙ sym (ap (λ (o : Outcome). o.issues) more)
      ∙ ap length more-issues
      ∙ length-append (run_issues p n s) (issue ∷ [])
      ∙ ap (λ k. k + 1) so-many

  reached-one : state a.one.machine registers memory ≡ issued p here chosen.0
  unfolding run
  reached-one =
      ap (λ (o : Outcome). o.left) a.ran ∙ one-reached p here taken_here chosen.0 chosen.1.0 chosen.1.1

  next-is : next_thread here.machine ≡ chosen.0
  next-is = chosen-next here.machine chosen.0 chosen.1.0 chosen.1.1

  row_is : r.row ≡ row_of p issue
  unfolding row_of
  row_is =
      a.row
      ∙ ap (λ k. row_after p x.registers k a.one.machine) next-is
      ∙ ap (λ (y : State). row_after p x.registers chosen.0 y.machine) reached-one

  pub follows_on : Follows p s limit lent (place r.run registers memory (set x.rows n r.row))
  follows_on =
      let len : length (rows_of p (run_issues p n s)) ≡ n = rows-length p (run_issues p n s) ∙ so-many in
      record {
        ran = ap (λ q. run_outcome q registers memory) a.next ∙ sym more ∙ ap (λ k. run p k s) (sym one-made);
        within = omega (arith, one-made, below);
        rows =
            ap (λ l. set l n r.row) f.rows
            ∙ ap (λ k. set (onto (rows_of p (run_issues p n s)) lent) k r.row) (sym len)
            ∙ onto-set (rows_of p (run_issues p n s)) lent r.row (omega (arith, len, below, bound.room))
            ∙ ap (λ y. onto (rows_of p (run_issues p n s) ++ y ∷ []) lent) row_is
            ∙ ap (λ l. onto l lent) (sym (ap (rows_of p) more-issues ∙ rows_append p (run_issues p n s) (issue ∷ [])
            ∙ ap (λ l. rows_of p (run_issues p n s) ++ l) (one-row p issue)))
            ∙ ap (λ k. onto (rows_of p (run_issues p k s)) lent) (sym one-made);
      }

  pub nearer : limit - made (place r.run registers memory (set x.rows n r.row)) < limit - made x
  nearer = omega (arith, one-made, below)

-- The next issue is not refused.
pub taken-next : (p : List ℕ) (s : State) (limit : ℕ) (lent : List Row) (x : Place) → Follows p s limit lent x
    → number p (state x.run.machine x.registers x.memory) ≡ none
unfolding run
taken-next p s limit lent x f =
    let taken = taken-so p (made x) s x.run x.registers x.memory f.ran in
    ap (λ (o : Outcome). number p o.left) f.ran ∙ taken-still p (made x) s taken

-- A refused run leaves the rows lent.
pub refuses : (p : List ℕ) (n : ℕ) (s : State) (budget : ℕ) (lent : List Row) (e : Refusal) (m : Machine) (registers memory : List ℕ)
    → outcome (Err e) m registers memory ≡ run p n s → traced (Err e) m registers memory lent ≡ run_traced p budget s lent
unfolding run_traced
refuses p n s budget lent e m registers memory o = go (number p s) refl
  where
    go : (k : Option ℕ) → number p s ≡ k
        → traced (Err e) m registers memory lent ≡ record { run = run p (least budget (length lent)) s; rows = onto (rows_of p (run_issues p (least budget (length lent)) s)) lent }
    go none h = absurd (not-refused p n s e m registers memory h o)
    go (some j) h =
        let same = refused-same p n (least budget (length lent)) j s h in
        let ran : outcome (Err e) m registers memory ≡ run p (least budget (length lent)) s = o ∙ same.0 in
        let rows : lent ≡ onto (rows_of p (run_issues p (least budget (length lent)) s)) lent =
        sym (ap (λ is. onto (rows_of p is) lent) same.1 ∙ no_rows p lent) in cc

-- A page is handed back of a run that is not refused.
pub page-ok : (p : List ℕ) (s : State) (budget : ℕ) (lent : List Row) (x : Result Page Refusal) (m : Machine) (registers memory : List ℕ)
    → number p s ≡ none → traced_page x m registers memory lent ≡ run_traced p budget s lent → IsOk x
unfolding run_traced
page-ok p s budget lent (Ok page) m registers memory h o = refl
page-ok p s budget lent (Err e) m registers memory h o =
    absurd (not-refused p (least budget (length lent)) s e m registers memory h (ap (λ (t : TracedRun). t.run) o))

-- The end.

pub not-spent : (a : Stop) → is_spent a ≡ false → given (ending_of a) ≡ given spent → ⊥
not-spent Stopped e g = let z : ◌≡◌ {A = ℕ} 0 1 = cc in omega arith
not-spent Stuck e g = let z : ◌≡◌ {A = ℕ} 0 1 = cc in omega arith
not-spent Spent e g = let z : ◌≡◌ {A = ℕ} 0 1 = cc in omega arith

module _ (p : List ℕ) (s : State) (budget : ℕ) (lent : List Row) (x : Place) where
  abbrev most : ℕ
  most = least budget (length lent)

  -- the plain run with the whole budget is the one so far
  abbrev Whole : Type 0
  Whole = (run p most s ≡ run p (made x) s) × (run_issues p most s ≡ run_issues p (made x) s)

  -- it has made all its issues, or it has ended before
  whole : Follows p s most lent x → (spent-so-far fewer : Bool) → is_spent x.run.stop ≡ spent-so-far
      → ltb (made x) most ≡ fewer → (spent-so-far && fewer) ≡ false → Whole
  unfolding run
  whole f true true e g h = absurd (let z : ◌≡◌ {A = ℕ} 0 1 = cc in omega arith)
  whole f true false e g h =
      let all : most ≡ made x = omega (arith, ltb-false (made x) most g, f.within) in
      (ap (λ k. run p k s) all, ap (λ k. run_issues p k s) all)
  whole f false fewer e g h =
      let rest : ℕ = most - made x in
      let all : most ≡ made x + rest = omega (arith, f.within) in
      let w = ended-for-good p (made x) rest s
      (λ k. not-spent x.run.stop e (ap (λ (o : Outcome). o.answer) f.ran ∙ k)) in
      (ap (λ b. run p b s) all ∙ w.0, ap (λ b. run_issues p b s) all ∙ w.1)

  pub finishes : Follows p s most lent x → (is_spent x.run.stop && ltb x.run.issues most) ≡ false
      → traced_run x.run x.registers x.memory x.rows ≡ run_traced p budget s lent
  unfolding run_traced
  finishes f stopped-here =
      let w = whole f (is_spent x.run.stop) (ltb (made x) most) refl refl stopped-here in
      rw (w.0, w.1) (traced-is f.ran f.rows)
    where
      traced-is : {o : Outcome} {l : List Row} → run_outcome x.run x.registers x.memory ≡ o → x.rows ≡ l
          → traced_run x.run x.registers x.memory x.rows ≡ record { run = o; rows = l }
      traced-is e g = cc
