-- The claims of specs/, proved.
use Rattle.std.proofs.Common.{◌≡◌, ℕ, ◌+◌, ◌-◌, ◌<◌, ◌≤◌, Bool, true, false, cond, ltb, List, [], ◌∷◌, ◌++◌, map, length, drop, sym, refl, ap, ◌∙◌, append-nil, arith, length-append, ltb-false, ltb-true, le-ltb}
use mathlib.Core.Option.{some}
use Rattle.answer.specs.Answer.{Answer, given, refused}
use Rattle.execution.specs.Registers.{program_counter}
use Rattle.interpreter.proofs.Claims.{joins, spends-budget, within-budget}
use Rattle.interpreter.specs.Answer.{Ending, spent, stuck, stopped}
use Rattle.interpreter.specs.Choosing.{Issue}
use Rattle.interpreter.specs.Run.{number, run_issues, run_reached, run_answer, run}
use Rattle.machine.specs.State.{State}
use Rattle.trace.specs.Claims.{Continues, EndsForGood, RowsTold, RowsKept, Pages}
use Rattle.trace.specs.Rows.{row_of, rows_of, onto}
use Rattle.trace.specs.Traced.{least, run_traced}
use Rattle.trace.specs.Types.{Row}
use Rattle.trace.proofs.Lists.{
  rows_append,
  rows-length,
  rows_none,
  no_rows,
  onto-short,
  onto-full,
  onto-behind,
  onto-length,
}
use Rattle.trace.proofs.Rules.{joined, ended-for-good}

pub continues : Continues
continues = joined

pub ends-for-good : EndsForGood
ends-for-good = ended-for-good

threads-told : (p : List ℕ) (is : List Issue) → map (λ (r : Row). r.thread) (rows_of p is) ≡ map (λ (i : Issue). i.thread) is
unfolding rows_of row_of
threads-told p [] = refl
threads-told p (i ∷ is) = ap {B = List ℕ} (λ l. i.thread ∷ l) (threads-told p is)

addresses-told : (p : List ℕ) (is : List Issue)
    → map (λ (r : Row). r.address) (rows_of p is) ≡ map (λ (i : Issue). program_counter i.before.registers i.thread) is
unfolding rows_of row_of
addresses-told p [] = refl
addresses-told p (i ∷ is) = ap {B = List ℕ} (λ l. program_counter i.before.registers i.thread ∷ l) (addresses-told p is)

pub rows_told : RowsTold
rows_told p is = record { threads = threads-told p is; addresses = addresses-told p is }

-- A list cut into two.

empty : {C : Type 0} (l : List C) → length l ≤ 0 → l ≡ []
empty [] h = refl
empty (c ∷ l) h = absurd (omega arith)

least-true : (b room : ℕ) → ltb room b ≡ true → least b room ≡ room
unfolding least
least-true b room e = rw e

least-false : (b room : ℕ) → ltb room b ≡ false → least b room ≡ b
unfolding least
least-false b room e = rw e

pub least-room : (b room : ℕ) → least b room ≤ room
unfolding least
least-room b room = go (ltb room b) refl
  where
    go : (t : Bool) → ltb room b ≡ t → cond t room b ≤ room
    go true e = omega arith
    go false e = ltb-false room b e

pub least-budget : (b room : ℕ) → least b room ≤ b
unfolding least
least-budget b room = go (ltb room b) refl
  where
    go : (t : Bool) → ltb room b ≡ t → cond t room b ≤ b
    go true e = omega (arith, ltb-true room b e)
    go false e = omega arith

-- The rows that are kept.

module _ (p : List ℕ) (b : ℕ) (s : State) (lent : List Row) where
  abbrev written : List Row
  written = rows_of p (run_issues p (least b (length lent)) s)

  as_many : length written ≡ length (run_issues p (least b (length lent)) s)
  as_many = rows-length p (run_issues p (least b (length lent)) s)

  kept-length : length (run_traced p b s lent).rows ≡ length lent
  unfolding run_traced
  kept-length =
      onto-length written lent (omega (arith, as_many, within-budget p (least b (length lent)) s, least-room b (length lent)))

  kept-behind : drop (run_traced p b s lent).run.issues (run_traced p b s lent).rows ≡ drop (run_traced p b s lent).run.issues lent
  unfolding run_traced run
  kept-behind =
      ap (λ k. drop k (onto written lent)) (sym as_many) ∙ onto-behind written lent ∙ ap (λ k. drop k lent) as_many

  kept_whole : (n : ℕ) → number p s ≡ some n → (run_traced p b s lent).rows ≡ lent
  unfolding run_traced run_issues
  kept_whole n h = rw h (no_rows p lent)

pub rows-kept : RowsKept
rows-kept p b s lent = record { long = kept-length p b s lent; behind = kept-behind p b s lent; whole = kept_whole p b s lent }

-- the budgets of the two runs are that of the one
shares : (b n m : ℕ) → least b (n + m) ≡ least b n + least (b - least b n) m
unfolding least
shares b n m = go (ltb n b) refl
  where
    go : (t : Bool) → ltb n b ≡ t → cond (ltb (n + m) b) (n + m) b ≡ cond t n b + cond (ltb m (b - cond t n b)) m (b - cond t n b)
    go true e = more (ltb (n + m) b) refl (ltb m (b - n)) refl
      where
        l : n < b
        l = ltb-true n b e

        more : (u : Bool) → ltb (n + m) b ≡ u → (v : Bool) → ltb m (b - n) ≡ v → cond u (n + m) b ≡ n + cond v m (b - n)
        more true f true g = refl
        more true f false g = omega (arith, ltb-true (n + m) b f, ltb-false m (b - n) g, l)
        more false f true g = omega (arith, ltb-false (n + m) b f, ltb-true m (b - n) g, l)
        more false f false g = omega (arith, l)
    go false e = rw (le-ltb (n + m) b (omega (arith, ltb-false n b e)), le-ltb m (b - b) (omega arith)) (omega arith)

module _ (p : List ℕ) (b : ℕ) (s : State) (first second : List Row) where
  abbrev n : ℕ
  n = least b (length first)

  abbrev m : ℕ
  m = least (b - n) (length second)

  abbrev x : State
  x = run_reached p n s

  both : least b (length (first ++ second)) ≡ n + m
  both = ap (least b) (length-append first second) ∙ shares b (length first) (length second)

  abbrev A : List Row
  A = rows_of p (run_issues p n s)

  abbrev B : List Row
  B = rows_of p (run_issues p m x)

  abbrev Joins : Type 0
  Joins = onto (A ++ B) (first ++ second) ≡ onto A first ++ onto B second

  -- where the second run makes no issue
  none-second : run_issues p m x ≡ [] → Joins
  none-second e =
      let none-there : B ≡ rows_of p [] = ap (rows_of p) e in
      let few : length A ≤ length first = omega (arith, rows-length p (run_issues p n s), within-budget p n s, least-room b (length first))
      in
      ap (λ l. onto (A ++ l) (first ++ second)) (none-there ∙ rows_none p)
      ∙ ap (λ l. onto l (first ++ second)) (append-nil A)
      ∙ onto-short A first second few
      ∙ ap (λ l. onto A first ++ l) (sym (no_rows p second) ∙ ap (λ l. onto l second) (sym none-there))

  -- where the first filled its list
  full-first : length (run_issues p n s) ≡ length first → Joins
  full-first e = onto-full A B first second (rows-length p (run_issues p n s) ∙ e)

  nothing-more : run_issues p (n + m) s ≡ run_issues p n s → run_issues p m x ≡ []
  nothing-more e =
      empty (run_issues p m x) (omega (
        arith,
        ap length (sym (joins p n m s).issues ∙ e),
        length-append (run_issues p n s)
            (run_issues p m x),
      ))

  -- one of the two
  rows_join : Joins
  rows_join = by_answer (run_answer p n s) refl
    where
      by-room : length (run_issues p n s) ≡ n → (t : Bool) → ltb (length first) b ≡ t → Joins
      by-room e true f = full-first (e ∙ least-true b (length first) f)
      by-room e false f =
          none-second (empty (run_issues p m x)
          (omega (arith, within-budget p m x, least-false b (length first) f, least-budget (b - n) (length second))))

      by_answer : (a : Answer Ending) → run_answer p n s ≡ a → Joins
      by_answer (given spent) e = by-room (spends-budget p n s e) (ltb (length first) b) refl
      by_answer (given stuck) e = none-second (nothing-more (ended-for-good p n m s (λ f. let z : ◌≡◌ {A = ℕ} 0 1 = cc in omega arith)).1)
      by_answer (given stopped) e = none-second
          (nothing-more (ended-for-good p n m s (λ f. let z : ◌≡◌ {A = ℕ} 0 1 = cc in omega arith)).1)
      by_answer (refused k) e = none-second (nothing-more (ended-for-good p n m s (λ f. let z : ◌≡◌ {A = ℕ} 0 1 = cc in omega arith)).1)

pub pages : Pages
unfolding run_traced run
pages p b s first second =
    let c = joins p (least b (length first)) (least (b - least b (length first)) (length second)) s in
    let e = both p b s first second in
    record {
      rest = b - least b (length first);
      budget = refl;
      rows =
          ap (λ k. onto (rows_of p (run_issues p k s)) (first ++ second)) e
          ∙ ap (λ is. onto (rows_of p is) (first ++ second)) c.issues
          ∙ ap (λ l. onto l (first ++ second))
          (rows_append p (run_issues p (n p b s first second) s) (run_issues p (m p b s first second) (x p b s first second)))
          ∙ rows_join p b s first second;
      answer = ap (λ k. run_answer p k s) e ∙ c.answer;
      issues =
          ap (λ k. length (run_issues p k s)) e ∙ ap length c.issues
          ∙ length-append (run_issues p (n p b s first second) s) (run_issues p (m p b s first second) (x p b s first second));
      left = ap (λ k. run_reached p k s) e ∙ c.reached;
    }
