-- Demand 3 holds: the issues that a list of runs makes are a row of turns.
use Prim.Native.Nat.{ℕ, zero, suc, ◌/◌, ◌^◌, ◌<◌, ◌≤◌}
use mathlib.Core.Bool.{true}
use mathlib.Core.List.{List, [], ◌∷◌, ◌++◌}
use mathlib.Core.Option.{Option, none, some}
use mathlib.Core.Path.{◌≡◌, refl, sym, ap, subst, ◌∙◌}
use native.Mathlib.Decide.{dec_lt}
use native.Mathlib.Nat.{pow-zero, pow-succ', le-div_iff_mul-le, div-lt_iff_lt-mul}
use native.Mathlib.Omega.{arith}
use borrow.Author.Tests.{eq-eqb}
use lib.Pow.{pow_pos}
use Rattle.machine.specs.State.{State}
use Rattle.machine.proofs.Claims.{tested, enabled, chooses}
use Rattle.machine.proofs.Tests.{never}
use Rattle.machine.specs.Claims.{FirstAfterLast}
use Rattle.bits.specs.Bit.{bit}
use Rattle.machine.specs.Machine.{count_threads}
use Rattle.std.specs.Prelude.{Some, None}
use Rattle.machine.specs.Scheduler.{some_chosen, Choice, runs, choice}
use Rattle.thread_entry.specs.Status.{limits}
use Rattle.machine.specs.WellFormed.{well_formed}
use Rattle.interpreter.specs.Choosing.{Issue, if_chosen, issued, issues, reached}
use Rattle.interpreter.specs.Claims.{SomeEnabled, EightAtMost, Begun, RecordHandedOn, issues_of, TurnsFair}
use Rattle.interpreter.specs.Demand.{Call, Session, written, Reports, is_enabled, Fair, DemandHolds}
use Rattle.answer.specs.Refusal.{refused_or}
use Rattle.interpreter.specs.Run.{number, run_issues, run_reached}
use Rattle.interpreter.proofs.Calls.{runs-report}
use Rattle.interpreter.specs.Types.{Machine}
use Rattle.interpreter.proofs.Issuing.{chosen-thread, issued-sound, issued-well-formed, reached-nothing, reached-one-more}
use Rattle.interpreter.proofs.RoundRobin.{distance, distance-range, distance-at, distance-of, some-counted, all-counted, IssueInTurn, InTurns, row-after, row-front, within, share, even}

-- the thread chosen is at most as far from "last" as any that is running
chosen-first : (m : Machine) (t d : ℕ) → m.last < 8 → choice m ≡ some_chosen t d → (u : ℕ) → u < 8 → runs m u ≡ true
    → distance m.last t ≤ distance m.last u
chosen-first m t d l h u b r = go ((chooses m t d).0 h) (dec_lt (distance m.last u) d)
  where
    go : FirstAfterLast m t d → Dec (distance m.last u < d) → distance m.last t ≤ distance m.last u
    go f (yes n) = never r (ap (runs m) (sym (distance-at m.last u l b)) ∙ f.nearest (distance m.last u) (distance-range m.last u).0 n)
    go f (no n) =
        let e : distance m.last t ≡ d = ap (distance m.last) f.place ∙ distance-of m.last d l f.low f.high in
        omega arith

-- what holds of the record before each issue of a list of runs
record Fit (mask : ℕ) (m : Machine) : Type 0 where
  mask-stays : m.enabled ≡ mask
  well-formed : well_formed m ≡ true

module _ (mask : ℕ) (p : List ℕ) (s : State) (f : Fit mask s.machine) (t d : ℕ) (h : choice s.machine ≡ some_chosen t d) where
  fit-issued : Fit mask (issued p s t).machine
  fit-issued = record { mask-stays = (issued-sound p s t).enabled ∙ f.mask-stays; well-formed = issued-well-formed p s t d h f.well-formed }

  turn : IssueInTurn (is_enabled mask) s.machine (record { before = s; thread = t }) (issued p s t).machine
  turn =
      let m = s.machine in
      let w = (tested limits m).0 f.well-formed in
      let l : m.last < 8 = omega (arith, w.last-range) in
      let k = issued-sound p s t in
      record {
        before = refl;
        last = l;
        thread = chosen-thread m t d h;
        running = ((chooses m t d).0 h).running;
        enabled = λ u r. let x = enabled m u f.well-formed r in (x.0, eq-eqb _ _ (sym (ap (λ n. bit n u) f.mask-stays) ∙ x.1));
        first = λ u r. chosen-first m t d l h u (enabled m u f.well-formed r).0 r;
        becomes-last = k.last;
        stays = λ u r n. k.running u (λ e. n (sym e)) r;
      }

module _ (mask : ℕ) where
  -- the issues of one run, and a row of others behind them
  run_row : (p : List ℕ) (b : ℕ) (s : State) (rest : List Issue) → Fit mask s.machine
      → (Fit mask (reached p b s).machine → InTurns (is_enabled mask) (reached p b s).machine rest)
      → InTurns (is_enabled mask) s.machine (issues p b s ++ rest)
  unfolding issues
  run_row p zero s rest f k = subst (λ x. InTurns (is_enabled mask) x.machine rest) (reached-nothing p s) (k (rw (reached-nothing p s) f))
  run_row p (suc b) s rest f k =
      go (choice s.machine) refl (λ t. run_row p b (issued p s t) rest)
      (subst (λ x. Fit mask x.machine → InTurns (is_enabled mask) x.machine rest) (reached-one-more p s b) k)
    where
      go : (c : Choice) → choice s.machine ≡ c
          → ((t : ℕ) → Fit mask (issued p s t).machine
          → (Fit mask (reached p b (issued p s t)).machine → InTurns (is_enabled mask) (reached p b (issued p s t)).machine rest)
          → InTurns (is_enabled mask) (issued p s t).machine (issues p b (issued p s t) ++ rest))
          → (Fit mask (if_chosen c (λ t. reached p b (issued p s t)) s).machine
          → InTurns (is_enabled mask) (if_chosen c (λ t. reached p b (issued p s t)) s).machine rest)
          → InTurns (is_enabled mask) s.machine (if_chosen c (λ t. record { before = s; thread = t } ∷ issues p b (issued p s t)) [] ++ rest)
      go (Some x) h more k = ((issued p s x.thread).machine, turn mask p s f x.thread x.distance h, more x.thread (fit-issued mask p s f x.thread x.distance h) k)
      go None h more k = k f

  -- the issues of runs of which each has the record of the one before it
  runs-row : (rs : List Begun) (m : Machine) → Fit mask m → RecordHandedOn rs m → InTurns (is_enabled mask) m (issues_of rs)
  unfolding issues_of run_issues run_reached
  runs-row [] m f k = tt
  runs-row (r ∷ rs) m f k =
      rw (← k.0) (go (number p s) (λ m'. runs-row rs m') k.1)
    where
      p : List ℕ
      p = r.program

      b : ℕ
      b = r.budget

      s : State
      s = r.from

      g : Fit mask s.machine
      g = rw k.0 f

      go : (o : Option ℕ) → ((m' : Machine) → Fit mask m' → RecordHandedOn rs m' → InTurns (is_enabled mask) m' (issues_of rs))
          → RecordHandedOn rs (refused_or o (λ n. s) (reached p b s)).machine
          → InTurns (is_enabled mask) s.machine (refused_or o (λ n. []) (issues p b s) ++ issues_of rs)
      go none rest h = run_row p b s (issues_of rs) g (λ x. rest (reached p b s).machine x h)
      go (some n) rest h = rest s.machine g h

-- the turns in a row are fair
row-fair : (mask : ℕ) (m : Machine) (all : List Issue) → InTurns (is_enabled mask) m all → Fair all (count_threads (is_enabled mask))
row-fair mask m all row =
    let on = is_enabled mask in
    record {
      within = λ before i after e t h l.
          let r = row-after on m before (i ∷ after) (rw e at row) in
          within on r.0 i after r.1 t h l;
      share = λ before w after e t h.
          let r = row-after on m before (w ++ after) (rw e at row) in
          share on r.0 w (row-front on r.0 w after r.1) t h;
      even = λ before w after e t u h k.
          let r = row-after on m before (w ++ after) (rw e at row) in
          let q = row-front on r.0 w after r.1 in
          (even on r.0 w q t u h k, even on r.0 w q u t k h);
    }

pub turns-fair : TurnsFair
turns-fair rs m w k =
    row-fair m.enabled m (issues_of rs) (runs-row m.enabled rs m (record { mask-stays = refl; well-formed = w }) k)

-- the runs of a list of calls, of which each begins from the state reached
begun : List Call → State → List Begun
begun [] s = []
begun (c ∷ cs) s = record { program = c.program; budget = c.budget; from = s } ∷ begun cs (run_reached c.program c.budget s)

begun-handed : (calls : List Call) (s : State) → RecordHandedOn (begun calls s) s.machine
unfolding begun
begun-handed [] s = tt
begun-handed (c ∷ cs) s = (refl, begun-handed cs (run_reached c.program c.budget s))

begun-issues : (calls : List Call) (s : State) → issues_of (begun calls s) ≡ written calls s
unfolding begun issues_of written
begun-issues [] s = refl
begun-issues (c ∷ cs) s =
    ap (λ is. run_issues c.program c.budget s ++ is) (begun-issues cs (run_reached c.program c.budget s))

reports : (calls : List Call) (s : State) → Session calls s → Reports calls s
reports [] s k = tt
reports (c ∷ cs) s k =
    let r = runs-report c s k.0 in
    (r, reports cs (run_reached c.program c.budget s) (subst (Session cs) r.left k.1))

-- a number below 2 to the n has one of its n lowest bits set, unless it is 0
set-bit : (n mask : ℕ) → 1 ≤ mask → mask < 2 ^ n → (t : ℕ) × (t < n) × (bit mask t ≡ 1)
set-bit zero mask a b = absurd (omega (arith, pow-zero 2))
set-bit (suc n) mask a b = go (dec_lt mask (2 ^ n)) (set-bit n mask a)
  where
    go : Dec (mask < 2 ^ n) → (mask < 2 ^ n → (t : ℕ) × (t < n) × (bit mask t ≡ 1)) → (t : ℕ) × (t < suc n) × (bit mask t ≡ 1)
    go (yes l) rest = let r = rest l in (r.0, omega (arith, r.1), r.2)
    go (no l) rest =
        let low : 1 ≤ mask / 2 ^ n = (le-div_iff_mul-le (pow_pos n)).1 (omega arith) in
        let high : mask / 2 ^ n < 2 = (div-lt_iff_lt-mul (pow_pos n)).1 (omega (arith, pow-succ' 2 n)) in
        (n, omega arith, omega arith)

pub some-enabled : SomeEnabled
some-enabled m w =
    let r = ((tested limits m).0 w).mask-range in
    let b = set-bit 8 m.enabled r.0 (omega (arith, r.1)) in
    some-counted (is_enabled m.enabled) b.0 b.1 (eq-eqb _ _ b.2)

pub eight-at-most : EightAtMost
eight-at-most m = all-counted (is_enabled m.enabled)

pub demand : DemandHolds
demand calls s w session =
    record {
      reports = reports calls s session;
      turns = rw (begun-issues calls s) at (turns-fair (begun calls s) s.machine w (begun-handed calls s));
    }
