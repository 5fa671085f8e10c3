-- Turns of a minute and of a night, from what the interpreter promises of runs.
use Prim.Native.Nat.{ℕ, ◌/◌, ◌≤◌}
use mathlib.Core.Bool.{true}
use mathlib.Core.List.{List, [], ◌∷◌, ◌++◌}
use mathlib.Core.Option.{Option, none, some}
use mathlib.Core.Path.{◌≡◌, refl, ap, subst, ◌∙◌}
use native.Mathlib.Nat.{le-div_iff_mul-le}
use native.Mathlib.Omega.{arith}
use lib.ListN.{length}
use Rattle.answer.specs.Answer.{refused}
use Rattle.answer.specs.Refusal.{refused_or}
use Rattle.machine.specs.State.{State}
use Rattle.machine.specs.WellFormed.{well_formed}
use Rattle.interpreter.proofs.Claims.{taken-well-formed, some-enabled, eight-at-most, turns-fair, issues-in-order}
use Rattle.interpreter.specs.Claims.{Begun, RecordHandedOn, issues_of}
use Rattle.interpreter.specs.Demand.{Issue, RunningBeforeEach, made, enabled_threads}
use Rattle.interpreter.specs.Run.{run_issues}
use Rattle.night.specs.Claims.{EnoughTurns, Call, Night, night_issues, Reports, NightFair}
use Rattle.night.specs.Refusal.{tick_number}
use Rattle.night.specs.Tick.{Outcome, issues_per_minute, run_from, run_to, accepted, tick, tick_issues}
use Rattle.night.specs.Types.{Kept}
use Rattle.night.proofs.Refusals.{tick-taken}

-- an eighth of 4,096, and more where fewer threads are enabled
at_least : (e n : ℕ) → 1 ≤ e → e ≤ 8 → n ≡ issues_per_minute → 512 ≤ n / e
at_least e n low high h = (le-div_iff_mul-le low).1 (omega arith)

-- the issues of one run, with none behind them
run_alone : (r : Begun) → issues_of (r ∷ []) ≡ [] ++ (run_issues r.program r.budget r.from ++ [])
run_alone r =
    issues-in-order.first r [] ∙ ap (λ is. run_issues r.program r.budget r.from ++ is) issues-in-order.empty

-- by the share of turns that demand 3 has, of one run
run-turns : (p : List ℕ) (s : State) → well_formed s.machine ≡ true → length (run_issues p issues_per_minute s) ≡ issues_per_minute
    → (t : ℕ) → RunningBeforeEach t (run_issues p issues_per_minute s) → 512 ≤ made t (run_issues p issues_per_minute s)
run-turns p s w h t k =
    let r : Begun = record { program = p; budget = issues_per_minute; from = s } in
    let e = enabled_threads s.machine in
    let fair = turns-fair (r ∷ []) s.machine w (refl, tt) in
    let a = fair.share [] (run_issues p issues_per_minute s) [] (run_alone r) t k in
    let b = at_least e (length (run_issues p issues_per_minute s)) (some-enabled s.machine w) (eight-at-most s.machine) h in
    omega arith

pub enough_turns : EnoughTurns
unfolding tick_issues run_from
enough_turns p s kept minute marked h t k = go (tick_number p s kept minute) refl h k
  where
    row : List Issue
    row = run_issues p issues_per_minute (run_from s kept minute marked)

    go : (o : Option ℕ) → tick_number p s kept minute ≡ o → length (refused_or o (λ n. []) row) ≡ issues_per_minute
        → RunningBeforeEach t (refused_or o (λ n. []) row) → 512 ≤ made t (refused_or o (λ n. []) row)
    go none e h k = run-turns p (run_from s kept minute marked) (taken-well-formed p s (tick-taken p s kept minute e).run) h t k
    go (some n) e h k = absurd (omega arith)

-- The runs of a night: a call that is refused makes none.

run_of : Call → State → Kept → Begun
run_of c s kept = record { program = c.program; budget = issues_per_minute; from = run_from s kept c.minute c.marked }

runs_of : List Call → State → Kept → List Begun
runs_of [] s kept = []
runs_of (c ∷ cs) s kept =
    let next = tick c.program s kept c.minute c.marked in
    refused_or (tick_number c.program s kept c.minute) (λ n. []) (run_of c s kept ∷ []) ++ runs_of cs next.left next.kept

-- what a call hands back and leaves, by its number
leaves : Option ℕ → Call → State → Kept → Outcome
leaves o c s kept =
    refused_or o (λ n. record { answer = refused n; kept = kept; left = s }) (accepted c.program s kept c.minute c.marked)

runs-issues : (calls : List Call) (s : State) (kept : Kept) → issues_of (runs_of calls s kept) ≡ night_issues calls s kept
unfolding runs_of run_of leaves night_issues tick tick_issues
runs-issues [] s kept = issues-in-order.empty
runs-issues (c ∷ cs) s kept = go (tick_number c.program s kept c.minute) (runs-issues cs)
  where
    row : List Issue
    row = run_issues c.program issues_per_minute (run_from s kept c.minute c.marked)

    go : (o : Option ℕ) → ((s' : State) (kept' : Kept) → issues_of (runs_of cs s' kept') ≡ night_issues cs s' kept')
        → issues_of (refused_or o (λ n. []) (run_of c s kept ∷ []) ++ runs_of cs (leaves o c s kept).left (leaves o c s kept).kept)
        ≡ refused_or o (λ n. []) row ++ night_issues cs (leaves o c s kept).left (leaves o c s kept).kept
    go none rest =
        let next = leaves none c s kept in
        issues-in-order.first (run_of c s kept) (runs_of cs next.left next.kept)
        ∙ ap (λ is. row ++ is) (rest next.left next.kept)
    go (some n) rest = rest s kept

runs-handed : (calls : List Call) (s : State) (kept : Kept) → RecordHandedOn (runs_of calls s kept) s.machine
unfolding runs_of run_of leaves tick accepted run_to run_from
runs-handed [] s kept = tt
runs-handed (c ∷ cs) s kept = go (tick_number c.program s kept c.minute) (runs-handed cs)
  where
    go : (o : Option ℕ) → ((s' : State) (kept' : Kept) → RecordHandedOn (runs_of cs s' kept') s'.machine)
        → RecordHandedOn
        (refused_or o (λ n. []) (run_of c s kept ∷ []) ++ runs_of cs (leaves o c s kept).left (leaves o c s kept).kept) s.machine
    go none rest = (refl, rest (leaves none c s kept).left (leaves none c s kept).kept)
    go (some n) rest = rest s kept

night-reports : (calls : List Call) (s : State) (kept : Kept) → Night calls s kept → Reports calls s kept
night-reports [] s kept h = tt
night-reports (c ∷ cs) s kept h =
    let next = tick c.program s kept c.minute c.marked in
    (h.0, night-reports cs next.left next.kept (subst (λ (o : Outcome). Night cs o.left o.kept) h.0 h.1))

pub night-fair : NightFair
night-fair calls s kept w h =
    record {
      reports = night-reports calls s kept h;
      turns = rw (runs-issues calls s kept) at (turns-fair (runs_of calls s kept) s.machine w (runs-handed calls s kept));
    }
