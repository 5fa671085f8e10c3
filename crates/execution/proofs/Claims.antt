-- The claims of specs/, proved.
use Rattle.std.proofs.Common.{◌≡◌, ℕ, ◌+◌, ◌/◌, Bool, true, false, cond, List, length, get_or, sym, refl, ap, ◌∙◌, arith, lt-ltb, eq-eqb, le-leb}
use Rattle.machine.proofs.Claims.{traps, ends, meets, counts-apart}
use Rattle.machine.proofs.Arrivals.{arrives-untrapped}
use Rattle.machine.proofs.Kept.{set_same, set_other, running-entry}
use Rattle.machine.proofs.Tests.{never}
use Rattle.machine.specs.Barrier.{refuses_barrier, arrive, reach_barrier}
use Rattle.machine.specs.Claims.{KeepsRecord}
use Rattle.machine.specs.Machine.{status_at, turns_of, with_turns, trap}
use Rattle.machine.specs.Scheduler.{runs}
use Rattle.thread_entry.specs.Status.{is_running}
use Rattle.execution.specs.Effect.{Fate, Stays, Traps, Ends, ReachesBarrier, Executed}
use Rattle.execution.proofs.Effects.{Reasoned, UnlessGoesOn, executes-word}
use Rattle.execution.proofs.OwnRegisters.{Own, own-none, own-then, own-scalar, own-others}
use Rattle.execution.specs.Claims.{Performs, Lengths, Issues, Untouched, Uncounted, Recounts, TrapsOnly, TrapsAlone, OthersKeepRegisters}
use Rattle.execution.specs.Issue.{
  context_of,
  execute_at,
  after_barrier,
  settle,
  settled,
  sets_status,
  fits,
  perform,
  perform_sets_status,
  issue,
  issue_sets_status,
}
use Rattle.execution.specs.Jump.{in_program}
use Rattle.execution.specs.Registers.{program_counter}
use Rattle.machine.specs.State.{State, state, recounted, program_counter_register}
use Rattle.execution.specs.Types.{Context, Machine, BarrierResult, Ended, Trapped}

-- what an issue makes of a state
record Lawful-issue (s : State) (t : ℕ) (n : State) : Type 0 where
  sound : KeepsRecord s.machine t n.machine
  uncounted : turns_of n.machine ≡ turns_of s.machine
  own : Own t s.registers n.registers
  bytes : length n.memory ≡ length s.memory
  traps-only : (reason : ℕ) → runs s.machine t ≡ true → status_at n.machine t ≡ Trapped reason → TrapsOnly s t n

meeting-own : (c : Context) (regs : List ℕ) (met : BarrierResult) → Own c.thread regs (after_barrier c regs met)
meeting-own c regs met = go met.trapped
  where
    go : (b : Bool) → Own c.thread regs (after_barrier c regs (record { trapped = b; machine = met.machine }))
    go true = own-none c.thread regs
    go false = own-scalar c.thread regs program_counter_register (c.pc + 4) (omega arith)

module _ (s : State) (c : Context) where
  -- a trap that changed neither registers nor memory
  trapped-only : {regs memory : List ℕ} → regs ≡ s.registers → memory ≡ s.memory → (reason : ℕ)
      → TrapsOnly s c.thread (state (trap s.machine c.thread reason) regs memory)
  trapped-only u v reason =
      record {
        registers = u;
        memory = v;
        enabled = refl;
        last = refl;
        turns = counts-apart.set-stays s.machine c.thread (Trapped reason);
        others = set_other s.machine c.thread (Trapped reason);
      }

  -- only a trap leaves the thread trapped
  settled-trap : (e : Fate) (regs memory : List ℕ) → UnlessGoesOn e (regs ≡ s.registers) → UnlessGoesOn e (memory ≡ s.memory) → (reason : ℕ)
      → runs s.machine c.thread ≡ true → status_at (settle s.machine c regs memory e).machine c.thread ≡ Trapped reason
      → TrapsOnly s c.thread (settle s.machine c regs memory e)
  unfolding reach_barrier
  settled-trap Stays regs memory u v reason r h = never r (ap is_running h)
  settled-trap (Traps q) regs memory u v reason r h =
      trapped-only u v q
  settled-trap Ends regs memory u v reason r h =
      let e : Ended ≡ Trapped reason = sym (set_same s.machine c.thread Ended (running-entry s.machine c.thread r)) ∙ h in
      absurd (let z : ◌≡◌ {A = ℕ} 0 1 = cc in omega arith)
  settled-trap (ReachesBarrier id second) regs memory u v reason r h = go (refuses_barrier s.machine c.thread id second) h
    where
      met : Bool → BarrierResult
      met b =
          cond b
          (record { trapped = true; machine = trap s.machine c.thread 5 })
          (record { trapped = false; machine = arrive s.machine c.thread id (second + 1) })

      go : (b : Bool) → status_at (met b).machine c.thread ≡ Trapped reason → TrapsOnly s c.thread (state (met b).machine (after_barrier c regs (met b)) memory)
      go true k = trapped-only u v 5
      go false k = absurd (arrives-untrapped s.machine c.thread id (second + 1) reason (running-entry s.machine c.thread r) k)

  settles : (e : Fate) (regs memory : List ℕ) → Reasoned e → Own c.thread s.registers regs → length memory ≡ length s.memory
      → UnlessGoesOn e (regs ≡ s.registers) → UnlessGoesOn e (memory ≡ s.memory) → Lawful-issue s c.thread (settle s.machine c regs memory e)
  settles Stays regs memory h k l u v =
      record {
        sound = record { enabled = refl; last = refl; running = λ x n r. r; well-formed = λ w r. w };
        uncounted = refl;
        own = k;
        bytes = l;
        traps-only = settled-trap Stays regs memory u v;
      }
  settles (Traps reason) regs memory h k l u v =
      record {
        sound = traps s.machine c.thread reason h.0 h.1;
        uncounted = counts-apart.set-stays s.machine c.thread (Trapped reason);
        own = k;
        bytes = l;
        traps-only = settled-trap (Traps reason) regs memory u v;
      }
  settles Ends regs memory h k l u v =
      record {
        sound = ends s.machine c.thread;
        uncounted = counts-apart.set-stays s.machine c.thread Ended;
        own = k;
        bytes = l;
        traps-only = settled-trap Ends regs memory u v;
      }
  settles (ReachesBarrier id second) regs memory h k l u v =
      record {
        sound = meets s.machine c.thread id second;
        uncounted = counts-apart.met-stays s.machine c.thread id second;
        own = own-then k (meeting-own c regs (reach_barrier s.machine c.thread id second));
        bytes = l;
        traps-only = settled-trap (ReachesBarrier id second) regs memory u v;
      }

  either : (b : Bool) (x y : State) → Lawful-issue s c.thread x → Lawful-issue s c.thread y → Lawful-issue s c.thread (cond b x y)
  either true x y h k = h
  either false x y h k = k

lawful : (p : List ℕ) (s : State) (t turns : ℕ) → Lawful-issue s t (perform p s t turns)
unfolding perform
lawful p s t turns =
    let c = context_of p s t turns in
    let x = execute_at p s c in
    let h = executes-word c s.registers s.memory (get_or p (c.pc / 4) 0) in
    either s c (in_program c.words c.pc) (settled s.machine c x) _
    (settles s c x.effect x.registers x.memory h.reasoned h.own h.bytes h.unchanged h.unstored)
    (settles s c (Traps 4) s.registers s.memory (omega arith, omega arith) (own-none t s.registers) refl refl refl)

pub performs : Performs
performs p s t turns = (lawful p s t turns).sound

pub uncounted : Uncounted
uncounted p s t turns = (lawful p s t turns).uncounted

pub lengths : Lengths
lengths = record { of-registers = λ p s t turns. (lawful p s t turns).own.size; of-memory = λ p s t turns. (lawful p s t turns).bytes }

pub traps-alone : TrapsAlone
traps-alone p s t turns reason r h = (lawful p s t turns).traps-only reason r h

pub others-keep-registers : OthersKeepRegisters
others-keep-registers p s t turns u a b n = own-others t u s.registers (perform p s t turns).registers a b n (lawful p s t turns).own

pub issues : Issues
unfolding issue
issues p s t turns a b c = rw (le-leb _ _ a, eq-eqb _ _ b, lt-ltb _ _ c)

-- Counts that the record holds.

-- a state by a test, with other counts
recount-either : (b : Bool) (x y : State) (others : List ℕ) → cond b (recounted x others) (recounted y others) ≡ recounted (cond b x y) others
recount-either true x y others = refl
recount-either false x y others = refl

module _ (m : Machine) (others : List ℕ) (c : Context) (regs memory : List ℕ) where
  abbrev with-status : Machine → State
  with-status n = state n regs memory

  recount-settle : (e : Fate) → settle (with_turns m others) c regs memory e ≡ recounted (settle m c regs memory e) others
  recount-settle Stays = refl
  recount-settle (Traps reason) = ap with-status (counts-apart.set-status m others c.thread (Trapped reason))
  recount-settle Ends = ap with-status (counts-apart.set-status m others c.thread Ended)
  recount-settle (ReachesBarrier id second) =
      ap (λ (r : BarrierResult). state r.machine (after_barrier c regs r) memory) (counts-apart.met m others c.thread id second)

pub recounts : Recounts
unfolding perform
recounts p s others t turns =
    let c = context_of p s t turns in
    let x = execute_at p s c in
    let ends-outside = recount-settle s.machine others c s.registers s.memory (Traps 4) in
    let ends-settled = recount-settle s.machine others c x.registers x.memory x.effect in
    (λ i. cond (in_program c.words c.pc) (ends-settled i) (ends-outside i))
    ∙ recount-either (in_program c.words c.pc) (settled s.machine c x) (state (trap s.machine t 4) s.registers s.memory) others

settle-untouched : (s : State) (c : Context) (regs memory : List ℕ) (e : Fate) → sets_status e ≡ false →
    (settle s.machine c regs memory e).machine ≡ s.machine
settle-untouched s c regs memory Stays h = refl
settle-untouched s c regs memory (Traps reason) h = never refl h
settle-untouched s c regs memory Ends h = never refl h
settle-untouched s c regs memory (ReachesBarrier id second) h = never refl h

pub untouched : Untouched
unfolding issue issue_sets_status perform perform_sets_status
untouched p s t turns h = go (fits (length p) (length s.registers) t) (in_program (length p) (program_counter s.registers t)) h
  where
    c : Context
    c = context_of p s t turns

    x : Executed
    x = execute_at p s c

    go : (f i : Bool) → cond f (cond i (sets_status x.effect) true) false ≡ false →
        (cond f (cond i (settled s.machine c x) (state (trap s.machine t 4) s.registers s.memory)) s).machine ≡ s.machine
    go true true k = settle-untouched s c x.registers x.memory x.effect k
    go true false k = never refl k
    go false i k = refl
