-- Laws of a run's issues, one at a time.
use Prim.Native.Nat.{ℕ, zero, suc, ◌+◌, ◌-◌, ◌/◌, ◌%◌, ◌<◌, ◌≤◌}
use mathlib.Core.Bool.{Bool, true, false, cond}
use mathlib.Core.List.{List, [], ◌∷◌}
use mathlib.Core.Path.{◌≡◌, refl, sym, ap, subst, ◌∙◌}
use native.Mathlib.Omega.{arith}
use lib.ListN.{length, get_or, set}
use Rattle.answer.specs.Answer.{given}
use Rattle.execution.proofs.Claims.{performs, untouched, recounts, issues as execution-issues}
use Rattle.execution.specs.Issue.{perform, issue, issue_sets_status}
use Rattle.thread_entry.specs.Entry.{one_more_turn, many_more}
use Rattle.machine.specs.Machine.{with_turns, turns_at}
use Rattle.machine.specs.Rounds.{after_rounds}
use Rattle.machine.specs.State.{State, state, counted_in, recounted}
use Rattle.machine.proofs.Claims.{chooses, issues as machine-issues, counts-kept, counts-unseen, counting, rounds-counted}
use Rattle.machine.proofs.Kept.{running-entry}
use Rattle.machine.specs.Claims.{KeepsRecord}
use Rattle.std.specs.Prelude.{Some, None}
use Rattle.machine.specs.Scheduler.{some_chosen, Choice, choice, with_last}
use Rattle.machine.specs.WellFormed.{well_formed}
use Rattle.interpreter.specs.Answer.{stopped, stuck, spent, ending_of}
use Rattle.interpreter.specs.Choosing.{if_chosen, performed, issued, issues, reached_by, reached, idle_ending, ending_at, entries_to, look, looks_for}
use Rattle.interpreter.specs.Run.{accepted_run}
use Rattle.interpreter.specs.Stretch.{Carried, Along, Awaits, Over, last_look, Stretched}
use Rattle.interpreter.specs.Types.{Machine, Stop, Spent, Stretch}

-- the thread chosen is one of the eight
pub chosen-thread : (m : Machine) (t d : ℕ) → choice m ≡ some_chosen t d → t < 8
chosen-thread m t d h = let f = (chooses m t d).0 h in omega (arith, f.place)

-- where no thread is running, none is chosen
pub none-chosen : (c : Choice) (t d : ℕ) → c ≡ None → c ≡ some_chosen t d → ⊥
none-chosen c t d a b = let z : ◌≡◌ {A = ℕ} 0 1 = ap (λ (x : Choice). if_chosen x (λ t. 1) 0) (sym a ∙ b) in omega arith

-- the counts after an issue of a thread
abbrev pub raised : List ℕ → ℕ → List ℕ
raised turns t = set turns t (one_more_turn (get_or turns t 0))

-- the counts stand beside the record: it is the same thread that is chosen
pub chosen-beside : (s : State) (turns : List ℕ) {c : Choice} → choice s.machine ≡ c → choice (recounted s turns).machine ≡ c
chosen-beside s turns h = counts-unseen.choices s.machine turns ∙ h

-- and the call that performs its issue, on the record with which it is issued and told its count, makes the rules' issue of it
pub issue-performed : (p : List ℕ) (s : State) (turns : List ℕ) (t d : ℕ) (m : Machine) → length p ≤ 16384 → length s.registers ≡ 8704
    → length turns ≡ 8 → choice s.machine ≡ some_chosen t d → m ≡ with_last s.machine t
    → recounted (issue p (state m s.registers s.memory) t (get_or turns t 0)) (raised turns t) ≡ issued p (recounted s turns) t
unfolding issued
issue-performed p s turns t d m words regs size h e =
    let l = chosen-thread s.machine t d h in
    let from = state (with_last s.machine t) s.registers s.memory in
    let had = counts-kept.put-at s.machine turns t (running-entry s.machine t ((chooses s.machine t d).0 h).running) in
    ap (λ x. recounted (issue p (state x s.registers s.memory) t (get_or turns t 0)) (raised turns t)) e
    ∙ ap (λ (n : State). recounted n (raised turns t)) (execution-issues p from t (get_or turns t 0) words regs l)
    ∙ ap (λ m. state m (perform p from t (get_or turns t 0)).registers (perform p from t (get_or turns t 0)).memory)
    (sym (counts-kept.one_more (perform p from t (get_or turns t 0)).machine turns t (omega (arith, size))))
    ∙ ap (λ n. counted_in n t) (sym (recounts p from turns t (get_or turns t 0)))
    ∙ ap (λ n. counted_in (perform p (recounted from turns) t n) t) (sym had)

-- an issue that sets no status comes to the record on which the thread was issued
pub issue-untouched : (p : List ℕ) (s after : State) (t turns : ℕ) → after ≡ issue p s t turns → (changed : Bool)
    → changed ≡ issue_sets_status p s t turns → changed ≡ false → state s.machine after.registers after.memory ≡ issue p s t turns
issue-untouched p s after t turns e changed k h =
    let same : after.machine ≡ s.machine = ap (λ (n : State). n.machine) e ∙ untouched p s t turns (sym k ∙ h) in
    ap (λ (m : Machine). state m after.registers after.memory) (sym same) ∙ e

-- an issue leaves "last"
pub issue-last : (p : List ℕ) (s after : State) (t turns : ℕ) → length p ≤ 16384 → length s.registers ≡ 8704 → t < 8
    → after ≡ issue p s t turns → after.machine.last ≡ s.machine.last
issue-last p s after t turns words regs l e =
    ap (λ (n : State). n.machine.last) (e ∙ execution-issues p s t turns words regs l) ∙ (performs p s t turns).last

-- what an issue makes of the record
pub issued-sound : (p : List ℕ) (s : State) (t : ℕ) → KeepsRecord (with_last s.machine t) t (issued p s t).machine
unfolding issued
issued-sound p s t =
    let from = state (with_last s.machine t) s.registers s.memory in
    counting.keeps (with_last s.machine t) (performed p s t).machine t (performs p from t (turns_at s.machine t))

pub issued-well-formed : (p : List ℕ) (s : State) (t d : ℕ) → choice s.machine ≡ some_chosen t d → well_formed s.machine ≡ true
    → well_formed (issued p s t).machine ≡ true
issued-well-formed p s t d h w =
    (issued-sound p s t).well-formed (machine-issues s.machine t (chosen-thread s.machine t d h) w) ((chooses s.machine t d).0 h).running

module _ (p : List ℕ) (s : State) where
  -- the state reached, one issue after the other
  pub reached-nothing : reached p 0 s ≡ s
  unfolding reached issues reached_by
  reached-nothing = refl

  pub reached-one-more : (b : ℕ) → reached p (suc b) s ≡ if_chosen (choice s.machine) (λ t. reached p b (issued p s t)) s
  unfolding reached issues reached_by
  reached-one-more b = go (choice s.machine)
    where
      go : (c : Choice) → reached_by p s (if_chosen c (λ t. record { before = s; thread = t } ∷ issues p b (issued p s t)) [])
          ≡ if_chosen c (λ t. reached_by p (issued p s t) (issues p b (issued p s t))) s
      go (Some x) = refl
      go None = refl

  -- where no thread is running, nothing is issued
  module _ (h : choice s.machine ≡ None) where
    pub reached-none : (b : ℕ) → reached p b s ≡ s
    reached-none zero = reached-nothing
    reached-none (suc b) = rw (reached-one-more b, h)

    pub issues-none : (b : ℕ) → issues p b s ≡ []
    unfolding issues
    issues-none zero = refl
    issues-none (suc b) = rw h

    pub ending-none : ending_at s ≡ idle_ending s.machine
    unfolding ending_at
    ending-none = rw h

    pub look_none : look s ≡ 8
    unfolding look
    look_none = ap entries_to h

  -- else the thread chosen is, if anything is left of the budget
  module _ (t d : ℕ) (h : choice s.machine ≡ some_chosen t d) where
    pub reached-step : (b : ℕ) → reached p (suc b) s ≡ reached p b (issued p s t)
    reached-step b = rw (reached-one-more b, h)

    pub issues-step : (b : ℕ) → issues p (suc b) s ≡ record { before = s; thread = t } ∷ issues p b (issued p s t)
    unfolding issues
    issues-step b = rw h

    pub ending-some : ending_at s ≡ spent
    unfolding ending_at
    ending-some = rw h

    pub look-some : look s ≡ d
    unfolding look
    look-some = ap entries_to h

    pub looks-step : (b : ℕ) → looks_for (issues p (suc b) s) ≡ d + looks_for (issues p b (issued p s t))
    unfolding looks_for
    looks-step b = ap looks_for (issues-step b) ∙ ap (λ n. n + looks_for (issues p b (issued p s t))) look-some

pub carried-start : (p : List ℕ) (b : ℕ) (s : State) → Carried p b s 0 0 s
carried-start p b s =
    let e : b - 0 ≡ b = omega arith in
    record { state = rw e; count = rw e (omega arith); looks = rw e (omega arith) }

module _ (p : List ℕ) (b : ℕ) (first : State) (made looked : ℕ) (s : State) (k : Carried p b first made looked s) where
  -- one issue more
  pub carried_step : (t d : ℕ) → choice s.machine ≡ some_chosen t d → made < b → Carried p b first (made + 1) (looked + d) (issued p s t)
  carried_step t d h l =
      let e : b - made ≡ suc (b - (made + 1)) = omega arith in
      let f : reached p (b - made) s ≡ reached p (b - (made + 1)) (issued p s t) = rw e (reached-step p s t d h (b - (made + 1))) in
      let g : length (issues p (b - made) s) ≡ suc (length (issues p (b - (made + 1)) (issued p s t))) = rw e (ap length (issues-step p s t d h (b - (made + 1)))) in
      let i : looks_for (issues p (b - made) s) ≡ d + looks_for (issues p (b - (made + 1)) (issued p s t)) =
      rw e (looks-step p s t d h (b - (made + 1))) in
      record { state = k.state ∙ f; count = omega (arith, k.count, g); looks = omega (arith, k.looks, i) }

  -- and more of them, from there with what is left of the budget
  carried_on : (more further : ℕ) (t : State) → Carried p (b - made) s more further t → Carried p b first (made + more) (looked + further) t
  carried_on more further t j =
      let e : b - made - more ≡ b - (made + more) = omega arith in
      record {
        state = k.state ∙ j.state ∙ ap (λ n. reached p n t) e;
        count = rw (← e) (omega (arith, k.count, j.count));
        looks = rw (← e) (omega (arith, k.looks, j.looks));
      }

-- the same by what is left of the budget
pub carried-further : (p : List ℕ) (b : ℕ) (first : State) (left looked : ℕ) (s : State) → Carried p b first (b - left) looked s → left ≤ b
    → (rest further : ℕ) (t : State) → Carried p left s (left - rest) further t → rest ≤ left → Carried p b first (b - rest) (looked + further) t
carried-further p b first left looked s k l rest further t j m =
    let e : left ≡ b - (b - left) = omega arith in
    let f : b - left + (left - rest) ≡ b - rest = omega arith in
    subst (λ n. Carried p b first n (looked + further) t) f
    (carried_on p b first (b - left) looked s k (left - rest) further t (subst (λ n. Carried p n s (left - rest) further t) e j))

-- the same of the call that performs it, on the record m with which the thread chosen is issued, with the counts beside it
pub carried-issue : (p : List ℕ) (b : ℕ) (first : State) (made looked : ℕ) (s : State) (turns : List ℕ)
    → Carried p b first made looked (recounted s turns)
    → (t d : ℕ) (m : Machine) (after : State) → length p ≤ 16384 → length s.registers ≡ 8704 → length turns ≡ 8
    → choice s.machine ≡ some_chosen t d → m ≡ with_last s.machine t → made < b
    → after ≡ issue p (state m s.registers s.memory) t (get_or turns t 0) → Carried p b first (made + 1) (looked + d) (recounted after (raised turns t))
carried-issue p b first made looked s turns k t d m after words regs size h e l i =
    rw (ap (λ (n : State). recounted n (raised turns t)) i ∙ issue-performed p s turns t d m words regs size h e)
    (carried_step p b first made looked (recounted s turns) k t d (chosen-beside s turns h) l)

-- where "last" has passed so many entries since the record m, and the counts are those of m and of the rounds since
part : (a b : ℕ) → (a % 8 + b) % 8 ≡ (a + b) % 8
part a b = omega arith

again : (n : ℕ) → n % 8 % 8 ≡ n % 8
again n = omega arith

round : (first passed last t d : ℕ) → last % 8 ≡ (first + passed) % 8 → t ≡ (last + d) % 8 → t % 8 ≡ (first + (passed + d)) % 8
round first passed last t d e place =
    let sum : first + passed + d ≡ first + (passed + d) = omega arith in
    ap (λ n. n % 8) place ∙ again (last + d) ∙ sym (part last d) ∙ ap (λ n. (n + d) % 8) e ∙ part (first + passed) d ∙ ap (λ n. n % 8) sum

module _ (p : List ℕ) (b : ℕ) (first : State) (m : Machine) (turns : List ℕ) (left passed last : ℕ) (registers memory : List ℕ)
    (words : length p ≤ 16384) (regs : length registers ≡ 8704) (size : length turns ≡ 8)
    (there : last % 8 ≡ (m.last + passed) % 8) (t d : ℕ) (h : choice (with_last m last) ≡ some_chosen t d) where
  pub passed_on : t % 8 ≡ (m.last + (passed + d)) % 8
  passed_on = round m.last passed last t d there ((chooses (with_last m last) t d).0 h).place

  pub carried-round : Carried p b first (b - left) passed (recounted (state (with_last m last) registers memory) (after_rounds m passed turns))
      → (next : Machine) → next ≡ with_last m t → left ≤ b → 0 < left
      → (after : State) → after ≡ issue p (state next registers memory) t (many_more ((passed + d - 1) / 8) (get_or turns t 0))
      → Carried p b first (b - (left - 1)) (passed + d) (recounted after (after_rounds m (passed + d) turns))
  carried-round k next e within some after i =
      let counts = after_rounds m passed turns in
      let had = rounds-counted.had m turns passed last t d size there h in
      let made : b - left + 1 ≡ b - (left - 1) = omega arith in
      let one = rounds-counted.one_more m turns passed last t d size there h in
      subst (λ n. Carried p b first n (passed + d) (recounted after (after_rounds m (passed + d) turns))) made
      (rw one
      (carried-issue p b first (b - left) passed (state (with_last m last) registers memory) counts k t d next after words regs
      (rounds-counted.size m passed turns ∙ size) h e (omega arith) (i ∙ ap (issue p (state next registers memory) t) (sym had))))

-- the same of a stretch that is under way: one issue more that sets no status, and one that was chosen before
module _ (p : List ℕ) (b : ℕ) (first : State) (m : Machine) (turns registers memory : List ℕ)
    (words : length p ≤ 16384) (regs : length registers ≡ 8704) (size : length turns ≡ 8) where
  pub along-step : (left passed last t d : ℕ) → Along p b first m turns left passed last registers memory → choice (with_last m last) ≡ some_chosen t d
      → 0 < left → (after stored : List ℕ)
      → state (with_last m t) after stored ≡ issue p (state (with_last m t) registers memory) t (many_more ((passed + d - 1) / 8) (get_or turns t 0))
      → Along p b first m turns (left - 1) (passed + d) t after stored
  along-step left passed last t d k h some after stored i =
      record {
        within = omega (arith, k.within);
        there = passed_on p b first m turns left passed last registers memory words regs size k.there t d h;
        carried =
            carried-round p b first m turns left passed last registers memory words regs size k.there t d h k.carried (with_last m t) refl
            k.within some (state (with_last m t) after stored) i;
      }

  module _ (left passed t : ℕ) (k : Awaits p b first m turns left passed t registers memory) where
    one-back : left + 1 - 1 ≡ left
    one-back = omega arith

    pub awaited-made : (after : State)
        → after ≡ issue p (state (with_last m t) registers memory) t (many_more ((passed - 1) / 8) (get_or turns t 0))
        → Carried p b first (b - left) passed (recounted after (after_rounds m passed turns))
    awaited-made after i =
        subst (λ n. Carried p b first (b - n) passed (recounted after (after_rounds m passed turns))) one-back
        (subst (λ n. Carried p b first (b - (left + 1 - 1)) n (recounted after (after_rounds m n turns))) (sym k.sum)
        (carried-round p b first m turns (left + 1) k.until k.before registers memory words regs size k.along.there t k.distance k.chosen
        k.along.carried (with_last m t) refl k.along.within (omega arith) after
        (i ∙ ap (λ n. issue p (state (with_last m t) registers memory) t (many_more ((n - 1) / 8) (get_or turns t 0))) k.sum)))

    pub awaited-on : (after stored : List ℕ)
        → state (with_last m t) after stored ≡ issue p (state (with_last m t) registers memory) t (many_more ((passed - 1) / 8) (get_or turns t 0))
        → Along p b first m turns left passed t after stored
    awaited-on after stored i =
        record {
          within = omega (arith, k.along.within);
          there =
              passed_on p b first m turns (left + 1) k.until k.before registers memory words regs size k.along.there t k.distance k.chosen
              ∙ ap (λ n. (m.last + n) % 8) (sym k.sum);
          carried = awaited-made (state (with_last m t) after stored) i;
        }

    pub awaited-some : 0 < passed
    awaited-some = let f = (chooses (with_last m k.before) t k.distance).0 k.chosen in omega (arith, k.sum, f.low)

-- the looks of a stretch, after which the run goes on or is over
module _ (p : List ℕ) (b : ℕ) (first : State) (r : Stretch) (s : State) (k : Stretched p b first r s) where
  pub goes_on : r.stop ≡ None → r.looks ≡ r.passed
  goes_on h = k.looks ∙ ap (λ x. r.passed + last_look x (look s)) h ∙ omega arith

  pub looks-over : (stop : Stop) → r.stop ≡ Some stop → r.looks ≡ r.passed + look s
  looks-over stop h = k.looks ∙ ap (λ x. r.passed + last_look x (look s)) h

-- what the run answers, where it ends with so many issues left in its budget
pub ends : (p : List ℕ) (b : ℕ) (first : State) (left looked : ℕ) (s : State) → Carried p b first (b - left) looked s → left ≤ b
    → (stop : Stop) → Over p left s stop → (looks : ℕ) → looks ≡ looked + look s
    → record { answer = given (ending_of stop); issues = b - left; looks = looks; left = s } ≡ accepted_run p b first
unfolding accepted_run looks_for
ends p b first left looked s k l stop o looks e =
    let d : b - (b - left) ≡ left = omega arith in
    let none : issues p (b - (b - left)) s ≡ [] = ap (λ n. issues p n s) d ∙ o.none in
    let f : reached p b first ≡ s = k.state ∙ ap (λ n. reached p n s) d ∙ o.stays in
    let g : length (issues p b first) ≡ b - left = omega (arith, k.count, ap length none) in
    let h : looks_for (issues p b first) + look s ≡ looks = omega (arith, k.looks, ap looks_for none, e) in
    rw (f, g, h, o.ending)

-- no thread is running
pub over-idle : (p : List ℕ) (left : ℕ) (s : State) → (stop : Stop) → choice s.machine ≡ None → ending_of stop ≡ idle_ending s.machine → Over p left s stop
over-idle p left s stop h e =
    record { stays = reached-none p s h left; none = issues-none p s h left; ending = ending-none p s h ∙ sym e }

-- which goes by no counts
pub idle-beside : (m : Machine) (turns : List ℕ) → idle_ending (with_turns m turns) ≡ idle_ending m
unfolding idle_ending
idle-beside m turns = ap (λ b. cond b stuck stopped) (counts-unseen.waits m turns)

-- a thread is running, and nothing is left of the budget
pub over-spent : (p : List ℕ) (left : ℕ) (s : State) (t d : ℕ) → choice s.machine ≡ some_chosen t d → left ≡ 0 → Over p left s Spent
unfolding issues
over-spent p left s t d h e = record { stays = rw e (reached-nothing p s); none = rw e; ending = ending-some p s t d h }
