-- What an instruction gives and leaves: a trap has a reason of 1 to 6 and changes nothing, no other thread's registers change, and no
-- length does.
use Rattle.std.proofs.Common.{◌≡◌, ℕ, ◌+◌, ◌-◌, ◌%◌, ◌^◌, ◌<◌, ◌≤◌, Bool, true, false, cond, not, eqb, leb, List, length, refl, arith}
use mathlib.Core.Option.{Option, none, some}
use Rattle.answer.specs.Answer.{Answer, given, refused, undefined}
use Rattle.isa.proofs.Ranges.{in-range}
use Rattle.isa.specs.Claims.{Ranged, InRange}
use Rattle.isa.specs.Read.{read}
use Rattle.machine.specs.State.{link_register, program_counter_register}
use Rattle.memory.proofs.Claimed.{lengths}
use Rattle.answer.specs.Reason.{misaligned, outside-memory}
use Rattle.memory.specs.Attempt.{Attempt, done, fault, onward}
use Rattle.little_endian.specs.Numbers.{number_at, with_number}
use Rattle.memory.specs.Operation.{load, store, load_lanes, store_lanes, changed, vector_load, scalar_place, vector_place, vector_alignment, bytes_loaded, widened, bytes_stored, with_lanes, StoreResult}
use Rattle.memory.specs.Place.{place, biased, inside}
use Rattle.execution.proofs.OwnRegisters.{Own, own-none, own-then, own-scalar, own-lanes, own-R, own-I, own-Movei}
use Rattle.execution.specs.Access.{attempted, stored, load_into, store_from, load_lanes_into, store_lanes_from}
use Rattle.execution.specs.Control.{control_register, read_into, read_control}
use Rattle.execution.specs.Effect.{Fate, Stays, Traps, Ends, ReachesBarrier, Step, step, trapped, next, Executed, beside}
use Rattle.execution.specs.Issue.{execute, execute_read, execute_word}
use Rattle.execution.specs.Jump.{in_program, jump_to, jump_by, linked}
use Rattle.execution.specs.Registers.{scalar, vector, with_scalar, with_program_counter, lane_mask, with_lanes_on}
use Rattle.execution.specs.Types.{Context, Instruction, R, I, Movei, J, C, M, Jmp, Jmpsr, Jret, Beqz, Bnez, Barrier, Readcr, End, Load, Store, LoadVector, StoreVector, LoadOp, StoreOp}

-- a trap has a reason of 1 to 6
abbrev pub Reasoned : Fate → Type 0
Reasoned Stays = Unit {0}
Reasoned (Traps reason) = (1 ≤ reason) × (reason ≤ 6)
Reasoned Ends = Unit {0}
Reasoned (ReachesBarrier id second) = Unit {0}

-- what holds where an instruction does not go on: it traps, or meets at a barrier
abbrev pub UnlessGoesOn : Fate → Type 0 → Type 0
UnlessGoesOn Stays A = Unit {0}
UnlessGoesOn (Traps reason) A = A
UnlessGoesOn Ends A = Unit {0}
UnlessGoesOn (ReachesBarrier id second) A = A

-- so much of a step of thread t from registers
record LawfulStep (t : ℕ) (regs : List ℕ) (s : Step) : Type 0 where
  reasoned : Reasoned s.effect
  own : Own t regs s.registers
  unchanged : UnlessGoesOn s.effect (s.registers ≡ regs)

-- and of an instruction, from registers and a memory
pub record Lawful (t : ℕ) (regs memory : List ℕ) (x : Executed) : Type 0 where
  pub reasoned : Reasoned x.effect
  pub own : Own t regs x.registers
  pub bytes : length x.memory ≡ length memory
  pub unchanged : UnlessGoesOn x.effect (x.registers ≡ regs)
  pub unstored : UnlessGoesOn x.effect (x.memory ≡ memory)

always : {A : Type 0} (e : Fate) → A → UnlessGoesOn e A
always Stays a = tt
always (Traps reason) a = a
always Ends a = tt
always (ReachesBarrier id second) a = a

-- a step that leaves memory
steps : (t : ℕ) (regs memory : List ℕ) {s : Step} → LawfulStep t regs s → Lawful t regs memory (beside s memory)
steps t regs memory {s} h =
    record { reasoned = h.reasoned; own = h.own; bytes = refl; unchanged = h.unchanged; unstored = always s.effect refl }

either : (t : ℕ) (regs : List ℕ) (b : Bool) {x y : Step} → LawfulStep t regs x → LawfulStep t regs y → LawfulStep t regs (cond b x y)
either t regs true h k = h
either t regs false h k = k

-- the program counter is the thread's own
jumps : (t : ℕ) (regs : List ℕ) {x : List ℕ} (address : ℕ) → Own t regs x → LawfulStep t regs (step Stays (with_program_counter x t address))
jumps t regs {x} address h = record { reasoned = tt; own = own-then h (own-scalar t x program_counter_register address (omega arith)); unchanged = tt }

onwards : (c : Context) (regs : List ℕ) {x : List ℕ} → Own c.thread regs x → LawfulStep c.thread regs (next c x)
onwards c regs h = jumps c.thread regs (c.pc + 4) h

trap-sound : (t : ℕ) (regs : List ℕ) (reason : ℕ) → 1 ≤ reason → reason ≤ 6 → LawfulStep t regs (trapped reason regs)
trap-sound t regs reason l h = record { reasoned = (l, h); own = own-none t regs; unchanged = refl }

traps-four : (t : ℕ) (regs : List ℕ) → LawfulStep t regs (trapped 4 regs)
traps-four t regs = trap-sound t regs 4 (omega arith) (omega arith)

-- Jumps.
module _ (c : Context) (regs linked : List ℕ) (k : Own c.thread regs linked) where
  jumps_to : (address : ℕ) → LawfulStep c.thread regs (jump_to c regs linked address)
  unfolding jump_to
  jumps_to address = either c.thread regs (in_program c.words address) (jumps c.thread regs address k) (traps-four c.thread regs)

  jumps-by : (offset : ℕ) → LawfulStep c.thread regs (jump_by c regs linked offset)
  unfolding jump_by
  jumps-by offset =
      either c.thread regs (leb (2 ^ 32) (biased c.pc offset)) (jumps_to (biased c.pc offset - 2 ^ 32)) (traps-four c.thread regs)

-- readcr
reads-into : (c : Context) (regs : List ℕ) (d : ℕ) (o : Option ℕ) → d < 64 → LawfulStep c.thread regs (read_into c regs d o)
reads-into c regs d none l = trap-sound c.thread regs 6 (omega arith) (omega arith)
reads-into c regs d (some x) l = onwards c regs (own-scalar c.thread regs d x l)

reads-control : (c : Context) (regs : List ℕ) (first second : ℕ) → first < 64 → LawfulStep c.thread regs (read_control c regs first second)
unfolding read_control
reads-control c regs first second l = reads-into c regs first (control_register c (scalar regs c.thread second)) l

-- Loads and stores: an access traps with 1 or 2.
abbrev Attempted : {A : Type 0} → Attempt A → Type 0
Attempted (done x) = Unit {0}
Attempted (fault reason) = (1 ≤ reason) × (reason ≤ 2)

placed : (alignment size length address : ℕ) → Attempted (place alignment size length address)
unfolding place
placed alignment size length address = go (eqb (address % alignment) 0) (inside size length address)
  where
    go : (a b : Bool) → Attempted (cond a (cond b (done (address - 2 ^ 32)) (fault outside-memory)) (fault misaligned))
    go true true = tt
    go true false = (omega arith, omega arith)
    go false b = (omega arith, omega arith)

scalar-placed : (size : ℕ) (memory : List ℕ) (base offset : ℕ) → Attempted (scalar_place size memory base offset)
scalar-placed size memory base offset = placed size size (length memory) (biased base offset)

vector-placed : (memory : List ℕ) (base offset : ℕ) → Attempted (vector_place memory base offset)
vector-placed memory base offset = placed vector_alignment 64 (length memory) (biased base offset)

leads-on : {A B : Type 0} (a : Attempt A) (f : A → B) → Attempted a → Attempted (onward a f)
leads-on (done x) f h = tt
leads-on (fault reason) f h = h

changes : (a : Attempt ℕ) (m : List ℕ) (f : ℕ → List ℕ) → Attempted a → Attempted (changed a m f).answer
changes (done x) m f h = tt
changes (fault reason) m f h = h

gathers : (a : Attempt ℕ) (m : List ℕ) → Attempted a → Attempted (vector_load a m).answer
gathers (done x) m h = tt
gathers (fault reason) m h = h

attempts : {A : Type 0} (c : Context) (regs : List ℕ) (a : Attempt A) (f : A → List ℕ) → ((x : A) → Own c.thread regs (f x)) → Attempted a →
    LawfulStep c.thread regs (attempted c regs a f)
attempts c regs (done x) f k h = onwards c regs (k x)
attempts c regs (fault reason) f k h = trap-sound c.thread regs reason h.0 (omega (arith, h.1))

load-attempted : (op : LoadOp) (memory : List ℕ) (base offset : ℕ) → Attempted (load op memory base offset)
unfolding load
load-attempted op memory base offset =
    leads-on (scalar_place (bytes_loaded op) memory base offset) (λ a. widened op (number_at (bytes_loaded op) memory a)) (scalar-placed (bytes_loaded op) memory base offset)

load-lanes-attempted : (memory : List ℕ) (base offset : ℕ) → Attempted (load_lanes memory base offset).answer
unfolding load_lanes
load-lanes-attempted memory base offset = gathers (vector_place memory base offset) memory (vector-placed memory base offset)

store-attempted : (op : StoreOp) (memory : List ℕ) (base offset value : ℕ) → Attempted (store op memory base offset value).answer
unfolding store
store-attempted op memory base offset value = changes (scalar_place (bytes_stored op) memory base offset) memory (λ a. with_number (bytes_stored op) memory a value) (scalar-placed (bytes_stored op) memory base offset)

store-lanes-attempted : (memory : List ℕ) (base offset mask : ℕ) (v : List ℕ) → Attempted (store_lanes memory base offset mask v).answer
unfolding store_lanes
store-lanes-attempted memory base offset mask v = changes (vector_place memory base offset) memory (λ a. with_lanes memory a mask v) (vector-placed memory base offset)

-- a store that traps leaves memory
change-kept : (a : Attempt ℕ) (m : List ℕ) (f : ℕ → List ℕ) (c : Context) (regs : List ℕ)
    → UnlessGoesOn (stored c regs (changed a m f)).effect ((changed a m f).memory ≡ m)
change-kept (done x) m f c regs = tt
change-kept (fault reason) m f c regs = refl

module _ (c : Context) (regs memory : List ℕ) where
  abbrev t : ℕ
  t = c.thread

  module _ (register base offset : ℕ) where
    loads : (op : LoadOp) → register < 64 → LawfulStep t regs (load_into c regs memory op register base offset)
    unfolding load_into
    loads op l =
        attempts c regs (load op memory (scalar regs t base) offset) (λ x. with_scalar regs t register x) (λ x. own-scalar t regs register x l)
        (load-attempted op memory (scalar regs t base) offset)

    loads-lanes : register < 64 → LawfulStep t regs (load_lanes_into c regs memory register base offset)
    unfolding load_lanes_into
    loads-lanes l =
        let g = load_lanes memory (scalar regs t base) offset in
        attempts c regs g.answer (λ x. with_lanes_on regs t register g.lanes) (λ x. own-lanes t regs register g.lanes l)
        (load-lanes-attempted memory (scalar regs t base) offset)

    -- a store: the registers are those of an attempt that leads on to the same registers
    leaves : (o : StoreResult) → Attempted o.answer → length o.memory ≡ length memory
        → UnlessGoesOn (stored c regs o).effect (o.memory ≡ memory) → Lawful t regs memory (stored c regs o)
    leaves o h k u =
        let a = attempts c regs o.answer (λ x. regs) (λ x. own-none t regs) h in
        record { reasoned = a.reasoned; own = a.own; bytes = k; unchanged = a.unchanged; unstored = u }

    stores : (op : StoreOp) → Lawful t regs memory (store_from c regs memory op register base offset)
    unfolding store_from store
    stores op =
        leaves (store op memory (scalar regs t base) offset (scalar regs t register)) (store-attempted op memory (scalar regs t base) offset (scalar regs t register))
        (lengths.of-store op memory (scalar regs t base) offset (scalar regs t register))
        (change-kept (scalar_place (bytes_stored op) memory (scalar regs t base) offset) memory
        (λ a. with_number (bytes_stored op) memory a (scalar regs t register)) c regs)

    stores-lanes : Lawful t regs memory (store_lanes_from c regs memory register base offset)
    unfolding store_lanes_from store_lanes
    stores-lanes =
        let v = vector regs t register in
        let mask = lane_mask regs t in
        leaves (store_lanes memory (scalar regs t base) offset mask v) (store-lanes-attempted memory (scalar regs t base) offset mask v)
        (lengths.of-store-lanes memory (scalar regs t base) offset mask v)
        (change-kept (vector_place memory (scalar regs t base) offset) memory (λ a. with_lanes memory a mask v) c regs)

  -- every instruction
  executes : (i : Instruction) → Ranged i → Lawful t regs memory (execute c regs memory i)
  executes (R op flags d a b) l = steps t regs memory (onwards c regs (own-R t regs op flags d a b l.0))
  executes (I op flags d a n) l = steps t regs memory (onwards c regs (own-I t regs op flags d a n l.0))
  executes (Movei op flag d n) l = steps t regs memory (onwards c regs (own-Movei t regs op (eqb flag 1) d n l.0))
  executes (J Jmp r o) l = steps t regs memory (jumps-by c regs regs (own-none t regs) o)
  executes (J Jmpsr r o) l = steps t regs memory (jumps-by c regs (linked c regs) (own-scalar t regs link_register (c.pc + 4) (omega arith)) o)
  executes (J Jret r o) l = steps t regs memory (jumps_to c regs regs (own-none t regs) (scalar regs t link_register))
  executes (J Beqz r o) l =
      steps t regs memory
      (either t regs (eqb (scalar regs t r) 0) (jumps-by c regs regs (own-none t regs) o) (onwards c regs (own-none t regs)))
  executes (J Bnez r o) l =
      steps t regs memory
      (either t regs (not (eqb (scalar regs t r) 0)) (jumps-by c regs regs (own-none t regs) o) (onwards c regs (own-none t regs)))
  executes (C Barrier first second) l = record { reasoned = tt; own = own-none t regs; bytes = refl; unchanged = refl; unstored = refl }
  executes (C Readcr first second) l = steps t regs memory (reads-control c regs first second l.0)
  executes (C End first second) l = record { reasoned = tt; own = own-scalar t regs program_counter_register (c.pc + 4) (omega arith); bytes = refl; unchanged = tt; unstored = tt }
  executes (M (Load op) r b o) l = steps t regs memory (loads r b o op l.0)
  executes (M (Store op) r b o) l = stores r b o op
  executes (M LoadVector r b o) l = steps t regs memory (loads-lanes r b o l.0)
  executes (M StoreVector r b o) l = stores-lanes r b o

  executes-read : (a : Answer Instruction) → ((i : Instruction) → a ≡ given i → Ranged i) → Lawful t regs memory (execute_read c regs memory a)
  executes-read (given i) l = executes i (l i refl)
  executes-read (refused number) l = steps t regs memory (go (eqb number undefined))
    where
      go : (b : Bool) → LawfulStep t regs (trapped (cond b 3 6) regs)
      go true = trap-sound t regs 3 (omega arith) (omega arith)
      go false = trap-sound t regs 6 (omega arith) (omega arith)

  pub executes-word : (w : ℕ) → Lawful t regs memory (execute_word c regs memory w)
  unfolding execute_word InRange
  executes-word w = executes-read (read w) (in-range w)
