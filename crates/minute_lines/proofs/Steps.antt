-- What a byte of input makes of what is held.
use Prim.Native.Nat.{ℕ}
use mathlib.Core.Bool.{true}
use mathlib.Core.List.{List}
use mathlib.Core.Path.{◌≡◌, ap, ◌∙◌}
use borrow.Author.Tests.{ne_eqb}
use Rattle.std.specs.Prelude.{Result, Ok, Err}
use Rattle.night.specs.Tick.{Outcome, outcome}
use Rattle.text.proofs.Placing.{writes-none}
use Rattle.text.specs.Buffer.{wrote, writes}
use Rattle.minute_lines.specs.Answers.{answered, answer_text}
use Rattle.minute_lines.specs.Parsing.{with_byte, reading_in}
use Rattle.minute_lines.specs.Taking.{Between, Stepped, held_in, held_after, tick_on, took, end_line, take_byte, is_empty, take_end, shown}
use Rattle.minute_lines.specs.Types.{Line, Refusal, Tick, Held}

-- a line ended by a call, whose answer is in the buffer
pub line-ended : (p : List ℕ) (b : Between) (out : List ℕ) (r : Result Tick Refusal) (h : Held) (registers memory : List ℕ) {n : ℕ} {text : List ℕ}
    → outcome r h.kept h.machine registers memory ≡ tick_on p b.left b.kept (reading_in b.line)
    → wrote n text ≡ writes out 0 (answer_text (answered r))
    → ◌≡◌ {A = Stepped} (record { then = held_in (held_after h r) registers memory; wrote = wrote n text }) (shown out (end_line p b))
unfolding end_line shown
line-ended p b out (Ok t) h registers memory e f =
    (λ i. record { then = held_in (held_after h (Ok t)) registers memory; wrote = f i })
    ∙ ap (λ (o : Outcome). shown out (took o)) e
line-ended p b out (Err g) h registers memory e f =
    (λ i. record { then = held_in (held_after h (Err g)) registers memory; wrote = f i })
    ∙ ap (λ (o : Outcome). shown out (took o)) e

-- a byte that ends no line
pub byte-added : (p : List ℕ) (b : Between) (byte : ℕ) (out : List ℕ) {line : Line} → (byte ≡ 10 → ⊥) → line ≡ with_byte b.line byte
    → ◌≡◌ {A = Stepped} (record { then = record { kept = b.kept; line = line; left = b.left }; wrote = wrote 0 out }) (shown out (take_byte p b byte))
unfolding take_byte shown
byte-added p b byte out h e =
    rw (ne_eqb byte 10 h) (λ i. record { then = record { kept = b.kept; line = e i; left = b.left }; wrote = writes-none out 0 i })

-- the end of the input, behind a line end
pub nothing_left : (p : List ℕ) (b : Between) (out : List ℕ) → is_empty b.line ≡ true
    → ◌≡◌ {A = Stepped} (record { then = b; wrote = wrote 0 out }) (shown out (take_end p b))
unfolding take_end shown
nothing_left p b out h = rw h (λ i. record { then = b; wrote = writes-none out 0 i })
