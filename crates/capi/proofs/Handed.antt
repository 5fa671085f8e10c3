-- What the calls below hand back and leave, as the exported calls answer and leave it.
use Prim.Native.Nat.{ℕ}
use mathlib.Core.List.{List}
use mathlib.Core.Path.{◌≡◌, ap, ◌∙◌}
use Rattle.std.proofs.Common.{Result, Ok, Err}
use Rattle.answer.specs.declared.refusal.Refusal.{Refusal}
use Rattle.image.specs.Answer.{answered}
use Rattle.image.specs.Calls.{ReadResult, restored as handed_back}
use Rattle.image.specs.Opening.{record_bytes}
use Rattle.interpreter.specs.Start.{Beginning, started}
use Rattle.machine.specs.Machine.{zeroed}
use Rattle.machine.specs.declared.record.Machine.{Machine}
use Rattle.capi.specs.Answer.{number_of}
use Rattle.capi.specs.Images.{restored, restoring}
use Rattle.capi.specs.Runs.{begun, beginning}

-- the record that is handed back: with every number 0 for a refusal
abbrev pub record_or : Result Machine Refusal → Machine
record_or (Ok m) = m
record_or (Err refusal) = zeroed

pub start-handed : (r : Result Machine Refusal) {b : Beginning} {n : ℕ} {registers opening : List ℕ} → n ≡ number_of (answered r) → opening ≡ record_bytes (record_or r)
    → started r registers ≡ b → begun n registers opening ≡ beginning b
start-handed (Ok m) {registers = registers} e f g = (λ i. begun (e i) registers (f i)) ∙ ap beginning g
start-handed (Err x) {registers = registers} e f g = (λ i. begun (e i) registers (f i)) ∙ ap beginning g

pub read-handed : (r : Result Machine Refusal) {x : ReadResult} {n : ℕ} {registers memory opening : List ℕ} → n ≡ number_of (answered r) → opening ≡ record_bytes (record_or r)
    → handed_back r registers memory ≡ x → restored n registers memory opening ≡ restoring x
read-handed (Ok m) {registers = registers} {memory = memory} e f g = (λ i. restored (e i) registers memory (f i)) ∙ ap restoring g
read-handed (Err y) {registers = registers} {memory = memory} e f g = (λ i. restored (e i) registers memory (f i)) ∙ ap restoring g
