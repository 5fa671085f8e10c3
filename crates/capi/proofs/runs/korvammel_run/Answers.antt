-- `korvammel_run` meets its contract: what the run handed back, with its record in bytes.
use mathlib.Core.List.{[], ◌∷◌}
use mathlib.Core.Path.{◌≡◌, ap, ◌∙◌}
use Rattle.image.specs.Answer.{answered}
use Rattle.image.specs.Opening.{record_bytes}
use Rattle.interpreter.specs.Run.{run_outcome}
use Rattle.capi.specs.Answer.{number_of}
use Rattle.capi.specs.Runs.{ran, result_of, no_result}
use Rattle.capi.proofs.runs.korvammel_run.Goals as goal
use Rattle.capi.proofs.runs.korvammel_run.Goals.{in-Ok, in-Err}

pub returns : goal.returns
returns c =
    let registers = c.run_from-answer.new.registers in
    let memory = c.run_from-answer.new.memory in
    elim c.match-answer.branch [
      | in-Ok w ↦
          let n : c.number.result ≡ 0 = c.number.ensures ∙ ap (λ x. number_of (answered x)) w.answer-is in
          let r : c.match-answer.res ≡ result_of (run_outcome w.in-Ok.made registers memory) = w.res-is ∙ (λ i. w.ending.ensures i ∷ w.in-Ok.made.issues ∷ w.low_half-low.ensures i ∷ w.high_half-high.ensures i ∷ []) in
          let b : c.match-answer.bytes ≡ record_bytes w.in-Ok.made.machine = w.bytes-is ∙ w.write_record.ensures in
          (λ i. ran (n i) (r i) registers memory (b i)) ∙ w.in-Ok.ensures
      | in-Err w ↦
          let n = c.number.ensures ∙ ap (λ x. number_of (answered x)) (w.answer-is ∙ w.in-Err.is) in
          let r : c.match-answer.res ≡ no_result = w.res-is in
          let b = w.bytes-is in
          (λ i. ran (n i) (r i) registers memory (b i)) ∙ w.in-Err.ensures
    ]
