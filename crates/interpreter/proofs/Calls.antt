-- What the contract of `run` says of a call, part by part, and the issues of runs in order, for crates that open neither definition.
use mathlib.Core.Path.{refl, ap}
use Rattle.interpreter.specs.Claims.{RunsReport, issues_of, IssuesInOrder}
use Rattle.interpreter.specs.Run.{Outcome, run}

pub runs-report : RunsReport
unfolding run
runs-report c s e =
    record {
      issues = ap (λ (o : Outcome). o.issues) e;
      answer = ap (λ (o : Outcome). o.answer) e;
      left = ap (λ (o : Outcome). o.left) e;
    }

pub issues-in-order : IssuesInOrder
unfolding issues_of
issues-in-order = record { empty = refl; first = λ r rs. refl }
