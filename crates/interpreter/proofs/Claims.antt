-- Demand 3 and the claims of specs/, proved.
pub use Rattle.interpreter.proofs.Starts.{starts, start-rooms, starts-uncounted}
pub use Rattle.interpreter.proofs.Runs.{
  stays-well-formed,
  mask-stays,
  lengths-stay,
  within-budget,
  spends-budget,
  joins,
  answers_number,
  taken-well-formed,
  no-budget,
  looks-within,
  no-budget-looks,
  refused-looks,
}
pub use Rattle.interpreter.proofs.Endings.{ends-by-record}
pub use Rattle.interpreter.proofs.Calls.{runs-report, issues-in-order}
pub use Rattle.interpreter.proofs.Fairness.{some-enabled, eight-at-most, turns-fair, demand}
pub use Rattle.interpreter.proofs.Turns.{turns-counted}
pub use Rattle.interpreter.proofs.Figures.{figures-hold}
