-- The claims of specs/, proved.
pub use Rattle.night.proofs.Figures.{figures-hold}
pub use Rattle.night.proofs.Minutes.{skipped-between}
pub use Rattle.night.proofs.Ticks.{run-taken}
pub use Rattle.night.proofs.Turns.{enough_turns, night-fair}
