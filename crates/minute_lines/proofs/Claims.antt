-- The claims of specs/, proved.
pub use Rattle.minute_lines.proofs.Figures.{figures-hold}
pub use Rattle.minute_lines.proofs.Lines.{reads_lines}
pub use Rattle.minute_lines.proofs.Inputs.{prints-lines}
pub use Rattle.minute_lines.proofs.Nights.{lines-fair}
