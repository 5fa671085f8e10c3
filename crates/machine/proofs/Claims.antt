-- The claims of specs/, proved.
pub use Rattle.machine.proofs.Conditions.{tested}
pub use Rattle.machine.proofs.Starting.{started}
pub use Rattle.machine.proofs.Choosing.{chooses, chooses_none, turned}
pub use Rattle.machine.proofs.Kept.{enabled, issues, traps, ends}
pub use Rattle.machine.proofs.Arrivals.{meets}
pub use Rattle.machine.proofs.Turns.{counts-kept, counts-unseen, counts-apart, counting}
pub use Rattle.machine.proofs.Rounds.{rounds-counted}
