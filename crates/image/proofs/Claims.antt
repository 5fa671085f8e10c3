-- The claims of specs/, proved.
pub use Rattle.image.proofs.Openings.{opens-with}
pub use Rattle.image.proofs.Records.{record-again}
pub use Rattle.image.proofs.Numbers.{exact}
pub use Rattle.image.proofs.Places.{begins, knows-both-lengths, placed}
pub use Rattle.image.proofs.RoundTrip.{written-then-read, dropped-then-read, read-then-written, reads-exactly, old-to-new-to-old}
pub use Rattle.image.proofs.Computed.{bytes-hold, write-order, read-order, opening-order}
