-- What a call reports.
use Rattle.std.specs.Prelude.{ℕ}

-- "minute, skipped and relays"
pub record Report : Type 0 where
  pub minute : ℕ
  pub skipped : ℕ
  pub relays : ℕ

abbrev pub report : ℕ → ℕ → ℕ → Report
report minute skipped relays = record { minute = minute; skipped = skipped; relays = relays }
