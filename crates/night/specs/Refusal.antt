-- Which number a call gives back (document 02, T-14, "Refusals").
use Rattle.std.specs.Prelude.{ℕ, Bool, ◌||◌, List, [], ◌∷◌, ltb, length}
use Rattle.std.proofs.Math.Option.{Option, some}
use Rattle.answer.specs.Answer.{bad-minute, small-memory}
use Rattle.answer.specs.Refusal.{check, first_that_applies, refused_or}
use Rattle.machine.specs.State.{State}
use Rattle.interpreter.specs.Run.{number}
use Rattle.night.specs.Clock.{out_of_day, kept_out_of_day}
use Rattle.night.specs.Types.{Kept}

-- "memory under 128 bytes"
abbrev pub small_memory : ℕ → Bool
small_memory bytes = ltb bytes 128

-- "minute now or kept from the last call above 1439"
abbrev pub bad_minute : Kept → ℕ → Bool
bad_minute kept minute = out_of_day minute || kept_out_of_day kept

-- "20 memory under 128 bytes, first; 19 minute now or kept from the last call above 1439"
unfoldable pub clock_number : ℕ → Kept → ℕ → Option ℕ
clock_number bytes kept minute =
    first_that_applies (check small-memory (small_memory bytes) ∷ check bad-minute (bad_minute kept minute) ∷ [])

-- "then the run's 1, 2, 3, 4"
unfoldable pub tick_number : List ℕ → State → Kept → ℕ → Option ℕ
tick_number p s kept minute = refused_or (clock_number (length s.memory) kept minute) some (number p s)
