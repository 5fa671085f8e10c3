-- The figures of document 02, T-14, and some beside them, computed.
use Rattle.std.specs.Prelude.{true, false, [], ◌∷◌, ◌++◌, ◌≡◌, replicate, Some, None}
use Rattle.std.proofs.Math.Option.{none, some}
use Rattle.night.specs.Bytes.{with_reading, relays_in}
use Rattle.night.specs.Clock.{skipped}
use Rattle.night.specs.Refusal.{clock_number}

pub record FiguresHold : Type 0 where
  -- "In spring 119 then 180 skips 60."
  pub spring : skipped (Some 119) 180 false ≡ 60
  -- "forward round midnight"
  pub midnight : skipped (Some 1439) 0 false ≡ 0
  pub over-midnight : skipped (Some 1438) 1 false ≡ 2
  -- back by a minute, and no mark: all but two minutes of the day
  pub back : skipped (Some 5) 4 false ≡ 1438
  -- "the first reading, the same minute again or a marked autumn fall-back skips none"
  pub first : skipped None 180 false ≡ 0
  pub again : skipped (Some 180) 180 false ≡ 0
  pub autumn : skipped (Some 179) 120 true ≡ 0
  -- a mark skips none, wherever it stands
  pub marked-forward : skipped (Some 119) 180 true ≡ 0
  -- "20 memory under 128 bytes, first; 19 minute now or kept from the last call above 1439"
  pub small-first : clock_number 127 (Some 1440) 1440 ≡ some 20
  pub now-late : clock_number 128 (Some 0) 1440 ≡ some 19
  pub kept-late : clock_number 128 (Some 1440) 0 ≡ some 19
  pub last-minute : clock_number 128 (Some 1439) 1439 ≡ none
  pub nothing-kept : clock_number 128 None 1439 ≡ none
  -- "the minute of the day in memory bytes 0 to 3 and the minutes skipped since the last call in bytes 4 to 7": 1439 is 5 * 256 + 159
  pub put : with_reading (replicate 9 7) 1439 1438 ≡ 159 ∷ 5 ∷ 0 ∷ 0 ∷ 158 ∷ 5 ∷ 0 ∷ 0 ∷ 7 ∷ []
  -- "the low 16 bits of the word at byte 64": 2 * 256 + 1
  pub taken : relays_in (replicate 64 9 ++ 1 ∷ 2 ∷ 3 ∷ 4 ∷ 9 ∷ []) ≡ 513
