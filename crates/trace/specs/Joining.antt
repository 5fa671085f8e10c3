-- Two runs, one after the other, as one.
use Rattle.std.specs.Prelude.{Result, Ok, Err, ℕ, ◌+◌, ◌-◌, ◌%◌, ◌^◌}
use Rattle.interpreter.specs.Choosing.{entries_to}
use Rattle.machine.specs.Scheduler.{choice}
use Rattle.trace.specs.Types.{Run, Refusal}

-- looks at all, less those that both runs had, modulo 2^64
unfoldable pub less_once : ℕ → ℕ → ℕ
less_once looks again = (looks % 2 ^ 64 + (2 ^ 64 - again)) % 2 ^ 64

-- The answer and the record are the second's. `Claims` says as `Continues` when it is what one run hands back.
unfoldable pub continued_run : Run → Run → Run
continued_run first second =
    record {
      stop = second.stop;
      issues = (first.issues + second.issues) % 2 ^ 32;
      looks = less_once (first.looks + second.looks) (entries_to (choice first.machine));
      machine = second.machine;
    }

-- of what two calls answered: of two runs that were made, the one run; where either was refused, the answer is the second's
unfoldable pub continued : Result Run Refusal → Result Run Refusal → Result Run Refusal
continued (Ok first) (Ok second) = Ok (continued_run first second)
continued (Ok first) (Err refusal) = Err refusal
continued (Err refusal) second = second
