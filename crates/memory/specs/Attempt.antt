-- What comes of an attempt to access memory: something, or a fault.
use Rattle.std.specs.Prelude.{ℕ, Result, Ok, Err}
use Rattle.answer.specs.declared.reason.Reason.{Reason}
use Rattle.answer.specs.Reason.{reason_of}

-- a fault has the reason that its thread traps with
pub data Attempt (A : Type 0) : Type 0 where
  done : A → Attempt A
  fault : ℕ → Attempt A

-- what is done leads on
abbrev pub onward : {A B : Type 0} → Attempt A → (A → B) → Attempt B
onward (done a) f = done (f a)
onward (fault reason) f = fault reason

-- what the code answers
abbrev pub of_result : {A : Type 0} → Result A Reason → Attempt A
of_result (Ok a) = done a
of_result (Err reason) = fault (reason_of reason)
