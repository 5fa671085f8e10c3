-- `put_at` meets its contract.
use Prim.Native.Nat.{◌/◌, ◌%◌}
use mathlib.Core.Path.{refl}
use native.Mathlib.Omega.{arith}
use lib.ListN.{get_or}
use Rattle.intel_hex.specs.Storing.{put_byte}
use Rattle.intel_hex.proofs.Words.{power-some, put-fits}
use Rattle.intel_hex.proofs.storing.put_at.Goals as goal

pub nonzero_rem-words : goal.nonzero_rem-words
nonzero_rem-words c = power-some (c.args.a % 4) (omega arith)

pub overflow_mul-words : goal.overflow_mul-words
overflow_mul-words c = let f = put-fits (c.args.a % 4) (get_or c.args.words.now (c.args.a / 4) 0) c.args.b (omega arith) (omega arith) in omega (arith, f.0)

pub overflow_add-words : goal.overflow_add-words
overflow_add-words c = let f = put-fits (c.args.a % 4) (get_or c.args.words.now (c.args.a / 4) 0) c.args.b (omega arith) (omega arith) in omega (arith, f.1)

pub returns : goal.returns
unfolding put_byte
returns c = refl
