-- A count of turns after many issues, as one sum.
use Rattle.std.proofs.Common.{◌≡◌, ℕ, zero, suc, ◌+◌, ◌%◌, ◌^◌, ◌<◌, arith}
use Rattle.thread_entry.specs.Entry.{many_more}

pub many_more_lem : (n turns : ℕ) → turns < 2 ^ 32 → many_more n turns ≡ (turns + n) % 2 ^ 32
unfolding many_more
many_more_lem zero turns l = omega arith
many_more_lem (suc n) turns l = let e = many_more_lem n turns l in omega arith
