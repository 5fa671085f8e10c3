use Rattle.std.proofs.Common.{◌≡◌, ◌≤◌, drop}
use Rattle.token.specs.Number.{digits_on, numeral}
use Rattle.token.specs.Word.{capped}
use Rattle.token.proofs.word.numeral.Given as goal

abbrev pub invariant-loop-c : goal.invariant-loop-c
invariant-loop-c l = record {
  so_far : capped (digits_on l.base l.n (drop l.c-index l.digits)) ≡ capped (numeral l.base l.digits);
  bound : l.n ≤ 0x80000001;
}
