-- `register_at` meets its contract.
use Rattle.std.proofs.Common.{arith}
use Rattle.token.proofs.Tokens.{token-read}
use Rattle.token.proofs.Runs.{part-is}
use Rattle.statement.proofs.Tokens.{no_register_at}
use Rattle.statement.proofs.registers.register_at.Goals as goal

pub slice_bounds-register_of-count : goal.slice_bounds-register_of-count
slice_bounds-register_of-count c = omega (arith, (token-read _ _ _ c.in-Word.ensures).1.0)

pub slice_bounds-register_of-start : goal.slice_bounds-register_of-start
slice_bounds-register_of-start c = omega (arith, (token-read _ _ _ c.in-Word.ensures).1.0)

pub slice_bounds-register_of-end : goal.slice_bounds-register_of-end
slice_bounds-register_of-end c = omega (arith, (token-read _ _ _ c.in-Word.ensures).1.0)

pub returns-in-End : goal.returns-in-End
returns-in-End c = no_register_at c.args.line.now c.args.at c.token_at.result (token-read _ _ _ c.token_at.ensures).0 c.in-End.is

pub returns-in_err-r-in-Word : goal.returns-in_err-r-in-Word
returns-in_err-r-in-Word c =
    let read = token-read _ _ _ c.in-Word.ensures in
    rw (c.from_residual.ensures, read.0, ← part-is c.in-Word.start c.in-Word.stop c.args.line.now (omega (arith, read.1.0)), ← c.in_err-r-in-Word.ensures)

pub returns-in_ok-r-in-Word : goal.returns-in_ok-r-in-Word
returns-in_ok-r-in-Word c =
    let read = token-read _ _ _ c.in-Word.ensures in
    rw (read.0, ← part-is c.in-Word.start c.in-Word.stop c.args.line.now (omega (arith, read.1.0)), ← c.in_ok-r-in-Word.ensures)
