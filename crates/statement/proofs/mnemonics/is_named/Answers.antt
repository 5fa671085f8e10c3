-- `is_named` meets its contract: the letter of I is the word's last, and the row's name stands before it.
use Rattle.std.proofs.Common.{◌-◌, length, take, ◌∙◌, arith}
use Rattle.expression.proofs.Named.{same_is}
use Rattle.statement.proofs.Named.{longer, empty-longer}
use Rattle.statement.proofs.mnemonics.is_named.Goals as goal

pub returns-then-not-immediate : goal.returns-then-not-immediate
returns-then-not-immediate c = rw (c.if-not-immediate.true) (c.eq.ensures ∙ same_is _ _)

pub returns-in_default : goal.returns-in_default
returns-in_default c =
    let x = c.args in
    rw (c.if-not-immediate.false) (empty-longer (take x.row.2 x.row.3) x.word.now 105 (omega arith))

pub returns : goal.returns
returns c =
    let x = c.args in
    let w = x.word.now in
    let n = take x.row.2 x.row.3 in
    rw (c.if-not-immediate.false, c.eq-2.ensures, same_is n (take (length w - 1) w))
    (longer n w 105 (length w - 1) (omega arith))
