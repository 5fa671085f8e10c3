-- `issuing::try_word` meets its contract: by its two tests, then by what trying the word leaves.
use Rattle.std.proofs.Common.{sym, ◌∙◌}
use Rattle.fast_path.proofs.Trying.{tries-issue}
use Rattle.fast_path.proofs.issuing.try_word.Goals as goal

pub returns : goal.returns
returns c =
    let w = c.word in
    let test = c.in_program in
    let pc = c.scalar-pc in
    let a = c.args in
    tries-issue a.program.now a.thread a.regs.now a.memory.now
    (sym c.fits.ensures ∙ c.if-not-fits.false)
    pc.result pc.ensures (sym test.ensures ∙ c.if-not-in_program.false) w.result _ _ w.ensures
