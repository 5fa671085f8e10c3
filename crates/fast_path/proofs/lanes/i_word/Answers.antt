-- `lanes::i_word` meets its contract: by its flags.
use Rattle.std.proofs.Common.{◌-◌, ◌/◌, ◌^◌, sym, ◌∙◌, arith}
use Rattle.fast_path.proofs.Vectors.{combines-immediate}
use Rattle.fast_path.proofs.lanes.i_word.Goals as goal

pub binary_number-requires : goal.binary_number-requires
binary_number-requires c =
    let a = c.args in
    let least = c.requires.2 in
    let most = c.requires.3 in (
      c.requires.0,
      c.requires.1,
      rw c.short_signed.ensures
          (combines-immediate a.t a.regs.now a.w c.requires.4 (a.w / 2 ^ 24 - 64) (omega arith) (omega arith)
          (sym c.flags_i.ensures ∙ c.if-flags_i-ne6.false)),
    )
