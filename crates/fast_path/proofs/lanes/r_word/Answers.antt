-- `lanes::r_word` meets its contract: by its flags.
use Rattle.std.proofs.Common.{sym, ◌∙◌}
use Rattle.fast_path.proofs.Vectors.{compares-vectors, combines-number}
use Rattle.fast_path.proofs.lanes.r_word.Goals as goal

pub compare_vectors-requires : goal.compare_vectors-requires
compare_vectors-requires c =
    let a = c.args in
    (c.requires.0, c.requires.1, compares-vectors a.t a.regs.now a.w c.requires.3 c.requires.2 (sym c.flags_r.ensures ∙ c.in-6.is))

pub binary_number-requires : goal.binary_number-requires
binary_number-requires c =
    let a = c.args in (
      c.requires.0,
      c.requires.1,
      rw (c.scalar-n.ensures, c.third.ensures.0)
          (combines-number a.t a.regs.now a.w c.requires.3 c.requires.2 (sym c.flags_r.ensures ∙ c.in-12.is)),
    )
