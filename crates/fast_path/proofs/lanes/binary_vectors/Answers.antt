-- `lanes::binary_vectors` meets its contract: by what such a word does.
use Rattle.std.proofs.Common.{sym, ◌∙◌}
use Rattle.fast_path.proofs.Vectors.{combines-vectors}
use Rattle.fast_path.proofs.lanes.binary_vectors.Goals as goal

pub combine_vectors-requires : goal.combine_vectors-requires
combine_vectors-requires c =
    let a = c.args in
    let on = c.all_on in (
      c.requires.0,
      c.requires.1,
      sym on.ensures ∙ c.if-not-all_on.false,
      rw (c.vector-y.ensures, c.vector-x.ensures, c.second.ensures.0, c.third.ensures.0) (combines-vectors a.t a.regs.now a.w c.requires.4 c.requires.2 c.requires.3),
    )
