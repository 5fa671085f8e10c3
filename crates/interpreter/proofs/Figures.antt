-- The figures hold: each is computed.
use mathlib.Core.Path.{refl}
use Rattle.alu.specs.Unary.{zeros_above}
use Rattle.interpreter.specs.Figures.{FiguresHold}
use Rattle.execution.specs.Immediate.{move_immediate}
use Rattle.execution.specs.Issue.{execute_word}
use Rattle.execution.specs.Operation.{binary_into, unary_into, compare_into, operate_r}
use Rattle.word_layout.specs.Layout.{signed}
use Rattle.isa.specs.Read.{read, read_r, read_i, read_movei, read_j, read_c, read_m, as_r, as_i, as_movei, as_j, as_c, as_m, guarded, listed}
use Rattle.isa.specs.Table.{find}
use Rattle.isa.specs.Test.{all}

pub figures-hold : FiguresHold
unfolding
    read read_r read_i read_movei read_j read_c read_m as_r as_i as_movei as_j as_c as_m guarded listed find all signed zeros_above
    execute_word operate_r binary_into unary_into compare_into move_immediate
figures-hold = (
  refl,
  (
    refl,
    (
      refl,
      (
        refl,
        (
          refl,
          (
            λ s0 s1 rest. refl,
            (
              refl,
              (
                refl,
                (
                  refl,
                  (
                    refl,
                    (
                      refl,
                      (
                        refl,
                        (
                          refl,
                          (
                            refl,
                            (
                              λ s0 s3 rest. refl,
                              (
                                λ s0 s3 rest. refl,
                                (
                                  λ s0 s3 rest. refl,
                                  (
                                    λ s0 s3 rest. refl,
                                    (λ s0 s3 rest. refl, (λ s0 s3 rest. refl, (λ s0 s3 rest. refl, tt))),
                                  ),
                                ),
                              ),
                            ),
                          ),
                        ),
                      ),
                    ),
                  ),
                ),
              ),
            ),
          ),
        ),
      ),
    ),
  ),
)
