-- A compare of lanes by its row, before the mask: what its private functions give.
use Rattle.std.specs.Prelude.{ℕ, ◌-◌, ◌^◌, Bool, true, false, cond, List}
use Rattle.isa.specs.declared.instruction.CompareOp.{CompareOp}
use Rattle.ordering.specs.Compare.{compare}
use Rattle.ordering.specs.Order.{bias_of}
use Rattle.ordering.specs.declared.rows.CompareRow.{CompareRow}
use Rattle.ordering.specs.declared.rows.Kind.{Kind}
use Rattle.ordering.specs.declared.rows.Kind.TheVariants.{Unsigned, Signed, Float}
use Rattle.vector.specs.Lanes.{lane}
use Rattle.compares.specs.Lanes.{mask_below}
use Rattle.compares.specs.declared.outcome.Outcomes.{Outcomes}

abbrev pub is_float : Kind → Bool
is_float Unsigned = false
is_float Signed = false
is_float Float = true

-- an answer in the bits of all lanes
abbrev pub flags_of : Bool → ℕ
flags_of answer = cond answer (2 ^ 16 - 1) 0

-- a row with the bias of its kind, its columns in the bits of all lanes
abbrev pub outcomes_of : CompareRow → Outcomes
outcomes_of row = record {
  bias = bias_of row.kind;
  below = flags_of row.below;
  equal = flags_of row.equal;
  above = flags_of row.above;
}

-- the answers of all sixteen lanes
unfoldable pub answers_of : CompareOp → List ℕ → List ℕ → ℕ
answers_of op x y = mask_below 16 (λ j. compare op (lane x j) (lane y j))
