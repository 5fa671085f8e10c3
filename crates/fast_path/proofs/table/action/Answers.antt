-- `table::action` meets its contract: each arm by what it calls.
use Rattle.fast_path.proofs.table.action.Goals as goal

pub returns-in_default : goal.returns-in_default
returns-in_default c = c.moves_and_jumps.ensures _
