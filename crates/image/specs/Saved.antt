-- The machine that is saved, as a state.
use Rattle.machine.specs.State.{State, state}
use Rattle.image.specs.declared.writing.Saved.{Saved}

abbrev pub state_of : Saved → State
state_of w = state w.machine w.registers.now w.memory.now
