-- The machine that a state stands for.
use Rattle.tmw_ring_defs.specs.RingCore.{Core}
use Rattle.tmw_ring_defs.specs.RingMachine.{Machine}
use Rattle.tmw_ring_steps.specs.declared.ring_state.RingState.{RingState}

abbrev pub core_of : RingState → Core
core_of state = record {
  size = state.size;
  front = state.front;
  tail = state.tail;
  cells = state.cells.items;
  writers = state.writers.items;
  reader = state.reader;
  log = state.log.items;
  taken = state.taken.items;
}

abbrev pub machine_of : RingState → Machine
machine_of state = record { core = core_of state; stopped = state.stopped.items }
