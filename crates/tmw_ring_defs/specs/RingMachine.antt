-- A ring whose writers may stop: runs of steps, in whatever order its actors make them.
use Rattle.std.specs.Prelude.{Bool, true, false, List, [], ◌∷◌, Option, Some, None, get_or, replicate, slice_set, if◌then◌else◌}
use Rattle.tmw_events.specs.declared.ix.Ix.{Ix}
use Rattle.tmw_ring_defs.specs.RingCore.{Core, new_core}
use Rattle.tmw_ring_defs.specs.RingSteps.{Stepped, core_step}
use Rattle.tmw_ring_defs.specs.declared.ring_size.RingSize.{RingSize}
use Rattle.tmw_ring_defs.specs.declared.ring_step.Reply.{Reply}
use Rattle.tmw_ring_defs.specs.declared.ring_step.Reply.TheVariants.{Stopped, NotNow}
use Rattle.tmw_ring_defs.specs.declared.ring_step.Step.{Step}
use Rattle.tmw_ring_defs.specs.declared.ring_step.Step.TheVariants.{Front, Tail, Claim, Fill, Publish, Peek, Read, Free, Stop}

-- The ring's state, and beside it which writers have stopped.
pub record Machine : Type 0 where
  pub core : Core
  pub stopped : List Bool

abbrev pub new_machine : RingSize → Machine
new_machine size = record { core = new_core size; stopped = replicate size.writers false }

-- the writer whose step this is
abbrev pub writer_of : Step → Option Ix
writer_of (Front writer kind) = Some writer
writer_of (Tail writer) = Some writer
writer_of (Claim writer) = Some writer
writer_of (Fill writer) = Some writer
writer_of (Publish writer) = Some writer
writer_of Peek = None
writer_of Read = None
writer_of Free = None
writer_of (Stop writer) = Some writer

-- A writer that has stopped, or that the ring doesn't have, makes no step; the reader never stops.
abbrev pub has_stopped : List Bool → Option Ix → Bool
has_stopped stopped None = false
has_stopped stopped (Some writer) = get_or stopped writer.number true

-- A step that is not its actor's next changes nothing.
abbrev pub answered : Machine → Stepped → Reply × Machine
answered machine None = (NotNow, machine)
answered machine (Some (reply, core)) = (reply, record machine { core = core })

abbrev pub moved : Step → Machine → Reply × Machine
moved (Stop writer) machine = (Stopped, record machine { stopped = slice_set machine.stopped writer.number true })
moved (Front writer kind) machine = answered machine (core_step (Front writer kind) machine.core)
moved (Tail writer) machine = answered machine (core_step (Tail writer) machine.core)
moved (Claim writer) machine = answered machine (core_step (Claim writer) machine.core)
moved (Fill writer) machine = answered machine (core_step (Fill writer) machine.core)
moved (Publish writer) machine = answered machine (core_step (Publish writer) machine.core)
moved Peek machine = answered machine (core_step Peek machine.core)
moved Read machine = answered machine (core_step Read machine.core)
moved Free machine = answered machine (core_step Free machine.core)

abbrev pub machine_step : Step → Machine → Reply × Machine
machine_step step machine = if has_stopped machine.stopped (writer_of step) then (NotNow, machine) else moved step machine

-- the machine after these steps
abbrev pub after : List Step → Machine → Machine
after [] machine = machine
after (step ∷ steps) machine = after steps (machine_step step machine).1

-- what these steps are answered
abbrev pub replies : List Step → Machine → List Reply
replies [] machine = []
replies (step ∷ steps) machine = (machine_step step machine).0 ∷ replies steps (machine_step step machine).1
