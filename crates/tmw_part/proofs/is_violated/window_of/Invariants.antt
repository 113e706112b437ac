use Rattle.tmw_part.proofs.Shared.{AreTaken, take}
use Rattle.tmw_part.proofs.is_violated.window_of.Given as goal

abbrev pub invariant-loop-event : goal.invariant-loop-event
invariant-loop-event l = AreTaken l.fn.registers.number (take l.event-index l.events) l.window
