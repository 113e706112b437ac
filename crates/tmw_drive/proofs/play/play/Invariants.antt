-- The entries so far are done, and each player stands where they have brought it.
use Rattle.tmw_drive.proofs.Shared.{AllPlay, drop, scripts_of}
use Rattle.tmw_drive.proofs.Entries.{DrivesOn}
use Rattle.tmw_drive.proofs.play.play.Given as goal

abbrev pub invariant-loop-entry : goal.invariant-loop-entry
invariant-loop-entry g l =
    AllPlay ((goal.Tm-dyn g l.memory.now).gives l.memory.now.1) (scripts_of l.scripts) l.players l.log.items
    × DrivesOn (scripts_of l.scripts) l.fn.log.items l.order l.log.items (drop l.entry-index l.order)
