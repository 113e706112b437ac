-- The players so far.
use Rattle.tmw_drive.proofs.Shared.{AllNew}
use Rattle.tmw_drive.proofs.play.new_players.Given as goal

abbrev pub invariant-loop-number : goal.invariant-loop-number
invariant-loop-number l = AllNew l.number l.players.items
