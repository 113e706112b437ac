-- The player's run of the script so far is recorded.
use Rattle.tmw_workers.proofs.Shared.{HasRunSoFar, WriterOf, calls_of, left_of, ◌≡◌}
use Rattle.tmw_workers.proofs.CallTurns.{IsBetweenTurns}
use Rattle.tmw_workers.proofs.CallsLeft.{calls_left}
use Rattle.tmw_workers.proofs.work_script.work.Given as goal

abbrev pub invariant-loop-call : goal.invariant-loop-call
invariant-loop-call g l =
    WriterOf l.ring l.writer
    × (l.writer.number ≡ l.fn.writer.number)
    × HasRunSoFar ((goal.Tm-dyn g l.memory.now).gives l.memory.now.1) (calls_of l.script) l.player l.fn.writer l.writer
    × IsBetweenTurns g.M.MemoryCalls.asked l.fn.writer.made l.writer.made l.player

abbrev pub decreases-loop-call : goal.decreases-loop-call
decreases-loop-call g l = calls_left (left_of (calls_of l.script) l.player)
