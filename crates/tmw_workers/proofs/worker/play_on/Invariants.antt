-- The worker is between two rounds.
use Rattle.tmw_workers.proofs.Shared.{IsBetween, calls_of}
use Rattle.tmw_workers.proofs.worker.play_on.Given as goal

abbrev pub invariant-loop : goal.invariant-loop
invariant-loop g l = IsBetween g.J.MemoryAnswers.gave l.stage.ring.now (calls_of l.script) l.initial.worker l.worker
