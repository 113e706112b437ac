-- The events so far fit the tracker, and they and each shorter prefix are fine.
use Rattle.tmw_plain_check.proofs.Shared.{Tracks, take, ◌+◌}
use Rattle.tmw_plain_check.proofs.Weights.{FaultlessBelow}
use Rattle.tmw_plain_check.proofs.judge.judge_whole_for.Given as goal

abbrev pub invariant-loop-place : goal.invariant-loop-place
invariant-loop-place l = record {
  tracks : Tracks l.fn.registers.number (take l.place l.events) l.tracker;
  fine : FaultlessBelow l.criterion l.fn.registers.number l.start l.events (l.place + 1);
}
