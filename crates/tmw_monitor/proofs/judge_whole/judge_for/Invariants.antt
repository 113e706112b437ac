-- The monitor has been fed the events so far.
use Rattle.tmw_monitor.proofs.Shared.{Fits, rules_for, take}
use Rattle.tmw_monitor.proofs.judge_whole.judge_for.Given as goal

abbrev pub invariant-loop-event : goal.invariant-loop-event
invariant-loop-event l = Fits (rules_for l.fn.criterion l.fn.registers l.fn.start l.fn.bounds) (take l.event-index l.events) l.monitor
