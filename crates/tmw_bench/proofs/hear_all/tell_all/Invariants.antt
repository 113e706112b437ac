-- The first workers were told.
use Rattle.tmw_bench.proofs.Shared.{HaveToldUpTo}
use Rattle.tmw_bench.proofs.hear_all.tell_all.Given as goal

abbrev pub invariant-loop-line : goal.invariant-loop-line
invariant-loop-line g l = HaveToldUpTo l.bound l.line-index l.fn.lines l.lines
