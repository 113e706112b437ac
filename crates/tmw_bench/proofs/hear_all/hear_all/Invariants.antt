-- The first workers have told one thing more.
use Rattle.tmw_bench.proofs.Shared.{AllToldEnd, HasGoneOn, HaveHeardUpTo, IsFalse, IsTrue, ReaderOf, SomeToldStop}
use Rattle.tmw_bench.proofs.hear_all.hear_all.Given as goal

abbrev pub invariant-loop-line : goal.invariant-loop-line
invariant-loop-line g l =
    ReaderOf l.ring l.pump.reader × HasGoneOn l.fn.pump l.pump
    × HaveHeardUpTo l.line-index l.fn.lines l.lines × (IsTrue l.stopped → SomeToldStop l.line-index l.lines)
    × (IsFalse l.stopped → AllToldEnd l.line-index l.lines)
