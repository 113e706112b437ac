use Rattle.tmw_streams.proofs.Shared.{[], Appends}
use Rattle.tmw_streams.proofs.std_sink.write_again.Given as goal

abbrev pub invariant-loop : goal.invariant-loop
invariant-loop g l = Appends (g.W.Write.contents l.initial.writer) (g.W.Write.contents l.writer) []
