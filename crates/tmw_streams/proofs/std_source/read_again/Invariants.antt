use Rattle.tmw_streams.proofs.Shared.{[], Consumes}
use Rattle.tmw_streams.proofs.std_source.read_again.Given as goal

abbrev pub invariant-loop : goal.invariant-loop
invariant-loop g l = Consumes (g.R.Read.remaining l.initial.reader) (g.R.Read.remaining l.reader) []
