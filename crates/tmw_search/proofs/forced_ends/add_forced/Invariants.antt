use Rattle.tmw_search.proofs.Shared.{AddsForced, members, ◌≡◌}
use Rattle.tmw_search.proofs.ForcedEnds.{AlikeUpto, Upto}
use Rattle.tmw_search.proofs.forced_ends.add_forced.Given as goal

abbrev pub invariant-loop-start : goal.invariant-loop-start
invariant-loop-start l = record {
  adds : AddsForced l.needs l.writers l.end (Upto l.starts l.start-index) (members l.fn.found.ends) (members l.found.ends);
  alike : AlikeUpto l.needs l.starts l.start-index l.fit;
  cap : l.found.cap ≡ l.fn.found.cap;
}
