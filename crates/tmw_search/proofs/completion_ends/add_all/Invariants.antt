use Rattle.tmw_search.proofs.Shared.{Adds, Entails, effects, members, true, ◌≡◌}
use Rattle.tmw_search.proofs.AddMembers.{OfFirst}
use Rattle.tmw_search.proofs.AllCompletions.{EndsAtIndex}
use Rattle.tmw_search.proofs.completion_ends.add_all.Given as goal

abbrev pub invariant-loop-index : goal.invariant-loop-index
invariant-loop-index l = record {
  adds : Adds true (members l.fn.found.ends) (members l.found.ends) (OfFirst (EndsAtIndex (effects l.items) l.starts l.root) l.index);
  cap : l.found.cap ≡ l.fn.found.cap;
  follows : Entails (effects l.items) l.reading.start 0 l.root l.reading.node l.reading.alive;
}
