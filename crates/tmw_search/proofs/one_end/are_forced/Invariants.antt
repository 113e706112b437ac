use Rattle.tmw_search.proofs.Shared.{map, take, view}
use Rattle.tmw_cuts.specs.Turns.{change}
use Rattle.tmw_cuts.specs.Views.{with_status}
use Rattle.tmw_defs.specs.declared.status.Status.TheVariants.{Committed}
use Rattle.tmw_search.proofs.OneEnd.{TellWriters}
use Rattle.tmw_search.proofs.one_end.are_forced.Given as goal

abbrev pub invariant-loop-index : goal.invariant-loop-index
invariant-loop-index l = TellWriters l.once l.twice l.blind (take l.index (change l.place (with_status Committed) (map view l.items)))
