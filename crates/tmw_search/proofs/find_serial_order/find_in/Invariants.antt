use Rattle.tmw_search.proofs.Shared.{NoneExplains, take}
use Rattle.tmw_search.proofs.find_serial_order.find_in.Given as goal

abbrev pub invariant-loop-start : goal.invariant-loop-start
invariant-loop-start l = NoneExplains l.fn.criterion l.items (take l.start-index l.starts)
