use Rattle.tmw_search.proofs.Shared.{effects}
use Rattle.tmw_search.proofs.ReadSteps.{ReadFrom}
use Rattle.tmw_search.proofs.read_consequences.read_all.Given as goal

abbrev pub invariant-loop-j : goal.invariant-loop-j
invariant-loop-j l = ReadFrom (effects l.items) l.start l.may l.j l.reads l.fn.node l.node
