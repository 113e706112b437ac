use Rattle.tmw_reason.proofs.Shared.{All, IsMade}
use Rattle.tmw_reason.proofs.derivation_search.cases.Given as goal

abbrev pub invariant-loop-step : goal.invariant-loop-step
invariant-loop-step l = All (IsMade l.judged l.candidates) l.found.items
