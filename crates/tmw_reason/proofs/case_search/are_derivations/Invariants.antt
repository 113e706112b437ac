use Rattle.tmw_reason.proofs.Shared.{All, IsDerivationIn, take}
use Rattle.tmw_reason.proofs.case_search.are_derivations.Given as goal

abbrev pub invariant-loop-one : goal.invariant-loop-one
invariant-loop-one l = All (IsDerivationIn l.judged) (take l.one-index l.derivations)
