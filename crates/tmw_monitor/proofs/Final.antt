-- A final verdict stays, whatever event comes.
use Rattle.tmw_monitor.proofs.Shared.{Event, IsFirst-push, IsMalformed, IsTooMany, IsTooWide, IsVerdict, IsViolated, List, Malformed, OpaqueSoFar, Rules, StrictSoFar, Undecided, Verdict, Violated, [], ap, so_far, sym, ◌++◌, ◌∷◌, ◌≡◌}
use Rattle.tmw_defs.specs.declared.verdict.Why.TheVariants.{Transactions, States}

pub verdict-stays : (rules : Rules) (h : List Event) (e : Event) (v : Verdict) → IsVerdict rules h v → (v ≡ so_far rules.criterion → ⊥)
    → IsVerdict rules (h ++ e ∷ []) v
verdict-stays rules h e OpaqueSoFar is final = absurd (final (sym (ap so_far is.0)))
verdict-stays rules h e StrictSoFar is final = absurd (final (sym (ap so_far is.0)))
verdict-stays rules h e (Malformed m) is final = IsFirst-push IsMalformed rules h e m is
verdict-stays rules h e (Undecided m Transactions) is final = IsFirst-push IsTooWide rules h e m is
verdict-stays rules h e (Undecided m States) is final = IsFirst-push IsTooMany rules h e m is
verdict-stays rules h e (Violated m) is final = IsFirst-push IsViolated rules h e m is
