-- The states from which a window that is shown begins are states of the run.
use Rattle.tmw_window.proofs.Shared.{All-take, Event, FitsKind, IsFine, IsTrue, IsVerdict, List, Rules, StatesLaw, Verdict, arith, formed-final, is_well_formed, length, rules, shown_length, take, ℕ, ◌-◌, ◌<◌, ◌≤◌}
use Rattle.tmw_window.proofs.Outcomes.{outcome_kept}
use Rattle.tmw_window.proofs.Part.{shown-part, shown-within}

-- what precedes the length at which something is wrong first is well-formed
before-formed : (rules : Rules) (h : List Event) (m from : ℕ) → from ≤ m - 1 → ((k : ℕ) → k < m → IsFine rules (take k h))
    → IsTrue (is_well_formed rules.registers (take from h))
before-formed rules h m from order before = grind (arith, formed-final)

cut-formed : (rules : Rules) (h : List Event) (v : Verdict) (from : ℕ) → IsVerdict rules h v → from ≤ shown_length (length h) v - 1
    → IsTrue (is_well_formed rules.registers (take from h))
cut-formed rules h v from is order = grind (arith, formed-final, take, before-formed)

pub states_law : StatesLaw
states_law rules h v from states events judged shown start fit s is =
    let part = shown-part rules h v from states events (shown-within rules h v judged) shown in
    outcome_kept rules.criterion rules.registers rules.start (take from h) (cut-formed rules h v from judged part.order)
    (All-take (λ event. FitsKind event.kind) from h fit) start s ((part.each s).0 is)
