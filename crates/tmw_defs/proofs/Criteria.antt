-- What is said of a history by either criterion.
use Rattle.tmw_defs.proofs.Shared.{Criterion, Event, IsFinalBy, IsTrue, List, Opacity, State, Strict, arith, end_state, is_well_formed, outcomes_by, refl, ℕ}

pub formed-final : (c : Criterion) (registers : ℕ) (start : State) (h : List Event) → IsFinalBy c registers start h
    → IsTrue (is_well_formed registers h)
formed-final Opacity registers start h final = final.formed
formed-final Strict registers start h final = final.formed

-- a well-formed history is final-state opaque, or strict, where it has an outcome
pub final-outcome : (c : Criterion) (registers : ℕ) (start : State) (h : List Event) → IsFinalBy c registers start h
    → (end : State) × outcomes_by c start h end
final-outcome Opacity registers start h final =
    let (order, explains) = final.ordered in (end_state start order, (start, refl, (order, explains, refl)))
final-outcome Strict registers start h final =
    let (order, explains) = final.ordered in (end_state start order, (start, refl, (order, explains, refl)))

pub outcome-final : (c : Criterion) (registers : ℕ) (start : State) (h : List Event) → IsTrue (is_well_formed registers h)
    → (end : State) → outcomes_by c start h end → IsFinalBy c registers start h
outcome-final Opacity registers start h formed end (s, is, leads) =
    record { formed = formed; ordered = (leads.0, rw is at leads.1) }
outcome-final Strict registers start h formed end (s, is, leads) = grind arith
