-- Equal lists of states are those of equal sets.
use Rattle.tmw_monitor.proofs.Shared.{Decides-eqb, refl, slice_eq-Decides, sym, ◌∙◌}
use Rattle.tmw_monitor.proofs.both_monitor.closes_alike.Goals as goal

pub returns-in-Outcome-Outcome-clause-same : goal.returns-in-Outcome-Outcome-clause-same
returns-in-Outcome-Outcome-clause-same c same =
    sym c.states.ensures.members
    ∙ (slice_eq-Decides (λ s t. slice_eq-Decides Decides-eqb s t _ refl) c.states.result.now c.states-in-Outcome-Outcome.result.now c.eq.result c.eq.ensures).0 same
    ∙ c.states-in-Outcome-Outcome.ensures.members

pub returns-in-Outcome-Outcome-clause-all : goal.returns-in-Outcome-Outcome-clause-all
returns-in-Outcome-Outcome-clause-all c one other same =
    (slice_eq-Decides (λ s t. slice_eq-Decides Decides-eqb s t _ refl) c.states.result.now c.states-in-Outcome-Outcome.result.now c.eq.result c.eq.ensures).1
    (c.states.ensures.members ∙ same ∙ sym c.states-in-Outcome-Outcome.ensures.members)
