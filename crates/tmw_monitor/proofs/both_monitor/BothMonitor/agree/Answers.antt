-- Equal lists of states are those of equal sets.
use Rattle.tmw_monitor.proofs.Shared.{Decides-eqb, refl, slice_eq-Decides, sym, ◌∙◌}
use Rattle.tmw_monitor.proofs.both_monitor.BothMonitor.agree.Goals as goal

pub returns : goal.returns
returns c =
    let decides = slice_eq-Decides (λ s t. slice_eq-Decides Decides-eqb s t _ refl) c.states.result.now c.states-2.result.now c.eq.result c.eq.ensures in (
      λ same. record {
        opacity = c.is_open.ensures.0 c.if-not-is_open.false;
        strict = c.is_open-else-not-is_open.ensures.0 c.if-not-is_open-2.false;
        outcomes = sym c.states.ensures.members ∙ decides.0 same ∙ c.states-2.ensures.members;
      },
      λ agree. decides.1 (c.states.ensures.members ∙ agree.outcomes ∙ sym c.states-2.ensures.members),
    )
