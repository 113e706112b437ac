-- No operation needs or leaves anything.
use Rattle.tmw_cuts.proofs.Shared.{bit_at-zero, refl, sym}
use Rattle.tmw_cuts.proofs.Chosen.{have-chosen_none, put-chosen_none}
use Rattle.tmw_cuts.proofs.effect.Effect.clear.Goals as goal

pub returns : goal.returns
returns c = (
  λ s long. (sym (have-chosen_none _ s), sym (put-chosen_none _ s)),
  (λ r. rw (bit_at-zero r) refl, λ r. rw (bit_at-zero r) refl),
)
