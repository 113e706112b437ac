-- A text names its step: two steps with one text are one step, and no step's text has a line feed.
use Rattle.std.proofs.Common.{◌≡◌, true, drop, get_or, refl, ap, ◌∙◌, arith}
use Rattle.std.proofs.lemmas.Bool.{and_from}
use Rattle.tmw_lines.specs.FreeParts.{IsFree}
use Rattle.tmw_events.proofs.Same.{same_ix}
use Rattle.tmw_trace.specs.KindTextInjectivity.{no_feed, kind_text-injective, free-kind_text}
use Rattle.tmw_ring_defs.specs.declared.ring_step.Step.{Step}
use Rattle.tmw_ring_defs.specs.declared.ring_step.Step.TheVariants.{Front, Tail, Claim, Fill, Publish, Peek, Read, Free, Stop}
use Rattle.tmw_steps.specs.Text.{step_text, FitsStep}

pub step_text-injective : (s t : Step) → FitsStep s → FitsStep t → step_text s ≡ step_text t → s ≡ t
step_text-injective (Front w k) (Front v m) f g is =
    ap (λ x. Front x k) (same_ix w v (omega (arith, ap (λ xs. get_or xs 6 0) is)))
    ∙ ap (λ x. Front v x) (kind_text-injective k m f g (ap (λ xs. drop 8 xs) is))
step_text-injective (Tail w) (Tail v) f g is = ap Tail (same_ix w v (omega (arith, ap (λ xs. get_or xs 5 0) is)))
step_text-injective (Claim w) (Claim v) f g is = ap Claim (same_ix w v (omega (arith, ap (λ xs. get_or xs 6 0) is)))
step_text-injective (Fill w) (Fill v) f g is = ap Fill (same_ix w v (omega (arith, ap (λ xs. get_or xs 5 0) is)))
step_text-injective (Publish w) (Publish v) f g is =
    ap Publish (same_ix w v (omega (arith, ap (λ xs. get_or xs 8 0) is)))
step_text-injective Peek Peek f g is = refl
step_text-injective Read Read f g is = refl
step_text-injective Free Free f g is = refl
step_text-injective (Stop w) (Stop v) f g is = ap Stop (same_ix w v (omega (arith, ap (λ xs. get_or xs 5 0) is)))
step_text-injective _ _ f g is =
    absurd (omega (arith, ap (λ xs. get_or xs 0 0) is, ap (λ xs. get_or xs 2 0) is))

pub free-step_text : (s : Step) → FitsStep s → IsFree 10 (step_text s)
free-step_text (Front w k) f = and_from _ _ (no_feed w.number) (free-kind_text k f)
free-step_text (Tail w) f = and_from _ true (no_feed w.number) refl
free-step_text (Claim w) f = and_from _ true (no_feed w.number) refl
free-step_text (Fill w) f = and_from _ true (no_feed w.number) refl
free-step_text (Publish w) f = and_from _ true (no_feed w.number) refl
free-step_text Peek f = refl
free-step_text Read f = refl
free-step_text Free f = refl
free-step_text (Stop w) f = and_from _ true (no_feed w.number) refl
