-- Each step of a ring's machine from a sound state leaves a sound state.
use Rattle.tmw_ring_defs.proofs.Shared.{Claim, Core, Fill, Free, Front, IsIn, Ix, Peek, Publish, Read, Reply, Some, Sound, Spares, StepLaw, Stepped, Stop, Tail, WriterPhase, by_writer, claim_step, fill_step, front_step, none-some, option_and_then_some, publish_step, slice_get, tail_step, ◌≡◌}
use Rattle.tmw_ring_defs.proofs.RingClaims.{claim_keeps}
use Rattle.tmw_ring_defs.proofs.RingFills.{fill_keeps}
use Rattle.tmw_ring_defs.proofs.RingLooks.{front_keeps, tail_keeps}
use Rattle.tmw_ring_defs.proofs.RingPublishes.{publish_keeps}
use Rattle.tmw_ring_defs.proofs.RingTakes.{peek_keeps, read_keeps, free_keeps}

-- this step of a writer from its phase leaves a sound ring sound
abbrev Keeping : (Ix → Core → WriterPhase → Stepped) → Type 0
Keeping step = (writer : Ix) (old : Core) (phase : WriterPhase) (reply : Reply) (new : Core) → Sound old → IsIn old writer.number phase
    → step writer old phase ≡ Some (reply, new) → Sound new × Spares old new

by_writer_keeps : (step : Ix → Core → WriterPhase → Stepped) → Keeping step → (writer : Ix) (old new : Core) (reply : Reply) → Sound old
    → by_writer writer old (step writer old) ≡ Some (reply, new) → Sound new × Spares old new
by_writer_keeps step keeps writer old new reply sound e =
    option_and_then_some (step writer old) (slice_get old.writers writer.number) (reply, new) e
    (λ phase at made. keeps writer old phase reply new sound at made)

pub step_law : StepLaw
step_law (Front writer kind) old new reply sound e =
    by_writer_keeps (λ w. front_step w.number kind) (λ w. front_keeps w kind) writer old new reply sound e
step_law (Tail writer) old new reply sound e = by_writer_keeps (λ w. tail_step w.number) tail_keeps writer old new reply sound e
step_law (Claim writer) old new reply sound e = by_writer_keeps claim_step claim_keeps writer old new reply sound e
step_law (Fill writer) old new reply sound e = by_writer_keeps (λ w. fill_step w.number) fill_keeps writer old new reply sound e
step_law (Publish writer) old new reply sound e = by_writer_keeps publish_step publish_keeps writer old new reply sound e
step_law Peek old new reply sound e = peek_keeps old reply new sound e
step_law Read old new reply sound e = read_keeps old reply new sound e
step_law Free old new reply sound e = free_keeps old reply new sound e
step_law (Stop writer) old new reply sound e = absurd (none-some (reply, new) e)
