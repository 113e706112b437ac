-- A publish from a sound state leaves a sound state: the cell of the place shows the log's event there.
use Rattle.tmw_ring_defs.proofs.Shared.{Claimed, Cleared, Core, Event, Idle, IsIn, IsPublished, Ix, Kind, Looked, Published, Reply, RingCell, Shows, Some, Sound, Spares, WriterPhase, arith, cell_at, false, none-some, publish_step, published, some_pair_parts, subst, sym, true, ℕ, ◌≡◌}
use Rattle.tmw_ring_defs.proofs.RingPlaces.{event_of}
use Rattle.tmw_ring_defs.proofs.RingStores.{held_stands, cell_stored}
use Rattle.tmw_ring_defs.proofs.RingWrites.{stored, IsFit, store_keeps}

abbrev published_at : Core → ℕ → Event → RingCell
published_at core place event = published place event (cell_at core place)

abbrev with_publish : Ix → ℕ → Kind → Core → Core
with_publish writer place kind core = stored writer.number place (published_at core place (event_of writer kind)) Idle core

publish-shows : (writer : Ix) (place : ℕ) (kind : Kind) (old : Core) → Sound old → IsIn old writer.number (Claimed place kind true)
    → IsPublished (with_publish writer place kind old) place
publish-shows writer place kind old sound at =
    let was = sound.holds writer.number place kind true at in
    let cell = cell_stored old place (published_at old place (event_of writer kind)) sound in
    let shows : Shows (published_at old place (event_of writer kind)) place was.event =
    grind arith in
    record {
      event = was.event;
      logged = was.logged;
      shown = subst (λ (c : RingCell). Shows c place was.event) (sym cell) shows;
    }

publish-fit : (writer : Ix) (place : ℕ) (kind : Kind) (old : Core) → Sound old → IsIn old writer.number (Claimed place kind true)
    → IsFit old writer.number place (published_at old place (event_of writer kind)) Idle
publish-fit writer place kind old sound at = grind (arith, held_stands, publish-shows)

pub publish_keeps : (writer : Ix) (old : Core) (phase : WriterPhase) (reply : Reply) (new : Core) → Sound old → IsIn old writer.number phase
    → publish_step writer old phase ≡ Some (reply, new) → Sound new × Spares old new
publish_keeps writer old Idle reply new sound at step = absurd (none-some (reply, new) step)
publish_keeps writer old (Looked kind front) reply new sound at step = absurd (none-some (reply, new) step)
publish_keeps writer old (Cleared kind) reply new sound at step = absurd (none-some (reply, new) step)
publish_keeps writer old (Claimed place kind false) reply new sound at step = absurd (none-some (reply, new) step)
publish_keeps writer old (Claimed place kind true) reply new sound at step =
    let parts = some_pair_parts (Published place) reply (with_publish writer place kind old) new step in
    subst (λ (core : Core). Sound core × Spares old core) parts.1
    (store_keeps old writer.number place kind true (published_at old place (event_of writer kind)) Idle sound at
    (publish-fit writer place kind old sound at))
