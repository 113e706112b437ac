-- What holds at a place holds in every state in which the log has the same event there and its cell the same words.
use Rattle.tmw_ring_defs.proofs.Shared.{Bool, Core, Event, HasRead, Holds, IsPublished, Ix, Kind, ReaderPhase, Ready, RingCell, Shows, Some, Told, Waiting, ap, cell_at, kind_value, packed_header, slice_get, subst, sym, true, ℕ, ◌+◌, ◌∙◌, ◌≡◌, ◌≢◌, ◌≤◌}

-- The log of the new state has the events that the old one has.
abbrev pub Logs : Core → Core → Type 0
Logs old new = (place : ℕ) (event : Event) → slice_get old.log place ≡ Some event → slice_get new.log place ≡ Some event

abbrev pub published_still : (old new : Core) (place : ℕ) → Logs old new → cell_at new place ≡ cell_at old place → IsPublished old place
    → IsPublished new place
published_still old new place logs same was = record {
  event = was.event;
  logged = logs place was.event was.logged;
  shown = subst (λ (cell : RingCell). Shows cell place was.event) (sym same) was.shown;
}

pub holds_still : (old new : Core) (writer place : ℕ) (kind : Kind) (is_filled : Bool) → Logs old new → new.front ≤ place
    → cell_at new place ≡ cell_at old place → Holds old writer place kind is_filled → Holds new writer place kind is_filled
holds_still old new writer place kind is_filled logs standing same was = record {
  event = was.event;
  logged = logs place was.event was.logged;
  own = was.own;
  same = was.same;
  standing = standing;
  unstamped = subst (λ (cell : RingCell). cell.stamp ≢ place + 1) (sym same) was.unstamped;
  value = subst (λ (cell : RingCell). is_filled ≡ true → cell.value ≡ kind_value kind) (sym same) was.value;
}

-- What the reader has read is the next event's still, if that one is published still.
pub read_still : (old new : Core) (phase : ReaderPhase)
    → ((was : IsPublished old old.front) → (next : IsPublished new new.front) × (next.event ≡ was.event))
    → HasRead old phase → HasRead new phase
read_still old new Waiting still read = tt
read_still old new (Ready header) still read =
    let (next, same) = still read.0 in (next, read.1 ∙ ap packed_header (sym same))
read_still old new (Told header value) still read =
    let (next, same) = still read.0 in
    (next, read.1 ∙ ap packed_header (sym same), read.2 ∙ ap (λ (event : Event). kind_value event.kind) (sym same))

-- the writer's event of this kind
abbrev pub event_of : Ix → Kind → Event
event_of writer kind = record { thread = writer; kind = kind }
