-- A writer's looks at front and at tail leave a sound ring sound.
use Rattle.tmw_ring_defs.proofs.Shared.{Bool, Claimed, Cleared, Core, Idle, IsHeld, IsIn, IsPublished, Ix, Kind, Looked, Reply, Saw, Some, Sound, Spares, WriterPhase, arith, cleared, false, front_step, inl, inr, is_full, is_spent, length, length-set, ltb-false, none-some, refl, room_phase, room_reply, slice_set, some_pair_parts, subst, sym, tail_step, true, with_phase, ℕ, ◌+◌, ◌-◌, ◌<◌, ◌∙◌, ◌≡◌, ◌≢◌, ◌≤◌, ◌⊎◌}
use Rattle.tmw_ring_defs.proofs.RingPhases.{phase_kept, phase_cases, two_writers, cleared-set, cleared-lt}
use Rattle.tmw_ring_defs.proofs.RingPlaces.{published_still, holds_still, read_still}

-- The new state is sound, and what was published and not taken is left alone.
abbrev Keeps : Core → Core → Type 0
Keeps old new = Sound new × Spares old new

-- no place is claimed in this phase
abbrev IsUnclaimed : WriterPhase → Type 0
IsUnclaimed phase = (place : ℕ) (kind : Kind) (is_filled : Bool) → phase ≢ Claimed place kind is_filled

-- A writer that claims nothing goes on to another phase in which it claims nothing.
phase_keeps : (core : Core) (writer : ℕ) (phase next : WriterPhase) → Sound core → IsIn core writer phase
    → IsUnclaimed phase → IsUnclaimed next → ((kind : Kind) (front : ℕ) → next ≡ Looked kind front → front ≤ core.front)
    → core.tail + cleared (slice_set core.writers writer next) ≤ core.front + core.size.cells
    → core.tail + cleared (slice_set core.writers writer next) ≤ core.size.limit
    → Keeps core (with_phase writer next core)
phase_keeps core writer phase next sound at free freed looks room limited =
    let moved : Core = with_phase writer next core in
    let still : (place : ℕ) → IsPublished core place → IsPublished moved place =
    λ place was. published_still core moved place (λ p event logged. logged) refl was in (
      record {
        cells = sound.cells;
        writers = length-set core.writers writer next ∙ sound.writers;
        tail = sound.tail;
        front = sound.front;
        begins = sound.begins;
        order = sound.order;
        room = room;
        limited = limited;
        looks = λ other front kind looked. elim (before other (Looked kind front) looked) [
          | inl set ↦ looks kind front set.1
          | inr kept ↦ sound.looks other front kind kept.1
        ];
        places = λ place low high. elim (sound.places place low high) [
          | inl held ↦ inl (still_held place held)
          | inr published ↦ inr (still place published)
        ];
        holds = λ other place kind is_filled claimed.
            let was = sound.holds other place kind is_filled (claimed_before other place kind is_filled claimed) in
            holds_still core moved other place kind is_filled (λ p event logged. logged) was.standing refl was;
        once = λ a b place k l p q at_a at_b.
            sound.once a b place k l p q (claimed_before a place k p at_a) (claimed_before b place l q at_b);
        stamps = sound.stamps;
        reads = read_still core moved core.reader (λ was. (still core.front was, refl)) sound.reads;
      },
      λ place low published. refl,
    )
  where
    before : (other : ℕ) (found : WriterPhase) → IsIn (with_phase writer next core) other found
        → ((other ≡ writer) × (next ≡ found)) ⊎ ((other ≢ writer) × IsIn core other found)
    before other found is = phase_cases core.writers writer other next found is

    claimed_before : (other place : ℕ) (kind : Kind) (is_filled : Bool)
        → IsIn (with_phase writer next core) other (Claimed place kind is_filled) → IsIn core other (Claimed place kind is_filled)
    claimed_before other place kind is_filled claimed = elim (before other (Claimed place kind is_filled) claimed) [
      | inl set ↦ absurd (freed place kind is_filled set.1)
      | inr kept ↦ kept.1
    ]

    still_held : (place : ℕ) → IsHeld core place → IsHeld (with_phase writer next core) place
    still_held place held =
        let apart = two_writers core.writers held.writer writer (Claimed place held.kind held.is_filled) phase held.claimed at
        (λ same. free place held.kind held.is_filled (sym same)) in
        record {
          writer = held.writer;
          kind = held.kind;
          is_filled = held.is_filled;
          claimed = phase_kept core.writers writer held.writer next apart ∙ held.claimed;
        }

pub front_keeps : (writer : Ix) (kind : Kind) (old : Core) (phase : WriterPhase) (reply : Reply) (new : Core) → Sound old
    → IsIn old writer.number phase → front_step writer.number kind old phase ≡ Some (reply, new) → Sound new × Spares old new
front_keeps writer kind old Idle reply new sound at e =
    let next : WriterPhase = Looked kind old.front in
    let count : cleared (slice_set old.writers writer.number next) + 0 ≡ cleared old.writers + 0 = cleared-set old.writers writer.number Idle next at in
    let made = some_pair_parts (Saw old.front) reply (with_phase writer.number next old) new e in
    subst (Keeps old) made.1
    (phase_keeps old writer.number Idle next sound at (λ place kind is_filled is. absurd (cc)) (λ place kind is_filled is. absurd (cc))
    (λ other front is. let same : old.front ≡ front = cc in omega (arith, same))
    (omega (arith, count, sound.room)) (omega (arith, count, sound.limited)))
front_keeps writer kind old (Looked seen front) reply new sound at e = absurd (none-some (reply, new) e)
front_keeps writer kind old (Cleared seen) reply new sound at e = absurd (none-some (reply, new) e)
front_keeps writer kind old (Claimed place seen is_filled) reply new sound at e = absurd (none-some (reply, new) e)

-- There is no room, and the writer is idle again.
idle_keeps : (core : Core) (writer : ℕ) (kind : Kind) (front : ℕ) → Sound core → IsIn core writer (Looked kind front)
    → Keeps core (with_phase writer Idle core)
idle_keeps core writer kind front sound at =
    let count : cleared (slice_set core.writers writer Idle) + 0 ≡ cleared core.writers + 0 = cleared-set core.writers writer (Looked kind front) Idle at in
    phase_keeps core writer (Looked kind front) Idle sound at (λ place seen is_filled is. absurd (cc)) (λ place seen is_filled is. absurd (cc))
    (λ seen other is. absurd (cc)) (omega (arith, count, sound.room)) (omega (arith, count, sound.limited))

-- There is room for this writer, since it saw room for all writers and is not cleared yet.
clear_keeps : (core : Core) (writer : ℕ) (kind : Kind) (front : ℕ) → Sound core → IsIn core writer (Looked kind front)
    → core.tail + core.size.writers ≤ core.size.limit → core.tail - front ≤ core.size.cells - core.size.writers
    → Keeps core (with_phase writer (Cleared kind) core)
clear_keeps core writer kind front sound at given free =
    let next : WriterPhase = Cleared kind in
    let count : cleared (slice_set core.writers writer next) + 0 ≡ cleared core.writers + 1 = cleared-set core.writers writer (Looked kind front) next at in
    let less : cleared core.writers < length core.writers = cleared-lt core.writers writer (Looked kind front) at refl in
    let seen : front ≤ core.front = sound.looks writer front kind at in
    phase_keeps core writer (Looked kind front) next sound at (λ place other is_filled is. absurd (cc)) (λ place other is_filled is. absurd (cc))
    (λ other late is. absurd (cc))
    (omega (arith, count, less, seen, free, sound.writers, core.size.enough_cells)) (omega (arith, count, less, given, sound.writers))

room_keeps : (writer : ℕ) (kind : Kind) (front : ℕ) (old : Core) (spent full : Bool) → Sound old → IsIn old writer (Looked kind front)
    → is_spent old.size old.tail ≡ spent → is_full old.size front old.tail ≡ full
    → Keeps old (with_phase writer (room_phase spent full kind) old)
room_keeps writer kind front old true full sound at given free = idle_keeps old writer kind front sound at
room_keeps writer kind front old false true sound at given free = idle_keeps old writer kind front sound at
room_keeps writer kind front old false false sound at given free =
    clear_keeps old writer kind front sound at
    (omega (arith, old.size.enough_places, ltb-false (old.size.limit - old.size.writers) old.tail given))
    (ltb-false (old.size.cells - old.size.writers) (old.tail - front) free)

pub tail_keeps : (writer : Ix) (old : Core) (phase : WriterPhase) (reply : Reply) (new : Core) → Sound old
    → IsIn old writer.number phase → tail_step writer.number old phase ≡ Some (reply, new) → Sound new × Spares old new
tail_keeps writer old Idle reply new sound at e = absurd (none-some (reply, new) e)
tail_keeps writer old (Looked kind front) reply new sound at e =
    let spent = is_spent old.size old.tail in
    let full = is_full old.size front old.tail in
    let next = with_phase writer.number (room_phase spent full kind) old in
    let made = some_pair_parts (room_reply spent full front old.tail) reply next new e in
    subst (Keeps old) made.1 (room_keeps writer.number kind front old spent full sound at refl refl)
tail_keeps writer old (Cleared kind) reply new sound at e = absurd (none-some (reply, new) e)
tail_keeps writer old (Claimed place kind is_filled) reply new sound at e = absurd (none-some (reply, new) e)
