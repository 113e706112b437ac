-- The reader's steps leave a sound ring sound, and what it takes is the log's next event.
use Rattle.tmw_ring_defs.proofs.Shared.{Bool, Core, Event, HasRead, IsPublished, List, ReaderPhase, Ready, Reply, Some, Sound, Spares, Stepped, Told, Waiting, [], ap, arith, cases_lt, cell_at, eqb-true, false, free_step, get_or, get_or_from_slice_get, if◌then◌else◌, inl, inr, length, length_push, none-some, packed_header, peek_step, read_step, refl, slice_get_within, some_pair_parts, subst, sym, take, take_more, true, unpacked, unpacked-pack, ℕ, ◌++◌, ◌+◌, ◌<◌, ◌==◌, ◌∙◌, ◌∷◌, ◌≡◌, ◌≢◌, ◌≤◌}
use Rattle.tmw_ring_defs.proofs.RingPlaces.{published_still, holds_still, read_still}
use Rattle.tmw_ring_defs.proofs.RingStores.{stamp_low}
use Rattle.tmw_ring_defs.specs.declared.ring_step.Reply.TheVariants.{Ready as IsReady, NotReady, Word, Taken}

-- The reader goes on to another phase, having read what it says.
reader_keeps : (core : Core) (phase : ReaderPhase) → Sound core → HasRead core phase
    → Sound (record core { reader = phase }) × Spares core (record core { reader = phase })
reader_keeps core phase sound read =
    let moved : Core = record core { reader = phase } in
    let still : (place : ℕ) → IsPublished core place → IsPublished moved place =
    λ place was. published_still core moved place (λ p event logged. logged) refl was in (
      record {
        cells = sound.cells;
        writers = sound.writers;
        tail = sound.tail;
        front = sound.front;
        begins = sound.begins;
        order = sound.order;
        room = sound.room;
        limited = sound.limited;
        looks = sound.looks;
        places = λ place low high. elim (sound.places place low high) [
          | inl held ↦ inl (record { writer = held.writer; kind = held.kind; is_filled = held.is_filled; claimed = held.claimed })
          | inr published ↦ inr (still place published)
        ];
        holds = λ writer place kind is_filled claimed.
            let was = sound.holds writer place kind is_filled claimed in
            holds_still core moved writer place kind is_filled (λ p event logged. logged) was.standing refl was;
        once = sound.once;
        stamps = sound.stamps;
        reads = read_still core moved phase (λ was. (still core.front was, refl)) read;
      },
      λ place low published. refl,
    )

-- Where the next place's cell has its stamp, it was claimed and nobody holds it: it is published.
stamped_front : (core : Core) → Sound core → (cell_at core core.front).stamp ≡ core.front + 1 → IsPublished core core.front
stamped_front core sound stamped =
    elim (sound.places core.front (omega arith) (omega (arith, stamp_low core core.front sound, stamped))) [
      | inl held ↦ absurd ((sound.holds held.writer core.front held.kind held.is_filled held.claimed).unstamped stamped)
      | inr published ↦ published
    ]

pub peek_keeps : (old : Core) (reply : Reply) (new : Core) → Sound old → peek_step old old.reader ≡ Some (reply, new)
    → Sound new × Spares old new
peek_keeps old reply new sound e = from old.reader e
  where
    by_test : (test : Bool) → ((cell_at old old.front).stamp == old.front + 1) ≡ test
        → ◌≡◌ {A = Stepped} (if test then Some (IsReady, record old { reader = Ready (cell_at old old.front).header }) else Some (NotReady, old)) (Some (reply, new))
        → Sound new × Spares old new
    by_test true is e =
        let next = stamped_front old sound (eqb-true (cell_at old old.front).stamp (old.front + 1) is) in
        let phase : ReaderPhase = Ready (cell_at old old.front).header in
        let made = some_pair_parts IsReady reply (record old { reader = phase }) new e in
        subst (λ c. Sound c × Spares old c) made.1 (reader_keeps old phase sound (next, next.shown.header))
    by_test false is e =
        subst (λ c. Sound c × Spares old c) (some_pair_parts NotReady reply old new e).1 (sound, λ place low p. refl)

    from : (phase : ReaderPhase) → peek_step old phase ≡ Some (reply, new) → Sound new × Spares old new
    from Waiting e = by_test ((cell_at old old.front).stamp == old.front + 1) refl e
    from (Ready header) e = absurd (none-some (reply, new) e)
    from (Told header value) e = absurd (none-some (reply, new) e)

pub read_keeps : (old : Core) (reply : Reply) (new : Core) → Sound old → read_step old old.reader ≡ Some (reply, new)
    → Sound new × Spares old new
read_keeps old reply new sound e = from old.reader sound.reads e
  where
    from : (phase : ReaderPhase) → HasRead old phase → read_step old phase ≡ Some (reply, new) → Sound new × Spares old new
    from Waiting read e = absurd (none-some (reply, new) e)
    from (Ready header) read e =
        let value = (cell_at old old.front).value in
        let phase : ReaderPhase = Told header value in
        let made = some_pair_parts (Word value) reply (record old { reader = phase }) new e in
        subst (λ c. Sound c × Spares old c) made.1 (reader_keeps old phase sound (read.0, read.1, read.0.shown.value))
    from (Told header value) read e = absurd (none-some (reply, new) e)

-- the words read tell the event of the next place
told_event : (core : Core) (header value : ℕ) (read : HasRead core (Told header value)) → unpacked header value ≡ read.0.event
told_event core header value read =
    ap (λ h. unpacked h value) read.1 ∙ ap (unpacked (packed_header read.0.event)) read.2 ∙ unpacked-pack read.0.event

-- the state after the event was taken
abbrev with_taken : Core → Event → Core
with_taken core event = record core { front = core.front + 1; reader = Waiting; taken = core.taken ++ event ∷ [] }

-- The next event is taken, and its place is free.
taken_keeps : (core : Core) → Sound core → (next : IsPublished core core.front) → Sound (with_taken core next.event) × Spares core (with_taken core next.event)
taken_keeps core sound next =
    let moved : Core = with_taken core next.event in
    let within : core.front < length core.log = slice_get_within core.log core.front next.event next.logged in
    let at : get_or core.log core.front next.event ≡ next.event =
    get_or_from_slice_get core.log core.front next.event next.event next.logged in (
      record {
        cells = sound.cells;
        writers = sound.writers;
        tail = sound.tail;
        front = ap (λ (n : ℕ). n + 1) sound.front ∙ sym (length_push core.taken next.event);
        begins = ap (λ (events : List Event). events ++ next.event ∷ []) sound.begins
            ∙ ap (λ event. take core.front core.log ++ event ∷ []) (sym at)
            ∙ sym (take_more core.log core.front next.event within);
        order = omega (arith, within, sound.tail);
        room = omega (arith, sound.room);
        limited = sound.limited;
        looks = λ writer front kind looked. omega (arith, sound.looks writer front kind looked);
        places = λ place low high. elim (sound.places place (omega (arith, low)) high) [
          | inl held ↦ inl (record { writer = held.writer; kind = held.kind; is_filled = held.is_filled; claimed = held.claimed })
          | inr published ↦ inr (published_still core moved place (λ p event logged. logged) refl published)
        ];
        holds = λ writer place kind is_filled claimed.
            let was = sound.holds writer place kind is_filled claimed in
            holds_still core moved writer place kind is_filled (λ p event logged. logged) (past place was.standing was.unstamped) refl was;
        once = sound.once;
        stamps = sound.stamps;
        reads = tt;
      },
      λ place low published. refl,
    )
  where
    -- a place that isn't stamped is not the next
    past : (place : ℕ) → core.front ≤ place → (cell_at core place).stamp ≢ place + 1 → core.front + 1 ≤ place
    past place low unstamped = elim (cases_lt core.front place) [
      | inl later ↦ omega (arith, later)
      | inr upto ↦
          let same : core.front ≡ place = omega (arith, low, upto) in
          absurd (unstamped (subst (λ p. (cell_at core p).stamp ≡ p + 1) same next.shown.stamp))
    ]

pub free_keeps : (old : Core) (reply : Reply) (new : Core) → Sound old → free_step old old.reader ≡ Some (reply, new)
    → Sound new × Spares old new
free_keeps old reply new sound e = from old.reader sound.reads e
  where
    from : (phase : ReaderPhase) → HasRead old phase → free_step old phase ≡ Some (reply, new) → Sound new × Spares old new
    from Waiting read e = absurd (none-some (reply, new) e)
    from (Ready header) read e = absurd (none-some (reply, new) e)
    from (Told header value) read e =
        let event = unpacked header value in
        let made = some_pair_parts (Taken event) reply (with_taken old event) new e in
        subst (λ c. Sound c × Spares old c) made.1
        (subst (λ v. Sound (with_taken old v) × Spares old (with_taken old v)) (sym (told_event old header value read)) (taken_keeps old sound read.0))
