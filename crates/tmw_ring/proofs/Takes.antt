-- Each step of the reader keeps the rule of a ring's table, and tells the reader what it finds.
use Rattle.tmw_ring.proofs.Shared.{Allows, Answered, Bool, Core, Event, HasRead, IsHeader, IsReadyReader, IsReal, IsRun, IsToldEvent, IsToldReader, IsWaitingReader, List, Me, Part, PartFits, Parts, PlaceFreed, ReaderFits, ReaderMade, ReaderPart, ReaderPhase, Reads, Ready, RingCell, RingSize, Shown, Some, Sound, StampSeen, State, Stepped, Told, ValueRead, Waiting, [], after_free, after_look, after_read, ap, apart, arith, cell_at, cell_words, empty_cell, false, free_step, freeing, front_word, get_elem?, gone-step, has_cell, header_of, if◌then◌else◌, keeps, key, length, new_core, next_event, pack-words, peek_step, peeking, phase_after, phase_with, read_step, reader_actor, reader_in, reading, refl, runs-append, set, set-get_or, slice_index, some, stamp_of, stamp_word, stamped-parts, standing, stepped, subst, sym, true, unpacked, value_word, whole, words_of, ℕ, ◌%◌, ◌++◌, ◌+◌, ◌==◌, ◌^◌, ◌∙◌, ◌∷◌, ◌≡◌, ◌≢◌, ◌≤◌}
use Rattle.tmw_ring_defs.proofs.RingTakes.{peek_keeps, read_keeps, free_keeps}
use Rattle.tmw_ring.proofs.Moves.{Makes, moves}
use Rattle.tmw_ring.proofs.Words.{stamp_found, value_found}
use Rattle.tmw_ring_defs.specs.declared.ring_step.Reply.TheVariants.{Ready as IsReady, NotReady, Word, Taken}

-- the ring whose reader has come so far
abbrev with_reader : Core → ℕ → ReaderPhase → List Event → Core
with_reader core front phase taken = record core { front = front; reader = phase; taken = taken }

-- The writers' parts fit it.
others_fit : (core : Core) (front : ℕ) (phase : ReaderPhase) (taken : List Event) (other : Part) → key other ≢ 0 → PartFits core other
    → PartFits (with_reader core front phase taken) other
others_fit core front phase taken other apart fits = grind arith

-- Its numbers are real.
reader_real : (core : Core) (front : ℕ) (phase : ReaderPhase) (taken : List Event) → IsReal core
    → IsReal (with_reader core front phase taken)
reader_real core front phase taken real = record { headers = real.headers; events = real.events; phases = real.phases }

when_true : {A : Type 0} (test : Bool) (a b : A) → test ≡ true → (if test then a else b) ≡ a
when_true test a b is = rw is refl

-- A waiting reader's look at the next place's stamp and header, and what it is answered.
peek_makes : (core : Core) (stamp header : ℕ) (test : Bool) → core.reader ≡ Waiting → (cell_at core core.front).stamp ≡ stamp
    → (cell_at core core.front).header ≡ header → (stamp == core.front + 1) ≡ test
    → peek_step core core.reader
    ≡ Some (if test then IsReady else NotReady, with_reader core core.front (if test then Ready header else Waiting) core.taken)
peek_makes core stamp header test waiting is_stamp is_header is = grind arith

-- A look at the next place's stamp and header leaves a sound ring.
look_sound : (core : Core) (stamp header : ℕ) (test : Bool) → Sound core → core.reader ≡ Waiting
    → (cell_at core core.front).stamp ≡ stamp → (cell_at core core.front).header ≡ header → (stamp == core.front + 1) ≡ test
    → Sound (with_reader core core.front (if test then Ready header else Waiting) core.taken)
look_sound core stamp header true sound waiting is_stamp is_header is =
    let cell : RingCell = cell_at core core.front in
    let next : Core = record core { reader = Ready cell.header } in
    let tested : (cell.stamp == core.front + 1) ≡ true = ap (λ (n : ℕ). n == core.front + 1) is_stamp ∙ is in
    let peeked : peek_step core core.reader ≡ Some (IsReady, next) =
    ap (peek_step core) waiting ∙ when_true (cell.stamp == core.front + 1) (Some (IsReady, next)) (Some (NotReady, core)) tested in
    subst (λ (h : ℕ). Sound (with_reader core core.front (Ready h) core.taken)) is_header (peek_keeps core IsReady next sound peeked).0
look_sound core stamp header false sound waiting is_stamp is_header is =
    subst (λ (phase : ReaderPhase). Sound (with_reader core core.front phase core.taken)) waiting sound

-- Reading the next place's value leaves a sound ring.
read_sound : (core : Core) (header value : ℕ) → Sound core → core.reader ≡ Ready header → (cell_at core core.front).value ≡ value
    → Sound (with_reader core core.front (Told header value) core.taken)
read_sound core header value sound ready is =
    let found : ℕ = (cell_at core core.front).value in
    subst (λ (v : ℕ). Sound (with_reader core core.front (Told header v) core.taken)) is
    (read_keeps core (Word found) (record core { reader = Told header found }) sound (ap (read_step core) ready)).0

-- The words that the reader then knows are an event's.
read_event : (core : Core) (header value : ℕ) → Sound core → IsReal core → core.reader ≡ Ready header
    → (cell_at core core.front).value ≡ value → IsToldEvent (Told header value)
read_event core header value sound real ready is =
    let read : HasRead core (Ready header) = subst (HasRead core) ready sound.reads in
    record {
      event = read.0.event;
      fits = (real.events core.front read.0.event read.0.logged).value;
      words = pack-words header value read.0.event read.1 (sym is ∙ read.0.shown.value);
    }

-- Freeing the next place leaves a sound ring.
free_sound : (core : Core) (header value : ℕ) → Sound core → core.reader ≡ Told header value
    → Sound (with_reader core (core.front + 1) Waiting (core.taken ++ unpacked header value ∷ []))
free_sound core header value sound told =
    let event : Event = unpacked header value in
    (free_keeps core (Taken event) (with_reader core (core.front + 1) Waiting (core.taken ++ event ∷ [])) sound (ap (free_step core) told)).0

-- No more than 2^40 places are freed.
front_small : (core : Core) → Sound core → core.front ≤ 2 ^ 40
front_small core sound = omega (arith, sound.order, sound.limited, core.size.most_places)

module _ {S : Type 0} where
  reader_fits : (size : RingSize) (state : State S Parts) (shown : Shown size state) (seat : ℕ) (part : ReaderPart)
      → get_elem? state.views seat ≡ some (Reads part ∷ []) → ReaderFits shown.core part
  reader_fits size state shown seat part seated =
      (shown.each seat 0 (Reads part) (record { view = Reads part ∷ []; seated = seated; placed = refl })).0

  -- So many events as it has taken the ring has freed.
  front_of : (size : RingSize) (state : State S Parts) (shown : Shown size state) (part : ReaderPart)
      → ReaderFits shown.core part → length part.taken ≡ shown.core.front
  front_of size state shown part fits = ap (λ (events : List Event). length events) fits.taken ∙ sym shown.sound.front

  -- A step of the reader keeps the rule.
  reader_moves : (size : RingSize) (state : State S Parts) (shown : Shown size state) (seat word value front : ℕ) (phase : ReaderPhase)
      (taken events : List Event) (answered : Answered) (part : ReaderPart) → get_elem? state.views seat ≡ some (Reads part ∷ [])
      → Makes reader_actor shown.core answered (with_reader shown.core front phase taken) → Sound (with_reader shown.core front phase taken) → set state.words word value ≡ words_of (with_reader shown.core front phase taken)
      → events ≡ taken
      → Shown size (stepped state word value seat []
      (Reads (record part { phase = phase; taken = events; run = shown.run ++ answered ∷ [] }) ∷ []) keeps)
  reader_moves size state shown seat word value front phase taken events answered part seated makes sound words same =
      moves size state shown seat word value (Reads part)
      (Reads (record part { phase = phase; taken = events; run = shown.run ++ answered ∷ [] })) (with_reader shown.core front phase taken)
      answered seated refl sound (reader_real shown.core front phase taken shown.real) words makes refl refl
      (record { sized = (reader_fits size state shown seat part seated).sized; phase = refl; taken = same })
      (others_fit shown.core front phase taken)

  -- What the reader has made, once the ring has run so.
  reader_made : (size : RingSize) (state : State S Parts) (shown : Shown size state) (seat : ℕ) (part : ReaderPart) (next : Core)
      (answered : Answered) → get_elem? state.views seat ≡ some (Reads part ∷ []) → Makes reader_actor shown.core answered next
      → ReaderMade part answered (shown.run ++ answered ∷ [])
  reader_made size state shown seat part next answered seated makes =
      let fits = reader_fits size state shown seat part seated in
      let knows = shown.knows seat 0 (Reads part) (record { view = Reads part ∷ []; seated = seated; placed = refl }) in
      let ran = runs-append (new_core size) shown.core next shown.run (answered ∷ []) shown.ran (next, makes.step, refl) in
      record {
        gone = gone-step reader_actor part.run shown.run answered makes.whose knows;
        is_run = subst (λ (z : RingSize). IsRun z (shown.run ++ answered ∷ [])) (sym (fits.sized ∙ shown.sized)) (next, ran);
      }

  look_allowed : (size : RingSize) (slots seat front : ℕ) (part : ReaderPart) → part.phase ≡ Waiting → length part.taken ≡ front
      → Allows {S = S} (Shown size) slots seat (Reads part ∷ [], []) (stamp_word size.cells front) (λ found. found)
      (StampSeen (Reads part ∷ [], []))
  look_allowed size slots seat front part waiting counted state shown homes seated small =
      let core : Core = shown.core in
      let fits = reader_fits size state shown seat part seated in
      let is_front : length part.taken ≡ core.front = front_of size state shown part fits in
      let word : ℕ = stamp_word size.cells front in
      let found : ℕ = slice_index state.words word in
      let cell : RingCell = cell_at core core.front in
      let is_word : word ≡ stamp_word core.size.cells core.front =
      ap (λ (s : RingSize). stamp_word s.cells front) (sym shown.sized)
      ∙ ap (λ (n : ℕ). stamp_word core.size.cells n) (sym counted ∙ is_front) in
      let header_small : IsHeader cell.header =
      shown.real.headers (core.front % core.size.cells) empty_cell (has_cell core core.front shown.sound) in
      let parts = stamped-parts cell.stamp cell.header header_small in
      let is_found = ap (λ (words : List ℕ). slice_index words word) shown.words ∙ ap (slice_index (words_of core)) is_word
      ∙ stamp_found core core.front (has_cell core core.front shown.sound) in
      let is_stamp : cell.stamp ≡ stamp_of found = sym (ap stamp_of is_found ∙ parts.0) in
      let is_header : cell.header ≡ header_of found = sym (ap header_of is_found ∙ parts.1) in
      let test : Bool = stamp_of found == length part.taken + 1 in
      let tested : (stamp_of found == core.front + 1) ≡ test = ap (λ (n : ℕ). stamp_of found == n + 1) (sym is_front) in
      let is_waiting : core.reader ≡ Waiting = sym fits.phase ∙ waiting in
      let sound = look_sound core (stamp_of found) (header_of found) test shown.sound is_waiting is_stamp is_header tested in
      let next : Core = with_reader core core.front (phase_after (length part.taken) found) core.taken in
      let makes : Makes reader_actor core (peeking found part) next =
      record { step = peek_makes core (stamp_of found) (header_of found) test is_waiting is_stamp is_header tested; whose = refl } in (
        Reads (after_look part found (shown.run ++ peeking found part ∷ [])) ∷ [],
        keeps,
        tt,
        reader_moves size state shown seat word found core.front (phase_after (length part.taken) found) core.taken part.taken
            (peeking found part) part seated makes sound (set-get_or state.words word 0 ∙ shown.words) fits.taken,
        record {
          seated = refl;
          steps = reader_made size state shown seat part next (peeking found part) seated makes;
          few = omega (arith, is_front, front_small core shown.sound);
        },
      )

  -- A waiting reader may look at the next place's stamp.
  pub may_look : (size : RingSize) (slots seat front word : ℕ) (me : Me S Parts) → word ≡ stamp_word size.cells front → IsWaitingReader front me
      → Allows (Shown size) slots seat me word (λ found. found) (StampSeen me)
  may_look size slots seat front word me is_word is =
      subst (λ (m : Me S Parts). Allows (Shown size) slots seat m word (λ found. found) (StampSeen m)) (sym is.seated)
      (subst (λ (w : ℕ). Allows {S = S} (Shown size) slots seat (Reads (reader_in me.0) ∷ [], []) w (λ found. found)
      (StampSeen (Reads (reader_in me.0) ∷ [], [])))
      (sym is_word) (look_allowed size slots seat front (reader_in me.0) is.waiting is.counted))

  read_allowed : (size : RingSize) (slots seat front header : ℕ) (part : ReaderPart) → part.phase ≡ Ready header → length part.taken ≡ front
      → Allows {S = S} (Shown size) slots seat (Reads part ∷ [], []) (value_word size.cells front) (λ found. found)
      (ValueRead (Reads part ∷ [], []))
  read_allowed size slots seat front header part ready counted state shown homes seated small =
      let core : Core = shown.core in
      let fits = reader_fits size state shown seat part seated in
      let is_front : length part.taken ≡ core.front = front_of size state shown part fits in
      let word : ℕ = value_word size.cells front in
      let found : ℕ = slice_index state.words word in
      let is_word : word ≡ value_word core.size.cells core.front =
      ap (λ (s : RingSize). value_word s.cells front) (sym shown.sized)
      ∙ ap (λ (n : ℕ). value_word core.size.cells n) (sym counted ∙ is_front) in
      let is_value : (cell_at core core.front).value ≡ found =
      sym (ap (λ (words : List ℕ). slice_index words word) shown.words ∙ ap (slice_index (words_of core)) is_word
      ∙ value_found core core.front (has_cell core core.front shown.sound)) in
      let is_ready : core.reader ≡ Ready header = sym fits.phase ∙ ready in
      let is_told : Told header found ≡ phase_with part.phase found = ap (λ (phase : ReaderPhase). phase_with phase found) (sym ready) in
      let next : Core = with_reader core core.front (phase_with part.phase found) core.taken in
      let answer : ReaderPhase → ℕ → Stepped = λ phase value. Some (Word value, with_reader core core.front phase core.taken) in
      let makes : Makes reader_actor core (reading found) next = record {
        step = ap (read_step core) is_ready ∙ ap (λ (value : ℕ). answer (Told header value) value) is_value
            ∙ ap (λ (phase : ReaderPhase). answer phase found) is_told;
        whose = refl;
      } in (
        Reads (after_read part found (shown.run ++ reading found ∷ [])) ∷ [],
        keeps,
        tt,
        reader_moves size state shown seat word found core.front (phase_with part.phase found) core.taken part.taken (reading found) part
            seated makes
            (subst (λ (phase : ReaderPhase). Sound (with_reader core core.front phase core.taken)) is_told
            (read_sound core header found shown.sound is_ready is_value))
            (set-get_or state.words word 0 ∙ shown.words) fits.taken,
        record {
          seated = refl;
          steps = reader_made size state shown seat part next (reading found) seated makes;
          event = subst IsToldEvent is_told (read_event core header found shown.sound shown.real is_ready is_value);
        },
      )

  -- A ready reader may read the next place's value.
  pub may_read : (size : RingSize) (slots seat front word : ℕ) (me : Me S Parts) → word ≡ value_word size.cells front → IsReadyReader front me
      → Allows (Shown size) slots seat me word (λ found. found) (ValueRead me)
  may_read size slots seat front word me is_word is =
      subst (λ (m : Me S Parts). Allows (Shown size) slots seat m word (λ found. found) (ValueRead m)) (sym is.seated)
      (subst (λ (w : ℕ). Allows {S = S} (Shown size) slots seat (Reads (reader_in me.0) ∷ [], []) w (λ found. found)
      (ValueRead (Reads (reader_in me.0) ∷ [], [])))
      (sym is_word) (read_allowed size slots seat front is.header (reader_in me.0) is.ready is.counted))

  free_allowed : (size : RingSize) (slots seat front header value : ℕ) (part : ReaderPart) → part.phase ≡ Told header value
      → length part.taken ≡ front
      → Allows {S = S} (Shown size) slots seat (Reads part ∷ [], []) front_word (λ found. front + 1)
      (λ found. PlaceFreed (Reads part ∷ [], []))
  free_allowed size slots seat front header value part told counted state shown homes seated small =
      let core : Core = shown.core in
      let fits = reader_fits size state shown seat part seated in
      let is_front : front ≡ core.front = sym counted ∙ front_of size state shown part fits in
      let event : Event = unpacked header value in
      let next : Core = with_reader core (core.front + 1) Waiting (core.taken ++ event ∷ []) in
      let sound : Sound next = free_sound core header value shown.sound (sym fits.phase ∙ told) in
      let same : part.taken ++ next_event part.phase ∷ [] ≡ core.taken ++ event ∷ [] =
      ap (λ (phase : ReaderPhase). part.taken ++ next_event phase ∷ []) told
      ∙ ap (λ (events : List Event). events ++ event ∷ []) fits.taken in
      let count : length (part.taken ++ next_event part.phase ∷ []) ≡ core.front + 1 =
      ap (λ (events : List Event). length events) same ∙ sym sound.front in
      let is_told : core.reader ≡ Told header value = sym fits.phase ∙ told in
      let makes : Makes reader_actor core (freeing (next_event part.phase)) next = record {
        step = ap (free_step core) is_told
            ∙ ap (λ (phase : ReaderPhase). let made : Stepped = Some (Taken (next_event phase), next) in made) (sym told);
        whose = refl;
      } in (
        Reads (after_free part (shown.run ++ freeing (next_event part.phase) ∷ [])) ∷ [],
        keeps,
        tt,
        reader_moves size state shown seat front_word (front + 1) (core.front + 1) Waiting (core.taken ++ event ∷ [])
            (part.taken ++ next_event part.phase ∷ []) (freeing (next_event part.phase)) part seated makes sound
            (ap (λ (words : List ℕ). set words front_word (front + 1)) shown.words
            ∙ ap (λ (n : ℕ). core.tail ∷ apart ((n + 1) ∷ apart (cell_words (standing core.cells 0 (whole (length core.cells)))))) is_front)
            same,
        record {
          seated = refl;
          steps = reader_made size state shown seat part next (freeing (next_event part.phase)) seated makes;
          few = omega (arith, count, front_small next sound);
        },
      )

  -- A reader that knows both words may free the place.
  pub may_free : (size : RingSize) (slots seat front : ℕ) (me : Me S Parts) → IsToldReader front me
      → Allows (Shown size) slots seat me front_word (λ found. front + 1) (λ found. PlaceFreed me)
  may_free size slots seat front me is =
      subst (λ (m : Me S Parts). Allows (Shown size) slots seat m front_word (λ found. front + 1) (λ found. PlaceFreed m))
      (sym is.seated) (free_allowed size slots seat front is.header is.value (reader_in me.0) is.told is.counted)
