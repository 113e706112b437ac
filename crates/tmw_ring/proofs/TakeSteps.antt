-- What the reader's steps, one after another, come to: an event is taken, or the next place was not published.
use Rattle.tmw_ring.proofs.Shared.{Answered, Event, HasFoundNone, HasMade, HasTaken, IsReadyReader, IsToldReader, IsWaitingReader, List, Me, Parts, Peek, PlaceFreed, ReaderMade, ReaderPart, ReaderPhase, Ready, StampSeen, TableId, ValueRead, [], after_free, after_look, after_read, ap, eq-eqb, freeing, header_of, length, made-then, ne_eqb, next_event, pack, peeking, phase_after, phase_with, reader_actor, reader_in, reader_is, reading, refl, stamp_of, subst, sym, unpacked-words, ℕ, ◌++◌, ◌+◌, ◌∙◌, ◌∷◌, ◌≡◌, ◌≢◌}
use Rattle.tmw_ring_defs.specs.declared.ring_step.Reply.TheVariants.{Ready as IsReady, NotReady}

-- how far the reader is where it found the next place's stamp
phase_ready : (count word : ℕ) → stamp_of word ≡ count + 1 → phase_after count word ≡ Ready (header_of word)
phase_ready count word is = rw (eq-eqb (stamp_of word) (count + 1) is) refl

-- what its look is answered there, and elsewhere
peek_ready : (word : ℕ) (part : ReaderPart) → stamp_of word ≡ length part.taken + 1
    → peeking word part ≡ record { step = Peek; reply = IsReady }
peek_ready word part is = rw (eq-eqb (stamp_of word) (length part.taken + 1) is) refl

peek_none : (word : ℕ) (part : ReaderPart) → stamp_of word ≢ length part.taken + 1
    → peeking word part ≡ record { step = Peek; reply = NotReady }
peek_none word part apart = rw (ne_eqb (stamp_of word) (length part.taken + 1) apart) refl

module _ {S : Type 0} where
  pub looked_ready : (front word : ℕ) (me after : Me S Parts) → IsWaitingReader front me → StampSeen me word after
      → stamp_of word ≡ front + 1 → IsReadyReader front after
  looked_ready front word me after is seen same =
      subst (λ (m : Me S Parts). IsReadyReader front m) (sym seen.seated) (record {
        header = header_of word;
        seated = refl;
        ready = phase_ready (length (reader_in me.0).taken) word (same ∙ ap (λ (n : ℕ). n + 1) (sym is.counted));
        counted = is.counted;
      })

  pub read_told : (front value : ℕ) (me after : Me S Parts) → IsReadyReader front me → ValueRead me value after → IsToldReader front after
  read_told front value me after is read =
      subst (λ (m : Me S Parts). IsToldReader front m) (sym read.seated) (record {
        header = is.header;
        value = value;
        seated = refl;
        told = ap (λ (phase : ReaderPhase). phase_with phase value) is.ready;
        counted = is.counted;
      })

  -- the reader after each step
  part_looked : (word : ℕ) (me after : Me S Parts) → StampSeen me word after → reader_in after.0 ≡ after_look (reader_in me.0) word (reader_in after.0).run
  part_looked word me after seen = ap (λ (m : Me S Parts). reader_in m.0) seen.seated

  part_read : (value : ℕ) (me after : Me S Parts) → ValueRead me value after → reader_in after.0 ≡ after_read (reader_in me.0) value (reader_in after.0).run
  part_read value me after read = ap (λ (m : Me S Parts). reader_in m.0) read.seated

  part_freed : (me after : Me S Parts) → PlaceFreed me after → reader_in after.0 ≡ after_free (reader_in me.0) (reader_in after.0).run
  part_freed me after freed = ap (λ (m : Me S Parts). reader_in m.0) freed.seated

  -- The next place was not published.
  pub looked_none : (table later : TableId) (front word : ℕ) (me after : Me S Parts) → IsWaitingReader front me → StampSeen me word after
      → stamp_of word ≢ front + 1 → HasFoundNone (reader_is table (reader_in me.0)) (reader_is later (reader_in after.0))
  looked_none table later front word me after is seen apart =
      let looked = part_looked word me after seen in
      record {
        taken = ap (λ (part : ReaderPart). part.taken) looked;
        steps = subst (λ (answered : Answered). ReaderMade (reader_in me.0) answered (reader_in after.0).run)
            (peek_none word (reader_in me.0) (λ same. apart (same ∙ ap (λ (n : ℕ). n + 1) is.counted))) seen.steps;
      }

  -- This event was taken.
  pub freed_taken : (table later : TableId) (front word value : ℕ) (event : Event) (me looked read after : Me S Parts)
      → IsWaitingReader front me → StampSeen me word looked → stamp_of word ≡ front + 1 → ValueRead looked value read
      → PlaceFreed read after → pack event ≡ (header_of word, value)
      → HasTaken (reader_is table (reader_in me.0)) event (reader_is later (reader_in after.0))
  freed_taken table later front word value event me looked read after is seen same told freed words =
      let old : ReaderPart = reader_in me.0 in
      let stamp : stamp_of word ≡ length old.taken + 1 = same ∙ ap (λ (n : ℕ). n + 1) (sym is.counted) in
      let one : List Answered = (reader_in looked.0).run in
      let two : List Answered = (reader_in read.0).run in
      let three : List Answered = (reader_in after.0).run in
      let was_looked : reader_in looked.0 ≡ after_look old word one = part_looked word me looked seen in
      let was_read : reader_in read.0 ≡ after_read (after_look old word one) value two =
      part_read value looked read told ∙ ap (λ (part : ReaderPart). after_read part value two) was_looked in
      let all : reader_in after.0 ≡ after_free (after_read (after_look old word one) value two) three =
      part_freed read after freed ∙ ap (λ (part : ReaderPart). after_free part three) was_read in
      let named : next_event (phase_with (phase_after (length old.taken) word) value) ≡ event =
      ap (λ (phase : ReaderPhase). next_event (phase_with phase value)) (phase_ready (length old.taken) word stamp)
      ∙ unpacked-words (header_of word) value event words in
      let peeked : HasMade old.size reader_actor (record { step = Peek; reply = IsReady } ∷ []) old.run one =
      subst (λ (answered : Answered). ReaderMade old answered one) (peek_ready word old stamp) seen.steps in
      let read_then : HasMade old.size reader_actor (reading value ∷ []) one two =
      subst (λ (part : ReaderPart). HasMade part.size reader_actor (reading value ∷ []) one two) was_looked told.steps in
      let freed_then : HasMade old.size reader_actor (freeing event ∷ []) two three =
      subst (λ (e : Event). HasMade old.size reader_actor (freeing e ∷ []) two three) named
      (subst (λ (part : ReaderPart). HasMade part.size reader_actor (freeing (next_event part.phase) ∷ []) two three) was_read freed.steps) in
      record {
        taken = ap (λ (part : ReaderPart). part.taken) all ∙ ap (λ (e : Event). old.taken ++ e ∷ []) named;
        few = freed.few;
        word = value;
        steps = made-then old.size reader_actor old.run (record { step = Peek; reply = IsReady } ∷ []) one
            (reading value ∷ freeing event ∷ []) three peeked
            (made-then old.size reader_actor one (reading value ∷ []) two (freeing event ∷ []) three read_then freed_then);
      }
