-- What the last state of a ring's table tells, when all its ends are in one seat: every place that nobody took is published.
use Rattle.tmw_ring.proofs.Shared.{Answered, AreInOrder, Claimed, Core, Final, IsHeld, IsPublished, IsReader, IsReal, Knows, Lies, List, Me, PartFits, Parts, ReaderFits, ReaderPart, Reads, RingSize, Runs, Seen, Shown, Sound, WriterIs, [], ap, arith, get_elem?, get_or, inl, inr, length, map, new_core, part_of, reader_in, refl, slice_get, slice_get_within, some, subst, suc, sym, words_of, zero, ℕ, ◌++◌, ◌<◌, ◌∙◌, ◌∷◌, ◌≡◌, ◌≤◌}

-- The ring at its end, when its ends knew this.
pub record Ended (size : RingSize) (reader : ReaderPart) (writers : List WriterIs) (words : List ℕ) : Type 0 where
  pub core : Core
  pub sized : core.size ≡ size
  pub sound : Sound core
  pub real : IsReal core
  pub shown : words ≡ words_of core
  pub reads : ReaderFits core reader
  pub writes : (number : ℕ) (fallback : WriterIs) → number < length writers → PartFits core (part_of (get_or writers number fallback))
  pub run : List Answered
  pub ran : Runs (new_core size) run core
  pub reader_knows : Knows run (Reads reader)
  pub writers_know : (number : ℕ) (fallback : WriterIs) → number < length writers → Knows run (part_of (get_or writers number fallback))

-- A writer's part stands where the writer does.
part_at : (writers : List WriterIs) (number : ℕ) (fallback : WriterIs) → number < length writers
    → get_elem? (map part_of writers) number ≡ some (part_of (get_or writers number fallback))
part_at [] number fallback within = absurd (omega arith)
part_at (writer ∷ writers) zero fallback within = refl
part_at (writer ∷ writers) (suc number) fallback within = part_at writers number fallback (omega arith)

module _ {S : Type 0} where
  pub ended : (size : RingSize) (reader : ReaderPart) (writers : List WriterIs) (seat : ℕ) (parts : Parts) (words : List ℕ) (slots : List S)
      → parts ≡ Reads reader ∷ map part_of writers → Final (Seen (Shown {S = S} size) seat parts) words slots
      → Ended size reader writers words
  ended size reader writers seat parts words slots are final =
      let state = final.0 in
      let shown = final.1.0 in
      let seated = final.1.1 ∙ ap some are in
      let reader_lies : Lies state seat 0 (Reads reader) =
      record { view = Reads reader ∷ map part_of writers; seated = seated; placed = refl } in
      let writer_lies : (number : ℕ) (fallback : WriterIs) → number < length writers
      → Lies state seat (suc number) (part_of (get_or writers number fallback)) =
      λ number fallback within.
      record { view = Reads reader ∷ map part_of writers; seated = seated; placed = part_at writers number fallback within } in
      record {
        core = shown.core;
        sized = shown.sized;
        sound = shown.sound;
        real = shown.real;
        shown = sym final.2 ∙ shown.words;
        reads = (shown.each seat 0 (Reads reader) reader_lies).0;
        writes = λ number fallback within.
            (shown.each seat (suc number) (part_of (get_or writers number fallback)) (writer_lies number fallback within)).0;
        run = shown.run;
        ran = shown.ran;
        reader_knows = shown.knows seat 0 (Reads reader) reader_lies;
        writers_know = λ number fallback within.
            shown.knows seat (suc number) (part_of (get_or writers number fallback)) (writer_lies number fallback within);
      }

  -- The ring at its end, once the reader's seat has taken in all writers' parts.
  pub ended_joined : (told size : RingSize) (writers : List WriterIs) (seat : ℕ) (old new : Me S Parts) (words : List ℕ) (slots : List S)
      → told ≡ size → IsReader (reader_in old.0) old → new ≡ (old.0 ++ map part_of writers, old.1)
      → Final (Seen (Shown {S = S} told) seat new.0) words slots → Ended size (reader_in old.0) writers words
  ended_joined told size writers seat old new words slots same is joined final =
      subst (λ (s : RingSize). Ended s (reader_in old.0) writers words) same
      (ended told (reader_in old.0) writers seat new.0 words slots
      (ap (λ (m : Me S Parts). m.0) joined ∙ ap (λ (m : Me S Parts). m.0 ++ map part_of writers) is) final)

-- Nothing is held when all writers are idle.
pub none_held : (size : RingSize) (reader : ReaderPart) (writers : List WriterIs) (words : List ℕ)
    → (ends : Ended size reader writers words) → length writers ≡ size.writers → AreInOrder writers
    → (place : ℕ) → IsHeld ends.core place → ⊥
none_held size reader [] words ends count order place held = grind arith
none_held size reader (first ∷ rest) words ends count order place held =
    let below = slice_get_within ends.core.writers held.writer (Claimed place held.kind held.is_filled) held.claimed in
    let are = ends.sound.writers ∙ ap (λ (s : RingSize). s.writers) ends.sized in
    let within : held.writer < length (first ∷ rest) = omega arith in
    let fits = ends.writes held.writer first within in grind (arith, slice_get)

-- So all places from front to tail are published.
pub all_published : (size : RingSize) (reader : ReaderPart) (writers : List WriterIs) (words : List ℕ)
    → (ends : Ended size reader writers words) → length writers ≡ size.writers → AreInOrder writers
    → (place : ℕ) → ends.core.front ≤ place → place < ends.core.tail → IsPublished ends.core place
all_published size reader writers words ends count order place low high =
    elim (ends.sound.places place low high) [
      | inl held ↦ absurd (none_held size reader writers words ends count order place held)
      | inr published ↦ published
    ]
