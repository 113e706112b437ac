-- A ring that has all its ends back has the rest of the log in its words.
use Rattle.tmw_ring.proofs.Shared.{AreInOrder, Core, Event, HasEvent, IsSettled, List, ReaderPart, RingSize, Runs, Sound, TableId, WriterIs, ap, arith, drop, events_from, get_elem?, get_or, length, made_from, new_core, reader_is, refl, slice_get-get_or, some, subst, sym, take-append-drop, words_of, ℕ, ◌++◌, ◌-◌, ◌<◌, ◌^◌, ◌∙◌, ◌≡◌, ◌≤◌}
use Rattle.tmw_ring.proofs.LastStates.{Ended, all_published}
use Rattle.tmw_ring.proofs.PublishedWords.{has_event, events_logged}

-- what the words say of front and tail
pub record Counted (reader : ReaderPart) (words : List ℕ) (front tail : ℕ) : Type 0 where
  pub front_is : length reader.taken ≡ front
  pub tail_is : get_elem? words 0 ≡ some tail

counts : (size : RingSize) (reader : ReaderPart) (writers : List WriterIs) (words : List ℕ) (front tail : ℕ)
    → (ends : Ended size reader writers words) → Counted reader words front tail → (ends.core.front ≡ front) × (ends.core.tail ≡ tail)
counts size reader writers words front tail ends counted = grind arith

few_claimed : (core : Core) → Sound core → core.tail ≤ 2 ^ 40
few_claimed core sound = omega (arith, sound.limited, core.size.most_places)

-- The log is what was taken and what is left.
pub settles : (table : TableId) (size : RingSize) (reader : ReaderPart) (writers : List WriterIs) (words : List ℕ) (front tail : ℕ)
    → Ended size reader writers words → length writers ≡ size.writers → AreInOrder writers → Counted reader words front tail
    → IsSettled (reader_is table reader) writers (events_from words size.cells front (tail - front))
settles table size reader writers words front tail ends count order counted =
    let core = ends.core in
    let is = counts size reader writers words front tail ends counted in
    let few = few_claimed core ends.sound in
    let order_is = ends.sound.order in
    let published = all_published size reader writers words ends count order in
    let rest : events_from words size.cells front (tail - front) ≡ drop core.front core.log =
    ap (λ (all : List ℕ). events_from all size.cells front (tail - front)) ends.shown
    ∙ ap (λ (s : RingSize). events_from (words_of core) s.cells front (tail - front)) (sym ends.sized)
    ∙ ap (λ (n : ℕ). events_from (words_of core) core.size.cells n (tail - n)) (sym is.0)
    ∙ events_logged core core.front (tail - core.front) ends.sound ends.real (omega arith) (omega (arith, is.1, order_is)) published in
    record {
      log = core.log;
      few = omega (arith, few, ends.sound.tail);
      rest = sym (take-append-drop core.front core.log)
          ∙ ap (λ (events : List Event). events ++ drop core.front core.log) (sym (ends.reads.taken ∙ ends.sound.begins))
          ∙ ap (λ (events : List Event). reader.taken ++ events) (sym rest);
      own = λ place fallback within.
          let real =
          ends.real.events place (get_or core.log place fallback) (slice_get-get_or core.log place fallback within) in
          omega (arith, real.thread, ap (λ (s : RingSize). s.writers) ends.sized, count);
      made = λ number fallback within.
          let fits = ends.writes number fallback within in
          fits.made ∙ ap (λ (n : ℕ). made_from n 0 core.log) (order number fallback within);
      seen = λ number fallback within.
          let fits = ends.writes number fallback within in
          omega (arith, fits.seen, ends.sound.tail);
      run = ends.run;
      run_to = (
        core,
        subst (λ (z : RingSize). Runs (new_core z) ends.run core) (sym (ends.reads.sized ∙ ends.sized)) ends.ran,
        refl,
      );
      reader_gone = ends.reader_knows;
      writers_gone = ends.writers_know;
    }

-- What is left stands in the words.
pub record Left (words : List ℕ) (cells front tail : ℕ) : Type 0 where
  pub some : 0 < cells
  pub small : cells ≤ 4096
  pub few : tail ≤ 2 ^ 40
  pub order : front ≤ tail
  pub events : (place : ℕ) → front ≤ place → place < tail → HasEvent words cells place

pub leaves : (size : RingSize) (reader : ReaderPart) (writers : List WriterIs) (words : List ℕ) (front tail : ℕ)
    → Ended size reader writers words → length writers ≡ size.writers → AreInOrder writers → Counted reader words front tail
    → Left words size.cells front tail
leaves size reader writers words front tail ends count order counted =
    let core = ends.core in
    let is = counts size reader writers words front tail ends counted in
    let few = few_claimed core ends.sound in
    let order_is = ends.sound.order in
    let cells : core.size.cells ≡ size.cells = ap (λ (s : RingSize). s.cells) ends.sized in
    record {
      some = omega (arith, size.some_writers, size.enough_cells);
      small = size.most_cells;
      few = omega (arith, few, is.1);
      order = omega (arith, order_is, is.0, is.1);
      events = λ place low high.
          let at = all_published size reader writers words ends count order place (omega (arith, low, is.0)) (omega (arith, high, is.1)) in
          subst (λ (all : List ℕ). HasEvent all size.cells place) (sym ends.shown)
          (subst (λ (n : ℕ). HasEvent (words_of core) n place) cells (has_event core place ends.sound ends.real at));
    }
