-- What the words of a sound ring are: a claimed place is small, and what the reader has read is an event's.
use Rattle.tmw_ring_steps.proofs.Shared.{Bool, HasRead, IsIn, Machine, Reply, Sound, [], answered, ap, arith, length, subst, ℕ, ◌++◌, ◌+◌, ◌<◌, ◌^◌, ◌∷◌, ◌≡◌}
use Rattle.std.proofs.lemmas.Option.{slice_get_within}
use Rattle.tmw_events.proofs.Unpacks.{unpacked-words, pack-words}
use Rattle.tmw_events.specs.EventWords.{pack, kind_value}
use Rattle.tmw_events.specs.Text.{FitsKind}
use Rattle.tmw_events.specs.EventOfWords.{AreOfEvent}
use Rattle.tmw_events.specs.declared.event.Event.{Event}
use Rattle.tmw_events.specs.declared.event.Kind.{Kind}
use Rattle.tmw_events.specs.declared.event.Kind.TheVariants.{R, V, W, K, T, C, X, A, N}
use Rattle.tmw_ring_defs.specs.RingCore.{Core}
use Rattle.tmw_ring_defs.specs.RingSteps.{core_step}
use Rattle.tmw_ring_defs.specs.declared.ring_phase.ReaderPhase.TheVariants.{Waiting, Told}
use Rattle.tmw_ring_defs.specs.declared.ring_phase.WriterPhase.{WriterPhase}
use Rattle.tmw_ring_defs.specs.declared.ring_phase.WriterPhase.TheVariants.{Claimed}
use Rattle.tmw_ring_defs.specs.declared.ring_step.Reply.TheVariants.{Taken}
use Rattle.tmw_ring_defs.specs.declared.ring_step.Step.TheVariants.{Free}

-- no place reaches the limit
pub claimed_small : (core : Core) (writer place : ℕ) (kind : Kind) (is_filled : Bool) → Sound core
    → IsIn core writer (Claimed place kind is_filled) → place < 2 ^ 40
claimed_small core writer place kind is_filled sound claimed =
    let held = sound.holds writer place kind is_filled claimed in
    grind (arith, slice_get_within)

-- a writer that is so far is one of the ring's
pub has_writer : (core : Core) (writer : ℕ) (phase : WriterPhase) → IsIn core writer phase → writer < length core.writers
has_writer core writer phase at = slice_get_within core.writers writer phase at

kind_fits : (kind : Kind) → kind_value kind < 2 ^ 64 → FitsKind kind
kind_fits (R register) small = tt
kind_fits (V value) small = small
kind_fits (W register value) small = small
kind_fits K small = tt
kind_fits T small = tt
kind_fits C small = tt
kind_fits X small = tt
kind_fits A small = tt
kind_fits (N register value) small = small

-- What the reader has read is an event's.
pub has_told : (core : Core) (header value : ℕ) → Sound core → core.reader ≡ Told header value → value < 2 ^ 64 → AreOfEvent header value
has_told core header value sound told small =
    let read : HasRead core (Told header value) = subst (HasRead core) told sound.reads in
    let event = read.0.event in
    record {
      event = event;
      fits = kind_fits event.kind (subst (λ (v : ℕ). v < 2 ^ 64) read.2 small);
      words = pack-words header value event read.1 read.2;
    }

-- the answer to a reader that has taken the event, and the machine after it
abbrev pub freed : Machine → Event → Reply × Machine
freed machine event = (
  Taken event,
  record machine {
    core = record machine.core {
      front = machine.core.front + 1;
      reader = Waiting;
      taken = machine.core.taken ++ event ∷ [];
    };
  },
)

-- The reader takes the event whose words it has read.
pub free-told : (machine : Machine) (header value : ℕ) (event : Event) → machine.core.reader ≡ Told header value
    → pack event ≡ (header, value) → answered machine (core_step Free machine.core) ≡ freed machine event
free-told machine header value event told words = rw told (ap (freed machine) (unpacked-words header value event words))
