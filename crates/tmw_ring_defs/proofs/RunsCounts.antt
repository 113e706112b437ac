-- What a step adds to tail and to front, and that a writer which looks at front sees none that was there before.
use Rattle.tmw_ring_defs.proofs.Shared.{Bool, Claim, Claimed, Cleared, Core, Fill, Free, Front, Idle, Ix, Kind, List, Looked, None, Peek, Publish, Read, ReaderPhase, Ready, Some, Step, Stepped, Stop, Tail, Told, Waiting, WriterPhase, actor_of, arith, by_writer, claim_step, claims, core_step, false, fill_step, free_step, frees, front_step, is_full, is_spent, peek_step, publish_step, read_step, room_phase, slice_get, slice_set, tail_step, true, ℕ, ◌+◌, ◌≡◌, ◌≤◌, ◌⊎◌}
use Rattle.tmw_ring_defs.proofs.RingPhases.{phase_cases}

-- If this phase looked at front, it saw at least so much.
abbrev pub SawFrom : ℕ → WriterPhase → Type 0
SawFrom low Idle = Unit {0}
SawFrom low (Looked kind front) = low ≤ front
SawFrom low (Cleared kind) = Unit {0}
SawFrom low (Claimed place kind is_filled) = Unit {0}

-- If this writer has looked at front, it saw at least so much.
abbrev pub LooksFrom : ℕ → ℕ → List WriterPhase → Type 0
LooksFrom low writer phases = (phase : WriterPhase) → slice_get phases writer ≡ Some phase → SawFrom low phase

-- Tail and front have grown by what the step claims and frees. Whoever made the step, or had seen so much before, has seen so much.
pub record Counts (step : Step) (core next : Core) : Type 0 where
  pub tail_counts : next.tail ≡ core.tail + claims step
  pub front_counts : next.front ≡ core.front + frees step
  pub looks : (low writer : ℕ) → low ≤ core.front → (actor_of step ≡ writer + 1) ⊎ LooksFrom low writer core.writers
      → LooksFrom low writer next.writers

abbrev pub CountsIn : Step → Core → Stepped → Type 0
CountsIn step core None = Unit {0}
CountsIn step core (Some (reply, next)) = Counts step core next

by_writer-counts : (step : Step) (writer : Ix) (core : Core) (goes : WriterPhase → Stepped)
    → ((phase : WriterPhase) → CountsIn step core (goes phase)) → CountsIn step core (by_writer writer core goes)
by_writer-counts step writer core goes each = grind arith

-- A writer goes on to a phase in which it has seen so much.
looks_set : (phases : List WriterPhase) (low stepped writer : ℕ) (phase : WriterPhase) → SawFrom low phase
    → (stepped + 1 ≡ writer + 1) ⊎ LooksFrom low writer phases → LooksFrom low writer (slice_set phases stepped phase)
looks_set phases low stepped writer phase saw before found at =
    grind (arith, phase_cases)

front-counts : (writer : Ix) (kind : Kind) (core : Core) (phase : WriterPhase)
    → CountsIn (Front writer kind) core (front_step writer.number kind core phase)
front-counts writer kind core Idle = record {
  tail_counts = omega arith;
  front_counts = omega arith;
  looks = λ low other within before. looks_set core.writers low writer.number other (Looked kind core.front) within before;
}
front-counts writer kind core (Looked _ _) = tt
front-counts writer kind core (Cleared _) = tt
front-counts writer kind core (Claimed _ _ _) = tt

saw_room : (low : ℕ) (spent full : Bool) (kind : Kind) → SawFrom low (room_phase spent full kind)
saw_room low spent full kind = grind arith

tail-counts : (writer : Ix) (core : Core) (phase : WriterPhase) → CountsIn (Tail writer) core (tail_step writer.number core phase)
tail-counts writer core Idle = tt
tail-counts writer core (Looked kind front) =
    let spent : Bool = is_spent core.size core.tail in
    let full : Bool = is_full core.size front core.tail in
    record {
      tail_counts = omega arith;
      front_counts = omega arith;
      looks = λ low other within before.
          looks_set core.writers low writer.number other (room_phase spent full kind) (saw_room low spent full kind) before;
    }
tail-counts writer core (Cleared _) = tt
tail-counts writer core (Claimed _ _ _) = tt

claim-counts : (writer : Ix) (core : Core) (phase : WriterPhase) → CountsIn (Claim writer) core (claim_step writer core phase)
claim-counts writer core Idle = tt
claim-counts writer core (Looked _ _) = tt
claim-counts writer core (Cleared kind) = record {
  tail_counts = omega arith;
  front_counts = omega arith;
  looks = λ low other within before. looks_set core.writers low writer.number other (Claimed core.tail kind false) tt before;
}
claim-counts writer core (Claimed _ _ _) = tt

fill-counts : (writer : Ix) (core : Core) (phase : WriterPhase) → CountsIn (Fill writer) core (fill_step writer.number core phase)
fill-counts writer core Idle = tt
fill-counts writer core (Looked _ _) = tt
fill-counts writer core (Cleared _) = tt
fill-counts writer core (Claimed place kind false) = record {
  tail_counts = omega arith;
  front_counts = omega arith;
  looks = λ low other within before. looks_set core.writers low writer.number other (Claimed place kind true) tt before;
}
fill-counts writer core (Claimed _ _ true) = tt

publish-counts : (writer : Ix) (core : Core) (phase : WriterPhase) → CountsIn (Publish writer) core (publish_step writer core phase)
publish-counts writer core Idle = tt
publish-counts writer core (Looked _ _) = tt
publish-counts writer core (Cleared _) = tt
publish-counts writer core (Claimed _ _ false) = tt
publish-counts writer core (Claimed place kind true) = record {
  tail_counts = omega arith;
  front_counts = omega arith;
  looks = λ low other within before. looks_set core.writers low writer.number other Idle tt before;
}

peek-counts : (core : Core) (phase : ReaderPhase) → CountsIn Peek core (peek_step core phase)
peek-counts core Waiting = grind arith
peek-counts core (Ready _) = tt
peek-counts core (Told _ _) = tt

read-counts : (core : Core) (phase : ReaderPhase) → CountsIn Read core (read_step core phase)
read-counts core phase = grind arith

free-counts : (core : Core) (phase : ReaderPhase) → CountsIn Free core (free_step core phase)
free-counts core phase = grind arith

pub core_step-counts : (step : Step) (core : Core) → CountsIn step core (core_step step core)
core_step-counts (Front writer kind) core =
    by_writer-counts (Front writer kind) writer core (front_step writer.number kind core) (front-counts writer kind core)
core_step-counts (Tail writer) core = by_writer-counts (Tail writer) writer core (tail_step writer.number core) (tail-counts writer core)
core_step-counts (Claim writer) core = by_writer-counts (Claim writer) writer core (claim_step writer core) (claim-counts writer core)
core_step-counts (Fill writer) core = by_writer-counts (Fill writer) writer core (fill_step writer.number core) (fill-counts writer core)
core_step-counts (Publish writer) core =
    by_writer-counts (Publish writer) writer core (publish_step writer core) (publish-counts writer core)
core_step-counts Peek core = peek-counts core core.reader
core_step-counts Read core = read-counts core core.reader
core_step-counts Free core = free-counts core core.reader
core_step-counts (Stop writer) core = tt
