-- Each step of a sound ring is answered as the sequential log would answer it, where what its writers announced is known.
use Rattle.tmw_ring_defs.proofs.Shared.{Announced, Asks, Bool, Claim, Claimed, Cleared, Core, Fill, Free, Front, HasRead, Idle, IsIn, Ix, Kind, Looked, None, Peek, Publish, Read, ReaderPhase, Ready, Sequential, Some, Sound, Step, Stepped, Stop, Tail, Told, Waiting, WriterPhase, announced_by, announces, ap, appended, arith, by_writer, claim_step, core_step, false, fill_step, free_step, front_step, is_full, is_spent, length-append, packed_header, peek_step, publish_step, read_step, refl, room_phase, room_reply, sequential_of, sym, tail_step, true, unpacked, unpacked-pack, with_phase, ℕ, ◌∙◌, ◌≡◌}
use Rattle.tmw_ring_defs.proofs.RingPhases.{phase_cases}

-- A writer that has looked or is cleared has this kind to record.
abbrev pub IsAnnounced : Kind → WriterPhase → Type 0
IsAnnounced announced Idle = Unit {0}
IsAnnounced announced (Looked kind front) = announced ≡ kind
IsAnnounced announced (Cleared kind) = announced ≡ kind
IsAnnounced announced (Claimed place kind is_filled) = Unit {0}

-- The kinds announced are those that the writers on the way to a claim have to record.
abbrev pub Knows : Announced → Core → Type 0
Knows kinds core = (writer : ℕ) (phase : WriterPhase) → IsIn core writer phase → IsAnnounced (kinds writer) phase

-- The step, if it is its actor's next, is answered as the log would answer it, and the kinds announced are known after it.
abbrev pub IsAnswered : Announced → Step → Core → Stepped → Type 0
IsAnswered kinds step core None = Unit {0}
IsAnswered kinds step core (Some (reply, next)) =
    Asks kinds step reply (sequential_of core) (sequential_of next) × Knows (announces step reply kinds) next

-- A writer's new phase is known, where the kind that it has to record was announced.
knows_phase : (kinds : Announced) (core : Core) (writer : ℕ) (phase : WriterPhase) → Knows kinds core → IsAnnounced (kinds writer) phase
    → Knows kinds (with_phase writer phase core)
knows_phase kinds core writer phase knows is other found at =
    grind (arith, phase_cases)

-- The writer that looks at front announces its kind, and the others' stay.
knows_front : (kinds : Announced) (writer : Ix) (kind : Kind) (core : Core) → Knows kinds core
    → Knows (announced_by (Front writer kind) kinds) (with_phase writer.number (Looked kind core.front) core)
knows_front kinds writer kind core knows other found at = grind (arith, phase_cases)

-- The steps, kind by kind: first the writers', then the reader's.
pub front-answered : (kinds : Announced) (writer : Ix) (kind : Kind) (core : Core) → Knows kinds core
    → (phase : WriterPhase) → IsAnswered kinds (Front writer kind) core (front_step writer.number kind core phase)
front-answered kinds writer kind core knows phase = grind (arith, knows_front)

pub tail-answered : (kinds : Announced) (writer : Ix) (core : Core) → Knows kinds core
    → (phase : WriterPhase) → IsIn core writer.number phase → IsAnswered kinds (Tail writer) core (tail_step writer.number core phase)
tail-answered kinds writer core knows Idle is = tt
tail-answered kinds writer core knows (Looked kind front) is =
    by_room (is_spent core.size core.tail) (is_full core.size front core.tail)
  where
    by_room : (spent full : Bool) → IsAnswered kinds (Tail writer) core
        (Some (room_reply spent full front core.tail, with_phase writer.number (room_phase spent full kind) core))
    by_room true full = (refl, knows_phase kinds core writer.number Idle knows tt)
    by_room false true = (refl, knows_phase kinds core writer.number Idle knows tt)
    by_room false false = (refl, knows_phase kinds core writer.number (Cleared kind) knows (knows writer.number (Looked kind front) is))
tail-answered kinds writer core knows (Cleared _) is = tt
tail-answered kinds writer core knows (Claimed _ _ _) is = tt

pub claim-answered : (kinds : Announced) (writer : Ix) (core : Core) → Sound core → Knows kinds core
    → (phase : WriterPhase) → IsIn core writer.number phase → IsAnswered kinds (Claim writer) core (claim_step writer core phase)
claim-answered kinds writer core sound knows Idle is = tt
claim-answered kinds writer core sound knows (Looked _ _) is = tt
claim-answered kinds writer core sound knows (Cleared kind) is =
    let known : kind ≡ kinds writer.number = sym (knows writer.number (Cleared kind) is) in
    let log : Kind → Sequential = λ own. appended (record { thread = writer; kind = own }) (sequential_of core) in (
      (writer, refl, sound.tail, ap log known),
      knows_phase kinds core writer.number (Claimed core.tail kind false) knows tt,
    )
claim-answered kinds writer core sound knows (Claimed _ _ _) is = tt

pub fill-answered : (kinds : Announced) (writer : Ix) (core : Core) → Knows kinds core
    → (phase : WriterPhase) → IsAnswered kinds (Fill writer) core (fill_step writer.number core phase)
fill-answered kinds writer core knows Idle = tt
fill-answered kinds writer core knows (Looked _ _) = tt
fill-answered kinds writer core knows (Cleared _) = tt
fill-answered kinds writer core knows (Claimed place kind false) =
    (refl, knows_phase kinds core writer.number (Claimed place kind true) knows tt)
fill-answered kinds writer core knows (Claimed place kind true) = tt

pub publish-answered : (kinds : Announced) (writer : Ix) (core : Core) → Knows kinds core
    → (phase : WriterPhase) → IsAnswered kinds (Publish writer) core (publish_step writer core phase)
publish-answered kinds writer core knows Idle = tt
publish-answered kinds writer core knows (Looked _ _) = tt
publish-answered kinds writer core knows (Cleared _) = tt
publish-answered kinds writer core knows (Claimed place kind false) = tt
publish-answered kinds writer core knows (Claimed place kind true) = (refl, knows_phase kinds core writer.number Idle knows tt)

pub peek-answered : (kinds : Announced) (core : Core) → Knows kinds core
    → (phase : ReaderPhase) → IsAnswered kinds Peek core (peek_step core phase)
peek-answered kinds core knows Waiting = grind arith
peek-answered kinds core knows (Ready _) = tt
peek-answered kinds core knows (Told _ _) = tt

pub read-answered : (kinds : Announced) (core : Core) → Knows kinds core
    → (phase : ReaderPhase) → IsAnswered kinds Read core (read_step core phase)
read-answered kinds core knows phase = grind arith

pub free-answered : (kinds : Announced) (core : Core) → Sound core → Knows kinds core
    → (phase : ReaderPhase) → HasRead core phase → IsAnswered kinds Free core (free_step core phase)
free-answered kinds core sound knows Waiting reads = tt
free-answered kinds core sound knows (Ready _) reads = tt
free-answered kinds core sound knows (Told header value) reads =
    let event = reads.0.event in
    let told : event ≡ unpacked header value =
    sym (ap (λ first. unpacked first value) reads.1 ∙ ap (unpacked (packed_header event)) reads.2 ∙ unpacked-pack event) in
    grind (arith, length-append)

-- What holds where the ring has no such writer, and from each phase that it may be in, holds of its step.
by_writer-each : (P : Stepped → Type 0) (writer : Ix) (core : Core) (step : WriterPhase → Stepped) → P None
    → ((phase : WriterPhase) → IsIn core writer.number phase → P (step phase)) → P (by_writer writer core step)
by_writer-each P writer core step missing each = grind arith

pub core_step-answered : (kinds : Announced) (step : Step) (core : Core) → Sound core → Knows kinds core
    → IsAnswered kinds step core (core_step step core)
core_step-answered kinds (Front writer kind) core sound knows =
    by_writer-each (IsAnswered kinds (Front writer kind) core) writer core (front_step writer.number kind core) tt
    (λ phase is. front-answered kinds writer kind core knows phase)
core_step-answered kinds (Tail writer) core sound knows =
    by_writer-each (IsAnswered kinds (Tail writer) core) writer core (tail_step writer.number core) tt
    (tail-answered kinds writer core knows)
core_step-answered kinds (Claim writer) core sound knows =
    by_writer-each (IsAnswered kinds (Claim writer) core) writer core (claim_step writer core) tt
    (claim-answered kinds writer core sound knows)
core_step-answered kinds (Fill writer) core sound knows =
    by_writer-each (IsAnswered kinds (Fill writer) core) writer core (fill_step writer.number core) tt
    (λ phase is. fill-answered kinds writer core knows phase)
core_step-answered kinds (Publish writer) core sound knows =
    by_writer-each (IsAnswered kinds (Publish writer) core) writer core (publish_step writer core) tt
    (λ phase is. publish-answered kinds writer core knows phase)
core_step-answered kinds Peek core sound knows = peek-answered kinds core knows core.reader
core_step-answered kinds Read core sound knows = read-answered kinds core knows core.reader
core_step-answered kinds Free core sound knows = free-answered kinds core sound knows core.reader sound.reads
core_step-answered kinds (Stop writer) core sound knows = tt
