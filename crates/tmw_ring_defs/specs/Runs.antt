-- Runs of a ring: the steps that its actors make one after another, each with its reply.
use Rattle.std.specs.Prelude.{◌≡◌, ◌==◌, ◌+◌, ◌++◌, ℕ, List, [], ◌∷◌, Some, if◌then◌else◌}
use Rattle.tmw_events.specs.declared.event.Event.{Event}
use Rattle.tmw_events.specs.declared.ix.Ix.{Ix}
use Rattle.tmw_ring_defs.specs.RingCore.{Core, new_core}
use Rattle.tmw_ring_defs.specs.RingSteps.{core_step}
use Rattle.tmw_ring_defs.specs.declared.ring_size.RingSize.{RingSize}
use Rattle.tmw_ring_defs.specs.declared.ring_step.Answered.{Answered}
use Rattle.tmw_ring_defs.specs.declared.ring_step.Step.{Step}
use Rattle.tmw_ring_defs.specs.declared.ring_step.Step.TheVariants.{Front, Tail, Claim, Fill, Publish, Peek, Read, Free, Stop}

-- Actors have numbers: the reader 0, and a writer one more than its own.
abbrev pub reader_actor : ℕ
reader_actor = 0

abbrev pub writer_actor : Ix → ℕ
writer_actor writer = writer.number + 1

-- the actor whose step this is
abbrev pub actor_of : Step → ℕ
actor_of (Front writer kind) = writer_actor writer
actor_of (Tail writer) = writer_actor writer
actor_of (Claim writer) = writer_actor writer
actor_of (Fill writer) = writer_actor writer
actor_of (Publish writer) = writer_actor writer
actor_of Peek = reader_actor
actor_of Read = reader_actor
actor_of Free = reader_actor
actor_of (Stop writer) = writer_actor writer

-- the steps of a run that are this actor's own
abbrev pub own : ℕ → List Answered → List Answered
own actor [] = []
own actor (first ∷ run) = if actor_of first.step == actor then first ∷ own actor run else own actor run

-- None of these steps is the actor's.
abbrev pub NoneOf : ℕ → List Answered → Type 0
NoneOf actor run = own actor run ≡ []

-- By these steps, so answered, a ring goes from the first state to the last.
abbrev pub Runs : Core → List Answered → Core → Type 0
Runs core [] end = end ≡ core
Runs core (first ∷ run) end = (next : Core) × (core_step first.step core ≡ Some (first.reply, next)) × Runs next run end

-- A new ring of this size may run so.
abbrev pub IsRun : RingSize → List Answered → Type 0
IsRun size run = (core : Core) × Runs (new_core size) run core

-- A new ring of this size may run so, and then has this log.
abbrev pub IsRunTo : RingSize → List Answered → List Event → Type 0
IsRunTo size run log = (core : Core) × Runs (new_core size) run core × (core.log ≡ log)

-- The old run has gone on to the new one, and of the steps since then just these are the actor's.
pub record Gone (actor : ℕ) (old mine new : List Answered) : Type 0 where
  pub since : List Answered
  pub longer : new ≡ old ++ since
  pub own_steps : own actor since ≡ mine

-- The run has gone on, with these steps of the actor's, and a new ring of this size may run so.
pub record HasMade (size : RingSize) (actor : ℕ) (mine old new : List Answered) : Type 0 where
  pub gone : Gone actor old mine new
  pub is_run : IsRun size new
