-- The sequential log, a list and a count, and that the answers of a ring are its answers.
use Rattle.std.specs.Prelude.{◌≡◌, ◌==◌, ◌+◌, ◌++◌, ◌<◌, ℕ, List, [], ◌∷◌, length, map, take, Some, slice_get, if◌then◌else◌}
use Rattle.tmw_events.specs.declared.event.Event.{Event}
use Rattle.tmw_events.specs.declared.event.Kind.{Kind}
use Rattle.tmw_events.specs.declared.ix.Ix.{Ix}
use Rattle.tmw_ring_defs.specs.RingCore.{Core, new_core}
use Rattle.tmw_ring_defs.specs.RingMachine.{Machine, new_machine, after, replies}
use Rattle.tmw_ring_defs.specs.RingSound.{Sound, Spares}
use Rattle.tmw_ring_defs.specs.Runs.{Runs}
use Rattle.tmw_ring_defs.specs.declared.ring_size.RingSize.{RingSize}
use Rattle.tmw_ring_defs.specs.declared.ring_step.Answered.{Answered}
use Rattle.tmw_ring_defs.specs.declared.ring_step.Reply.{Reply}
use Rattle.tmw_ring_defs.specs.declared.ring_step.Reply.TheVariants.{Saw, Place, Taken}
use Rattle.tmw_ring_defs.specs.declared.ring_step.Step.{Step}
use Rattle.tmw_ring_defs.specs.declared.ring_step.Step.TheVariants.{Front, Claim, Free}

-- To append an event is answered by the length, and adds it. The next item is that at the count, which goes up; it is asked for
-- only where there is one.
pub record Sequential : Type 0 where
  pub items : List Event
  pub count : ℕ

abbrev pub empty_log : Sequential
empty_log = record { items = []; count = 0 }

abbrev pub appended : Event → Sequential → Sequential
appended event log = record log { items = log.items ++ event ∷ [] }

abbrev pub advanced : Sequential → Sequential
advanced log = record log { count = log.count + 1 }

-- the kind of the event that each writer last began to record
abbrev pub Announced : Type 0
Announced = ℕ → Kind

-- A step that looks at front announces an event's kind.
abbrev pub announced_by : Step → Announced → Announced
announced_by (Front writer kind) kinds = λ number. if number == writer.number then kind else kinds number
announced_by _ kinds = kinds

abbrev pub announces : Step → Reply → Announced → Announced
announces step (Saw front) kinds = announced_by step kinds
announces step _ kinds = kinds

-- A claim that is answered a place appends the event that its writer announced, and the place is the log's answer. A step that
-- is answered an event asks for the next, which is that event. All else asks nothing of the log.
abbrev pub Asks : Announced → Step → Reply → Sequential → Sequential → Type 0
Asks kinds step (Place place) log next = (writer : Ix) × (step ≡ Claim writer) × (place ≡ length log.items)
    × (next ≡ appended (record { thread = writer; kind = kinds writer.number }) log)
Asks kinds step (Taken event) log next = (step ≡ Free) × (slice_get log.items log.count ≡ Some event) × (next ≡ advanced log)
Asks kinds step _ log next = next ≡ log

-- The steps, so answered, ask the log one after another.
abbrev pub AskInOrder : Announced → List Step → List Reply → Sequential → Sequential → Type 0
AskInOrder kinds [] [] log end = end ≡ log
AskInOrder kinds [] (reply ∷ said) log end = ⊥
AskInOrder kinds (step ∷ steps) [] log end = ⊥
AskInOrder kinds (step ∷ steps) (reply ∷ said) log end =
    (next : Sequential) × Asks kinds step reply log next × AskInOrder (announces step reply kinds) steps said next end

-- the ring's log and how many of its events were taken
abbrev pub sequential_of : Core → Sequential
sequential_of core = record { items = core.log; count = length core.taken }

-- What a new ring's machine of this size has become by these steps, so answered.
pub record IsOneLog (size : RingSize) (steps : List Step) (said : List Reply) (machine : Machine) : Type 0 where
  -- Its state is sound, and of this size.
  pub sound : Sound machine.core
  pub sized : machine.core.size ≡ size
  -- The answers are those of one log, at first empty, whatever kinds are taken for writers that have announced none.
  pub asked : (kinds : Announced) → AskInOrder kinds steps said empty_log (sequential_of machine.core)
  -- The events taken begin the log.
  pub begins : (rest : List Event) × (machine.core.log ≡ machine.core.taken ++ rest)
  -- No step changes the cell of a published place that was not taken.
  pub spares : (count : ℕ) → count < length steps
      → Spares (after (take count steps) (new_machine size)).core (after (take (count + 1) steps) (new_machine size)).core

abbrev pub OneLogLaw : Type 0
OneLogLaw = (size : RingSize) (steps : List Step)
    → IsOneLog size steps (replies steps (new_machine size)) (after steps (new_machine size))

-- the steps of a run, and their replies
abbrev pub steps_of : List Answered → List Step
steps_of run = map (λ answered. answered.step) run

abbrev pub replies_of : List Answered → List Reply
replies_of run = map (λ answered. answered.reply) run

-- A run of a new ring is one of its machine, of which no writer stops: the machine comes to the run's last state, and the run's
-- replies are those of one log.
abbrev pub OneRunLaw : Type 0
OneRunLaw = (size : RingSize) (run : List Answered) (core : Core) → Runs (new_core size) run core
    → IsOneLog size (steps_of run) (replies_of run) (after (steps_of run) (new_machine size))
    × ((after (steps_of run) (new_machine size)).core ≡ core)
