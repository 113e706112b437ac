-- Of which threads a history has events: of none, of one, or of more.
use Rattle.std.specs.Prelude.{◌≡◌, List, [], ◌∷◌, Option, Some, None}
use Rattle.tmw_counts.specs.declared.threads.Threads.{Threads}
use Rattle.tmw_defs.specs.Counts.{has_two_threads}
use Rattle.tmw_events.specs.declared.event.Event.{Event}
use Rattle.tmw_events.specs.declared.ix.Ix.{Ix}

-- the thread of a history's first event
abbrev pub first_thread : List Event → Option Ix
first_thread [] = None
first_thread (e ∷ es) = Some e.thread

-- The thread of the first event is known, and whether another has events.
pub record HasThreads (history : List Event) (threads : Threads) : Type 0 where
  pub first : threads.first ≡ first_thread history
  pub several : threads.several ≡ has_two_threads history
