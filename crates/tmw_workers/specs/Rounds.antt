-- What the writers have claimed, round by round, and the log that it makes: one round after another.
use Rattle.tmw_workers.specs.Shared.{AllStand, Answer, Call, IsWholeRun, Kind, Made, Refused, WriterIs, kinds_made, script_at}
use Rattle.tmw_workers.specs.declared.ending.Ending.TheVariants.{Done, Stopped}
use Rattle.tmw_workers.specs.declared.ending.Ending.{Ending}
use Rattle.tmw_events.specs.declared.event.Event.{Event}
use Rattle.tmw_defs.specs.Verdict.{IsVerdict, Rules}
use Rattle.tmw_defs.specs.declared.verdict.Verdict.TheVariants.{OpaqueSoFar}
use Rattle.std.specs.Prelude.{◌≡◌, ◌≤◌, ◌<◌, ◌++◌, ℕ, true, List, [], ◌∷◌, Option, Some, None, length, get_or, take, All}
use Rattle.tmw_ring.specs.SeatPart.{made_from}
use Rattle.tmw_workers.specs.Work.{EndsWork, FindsFrom}

-- A bound is the length of the log when a round has ended. Bounds are listed with the last round's first.

-- where the last of these rounds has ended, and so the next begins
abbrev pub last_bound : List ℕ → ℕ
last_bound [] = 0
last_bound (bound ∷ earlier) = bound

-- Between these lengths of the log, a writer has claimed these places for a whole run of its script, with answers that stand.
pub record HasPlayedRound (gives : Call → Answer → Type 0) (script : List (List Kind)) (start bound : ℕ) (fresh : List Made) : Type 0 where
  pub rises : start ≤ bound
  pub later : All (λ made. start ≤ made.place) fresh
  pub earlier : All (λ made. made.place < bound) fresh
  pub stands : AllStand gives true (kinds_made fresh)
  pub whole : IsWholeRun script (kinds_made fresh)

-- All places that a writer has claimed are those of whole rounds, which ended at these bounds.
abbrev pub HasPlayed : (Call → Answer → Type 0) → List (List Kind) → List ℕ → List Made → Type 0
HasPlayed gives script [] made = made ≡ []
HasPlayed gives script (bound ∷ earlier) made =
    (old : List Made) × (fresh : List Made) × (made ≡ old ++ fresh) × HasPlayed gives script earlier old
    × HasPlayedRound gives script (last_bound earlier) bound fresh

-- They are those of whole rounds, and of a last one, to its end or up to where the thread was stopped.
pub record HasPlayedLast (gives : Call → Answer → Type 0) (script : List (List Kind)) (bounds : List ℕ) (made : List Made) (stop : Option Refused) (writer : WriterIs) : Type 0 where
  pub old : List Made
  pub fresh : List Made
  pub split : made ≡ old ++ fresh
  pub played : HasPlayed gives script bounds old
  pub later : All (λ made. last_bound bounds ≤ made.place) fresh
  pub earlier : All (λ made. made.place < writer.seen) fresh
  pub seen : last_bound bounds ≤ writer.seen
  pub found : FindsFrom (last_bound bounds) stop
  pub stands : AllStand gives true (kinds_made fresh)
  pub ended : EndsWork script (kinds_made fresh) stop writer

-- Before its next round a writer has seen where the last one ended.
pub record IsReady (gives : Call → Answer → Type 0) (script : List (List Kind)) (bounds : List ℕ) (writer : WriterIs) : Type 0 where
  pub played : HasPlayed gives script bounds writer.made
  pub seen : last_bound bounds ≤ writer.seen

-- After a round: all writers, and where their threads were stopped, if anywhere.
pub record HaveAllPlayedLast (gives : Call → Answer → Type 0) (scripts : List (List (List Kind))) (bounds : List ℕ) (stops : List (Option Refused)) (writers : List WriterIs) : Type 0 where
  pub counted : length writers ≡ length scripts
  pub each : (thread : ℕ) (fallback : WriterIs) → thread < length scripts
      → HasPlayedLast gives (script_at scripts thread) bounds (get_or writers thread fallback).made (get_or stops thread None) (get_or writers thread fallback)

-- The bounds rise, and at each of them the verdict on the log up to there was opaque so far.
abbrev pub AllOpaque : Rules → List ℕ → List Event → Type 0
AllOpaque rules [] log = Unit {0}
AllOpaque rules (bound ∷ earlier) log =
    (last_bound earlier ≤ bound) × (bound ≤ length log) × IsVerdict rules (take bound log) OpaqueSoFar × AllOpaque rules earlier log

-- Each thread's events of the log stand at the places that its writer has claimed, the log has no others, and it is as long as
-- each writer has seen.
pub record IsLogOfAll (scripts : List (List (List Kind))) (log : List Event) (writers : List WriterIs) : Type 0 where
  pub own : All (λ event. event.thread.number < length scripts) log
  pub made : (thread : ℕ) (fallback : WriterIs) → thread < length scripts → (get_or writers thread fallback).made ≡ made_from thread 0 log
  pub seen : (thread : ℕ) (fallback : WriterIs) → thread < length scripts → (get_or writers thread fallback).seen ≤ length log

-- how the thread has ended that was stopped so, if at all
abbrev pub ending_of : Option Refused → Ending
ending_of None = Done
ending_of (Some refused) = Stopped refused

-- How each thread has ended.
pub record AreEndings (scripts : List (List (List Kind))) (stops : List (Option Refused)) (ends : List Ending) : Type 0 where
  pub counted : length ends ≡ length scripts
  pub each : (thread : ℕ) (fallback : Ending) → thread < length scripts
      → get_or ends thread fallback ≡ ending_of (get_or stops thread None)
