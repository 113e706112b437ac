-- How the players of all threads stand to their scripts.
use Rattle.tmw_drive.specs.Shared.{Answer, Call, Ending, Event, IsEnding, IsNew, Kind, Plays, kinds_of, left_of, next_of, script_at}
use Rattle.std.specs.Prelude.{List, get_or, length, ℕ, ◌<◌, ◌≡◌}
use Rattle.tmw_workers.specs.declared.player.Player.{Player}

-- Each player has recorded its own events in the log.
pub record AllPlay (gives : Call → Answer → Type 0) (scripts : List (List (List Kind))) (players : List Player) (log : List Event) : Type 0 where
  pub counted : length players ≡ length scripts
  pub numbered : (thread : ℕ) (fallback : Player) → thread < length players → (get_or players thread fallback).thread.number ≡ thread
  pub each : (thread : ℕ) (fallback : Player) → thread < length players
      → Plays gives (script_at scripts thread) (get_or players thread fallback) (kinds_of thread log)

-- So many players have made no call, each that of the thread of its place.
pub record AllNew (count : ℕ) (players : List Player) : Type 0 where
  pub counted : length players ≡ count
  pub each : (thread : ℕ) (fallback : Player) → thread < length players → IsNew thread (get_or players thread fallback)

-- Each player's ending.
pub record AllEnd (scripts : List (List (List Kind))) (players : List Player) (ends : List Ending) : Type 0 where
  pub counted : length ends ≡ length players
  pub each : (thread : ℕ) (fallback : Ending) → thread < length ends → (player : Player)
      → IsEnding (next_of (left_of (script_at scripts thread) (get_or players thread player))) (get_or ends thread fallback)
