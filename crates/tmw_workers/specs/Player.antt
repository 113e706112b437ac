-- How a thread stands to its script, of which it makes one call after another.
use Rattle.tmw_workers.specs.Shared.{Answer, Call, Kind, StandsSoFar, are_transactions, ends}
use Rattle.std.specs.Prelude.{IsTrue, List, MatchBool, None, Option, Some, [], drop, map, ℕ, ◌+◌, ◌==◌, ◌∷◌, ◌≡◌}
use Rattle.std.specs.Global.{Vec}
use Rattle.tmw_workers.specs.FreshTx.{IsFresh}
use Rattle.tmw_workers.specs.declared.ending.Ending.{Ending}
use Rattle.tmw_workers.specs.declared.ending.Ending.TheVariants.{Done, Left}
use Rattle.tmw_workers.specs.declared.player.Player.{Player}
use Rattle.tmw_runs.specs.ScriptRest.{Leaves}

-- The script that these vectors of calls are.
abbrev pub calls_of : List (Vec Kind) → List (List Kind)
calls_of script = map (λ calls. calls.items) script

-- The first transaction from this call on, and the transactions after it.
abbrev pub from_call : ℕ → List (List Kind) → List (List Kind)
from_call call [] = []
from_call call (calls ∷ later) = drop call calls ∷ later

-- What is left of the script for the player.
abbrev pub left_of : List (List Kind) → Player → List (List Kind)
left_of script player = from_call player.call (drop player.transaction script)

-- The next call of what is left.
abbrev pub next_of : List (List Kind) → Option Kind
next_of ((call ∷ calls) ∷ later) = Some call
next_of _ = None

-- A thread that has a next call is left, and one that has none is done.
abbrev pub IsEnding : Option Kind → Ending → Type 0
IsEnding None ending = ending ≡ Done
IsEnding (Some call) ending = ending ≡ Left

-- The player of this thread has made no call.
pub record IsNew (thread : ℕ) (player : Player) : Type 0 where
  pub numbered : player.thread.number ≡ thread
  pub transaction : player.transaction ≡ 0
  pub call : player.call ≡ 0
  pub fresh : IsFresh player.tx

-- The player is at the first call of the next transaction.
pub record BeginsNext (old new : Player) : Type 0 where
  pub transaction : new.transaction ≡ old.transaction + 1
  pub call : new.call ≡ 0
  pub fresh : IsFresh new.tx

-- The player is at the next call of its transaction.
pub record MakesNext (old new : Player) : Type 0 where
  pub transaction : new.transaction ≡ old.transaction
  pub call : new.call ≡ old.call + 1

-- The player goes on after this answer.
abbrev pub GoesOn : Kind → Player → Player → Type 0
GoesOn answer old new = MatchBool (ends answer) (BeginsNext old new) (MakesNext old new)

-- The player has recorded these events of its script, and each answer stands.
pub record Plays (gives : Call → Answer → Type 0) (script : List (List Kind)) (player : Player) (kinds : List Kind) : Type 0 where
  pub leaves : Leaves script kinds (left_of script player)
  pub calls : (registers : ℕ) × IsTrue (are_transactions registers (left_of script player))
  pub stands : StandsSoFar gives kinds (player.call == 0)
  pub fresh : IsTrue (player.call == 0) → IsFresh player.tx
