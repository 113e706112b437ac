-- What one call of a script adds to what its thread has recorded.
use Rattle.tmw_workers.specs.Shared.{Answer, Call, Kind, Made, Refused, Stands, WriterIs, answers, kinds_made}
use Rattle.tmw_workers.specs.Player.{GoesOn, Plays}
use Rattle.std.specs.Prelude.{◌≡◌, ◌==◌, ◌≤◌, ◌<◌, ◌++◌, ◌⊎◌, IsTrue, List, [], ◌∷◌, All}
use Rattle.tmw_workers.specs.declared.player.Player.{Player}
use Rattle.tmw_workers.specs.RecordSoon.{WasRefused}
use Rattle.tmw_workers.specs.Work.{tail_of}

-- The writer has claimed places more, behind all that it had seen, for events of just these kinds.
pub record HasClaimed (kinds : List Kind) (old new : WriterIs) : Type 0 where
  pub fresh : List Made
  pub is : kinds_made fresh ≡ kinds
  pub made : new.made ≡ old.made ++ fresh
  pub later : All (λ made. old.seen ≤ made.place) fresh
  pub earlier : All (λ made. made.place < new.seen) fresh
  pub seen : old.seen ≤ new.seen

-- The call is recorded and then an answer to it that stands, after which the player goes on.
pub record HasCalled (gives : Call → Answer → Type 0) (call : Kind) (old new : Player) (before after : WriterIs) : Type 0 where
  pub answer : Kind
  pub fits : IsTrue (answers call answer)
  pub stands : Stands gives (old.call == 0) call answer
  pub goes_on : GoesOn answer old new
  pub claimed : HasClaimed (call ∷ answer ∷ []) before after

-- The record of the call was refused, or the call is recorded and the record of an answer to it was refused; and no fewer places
-- were found claimed than the writer had seen before.
abbrev pub StopsAt : Kind → Refused → WriterIs → WriterIs → Type 0
StopsAt call refused before after =
    (before.seen ≤ tail_of refused)
    × ((HasClaimed [] before after × WasRefused call refused after)
    ⊎ ((answer : Kind) × IsTrue (answers call answer) × HasClaimed (call ∷ []) before after × WasRefused answer refused after))

-- The thread has recorded the player's run of the script so far.
pub record HasRunSoFar (gives : Call → Answer → Type 0) (script : List (List Kind)) (player : Player) (old new : WriterIs) : Type 0 where
  pub kinds : List Kind
  pub claimed : HasClaimed kinds old new
  pub plays : Plays gives script player kinds
