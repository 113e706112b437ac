-- What a call to pump has done with what a settled ring has left.
use Rattle.tmw_pump.specs.Shared.{Event}
use Rattle.std.specs.Prelude.{◌≡◌, ◌++◌, ◌≤◌, ◌<◌, ℕ, List, []}
use Rattle.tmw_pump.specs.Front.{HasJudged, judged_of, verdict_on}
use Rattle.tmw_pump.specs.declared.front.Front.{Front}
use Rattle.tmw_pump.specs.declared.pumped.Pumped.{Pumped}
use Rattle.tmw_pump.specs.declared.keep.Keep.{Ghosts}
use Rattle.tmw_pump.specs.declared.rest.Rest.{Rest}

-- A rest without what it keeps: the events that were not taken yet, in order, and the judged front.
pub record RestIs : Type 0 where
  pub settled : List Event
  pub front : Front

-- the judged front of a rest
abbrev pub rest_front : RestIs → Front
rest_front rest = rest.front

-- the events of a rest that were not taken yet, in order
abbrev pub left_of : RestIs → List Event
left_of rest = rest.settled

-- the rest without what it keeps
abbrev pub rest_in : {K N : Type 0} {G : Ghosts K N} → Rest K N G → RestIs
rest_in rest = record { settled = rest.settled; front = rest.front }

-- what the rest keeps
abbrev pub rest_kept : {K N : Type 0} {G : Ghosts K N} → Rest K N G → K
rest_kept rest = rest.kept

-- all events of the ring's log: those judged, and those that are left
abbrev pub all_of : RestIs → List Event
all_of rest = judged_of (rest_front rest) ++ left_of rest

-- So many events more were judged, and none was lost.
pub record HasRested (count : ℕ) (old new : RestIs) : Type 0 where
  pub all : all_of new ≡ all_of old
  pub judged : HasJudged count (rest_front old) (rest_front new)

-- The call has judged up to so many events, and fewer only where none is left. It has done nothing where it was to judge none.
pub record IsRested (max : ℕ) (pumped : Pumped) (old new : RestIs) : Type 0 where
  pub counted : HasRested pumped.judged old new
  pub within : pumped.judged ≤ max
  pub verdict : pumped.verdict ≡ verdict_on (rest_front new)
  pub idle : max ≡ 0 → new ≡ old
  pub none_left : pumped.judged < max → left_of new ≡ []
