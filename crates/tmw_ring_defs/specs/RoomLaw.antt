-- How long it holds good that several records find room.
use Rattle.std.specs.Prelude.{◌≡◌, ◌≢◌, ◌+◌, ◌++◌, ◌≤◌, ◌<◌, ℕ, List, [], ◌∷◌}
use Rattle.tmw_events.specs.declared.ix.Ix.{Ix}
use Rattle.tmw_ring_defs.specs.Room.{HasRoomFor}
use Rattle.tmw_ring_defs.specs.Runs.{IsRun, own, writer_actor}
use Rattle.tmw_ring_defs.specs.declared.ring_size.RingSize.{RingSize}
use Rattle.tmw_ring_defs.specs.declared.ring_step.Answered.{Answered}
use Rattle.tmw_ring_defs.specs.declared.ring_step.Reply.{Reply}
use Rattle.tmw_ring_defs.specs.declared.ring_step.Reply.TheVariants.{Cleared}
use Rattle.tmw_ring_defs.specs.declared.ring_step.Step.{Step}
use Rattle.tmw_ring_defs.specs.declared.ring_step.Step.TheVariants.{Claim, Tail, Free}

-- how many places a step claims, and how many it frees
abbrev pub claims : Step → ℕ
claims (Claim writer) = 1
claims _ = 0

abbrev pub frees : Step → ℕ
frees Free = 1
frees _ = 0

-- how many places a run claims, and how many it frees
abbrev pub places_claimed : List Answered → ℕ
places_claimed [] = 0
places_claimed (first ∷ run) = claims first.step + places_claimed run

abbrev pub places_freed : List Answered → ℕ
places_freed [] = 0
places_freed (first ∷ run) = frees first.step + places_freed run

-- When a ring has run so far that at least `front` places are freed, and from its tail there is room for so many records, then
-- whoever looks at front after that finds room at its look at tail, until so many places more are claimed.
abbrev pub RoomLaw : Type 0
RoomLaw = (size : RingSize) (before since : List Answered) (front records : ℕ) (writer : Ix) (reply : Reply)
    → IsRun size (before ++ (since ++ record { step = Tail writer; reply = reply } ∷ []))
    → front ≤ places_freed before → HasRoomFor size front (places_claimed before) records
    → own (writer_actor writer) since ≢ [] → places_claimed since < records → reply ≡ Cleared
