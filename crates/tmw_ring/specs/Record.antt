-- How the call to record an event is answered.
use Rattle.tmw_ring.specs.Shared.{Answered, Claim, Fill, Front, HasMade, Ix, Kind, Publish, Tail, is_full, is_spent, writer_actor}
use Rattle.std.specs.Prelude.{IsFalse, IsTrue, List, [], ℕ, ◌++◌, ◌+◌, ◌<◌, ◌^◌, ◌∷◌, ◌≡◌, ◌≤◌}
use Rattle.tmw_ring.specs.RingEnds.{WriterIs}
use Rattle.tmw_ring.specs.declared.seat_part.Made.{Made}
use Rattle.tmw_ring.specs.declared.refused.Refused.{Refused}
use Rattle.tmw_ring.specs.declared.refused.Refused.TheVariants.{Full, Spent}
use Rattle.tmw_ring_defs.specs.declared.ring_step.Reply.TheVariants.{Saw, Cleared, Full as IsFull, Spent as IsSpent, Place, Filled, Published}

-- the place, for the writer's event of this kind
abbrev pub made_at : Ix → Kind → ℕ → Made
made_at writer kind place = record { place = place; event = record { thread = writer; kind = kind } }

-- Since its old run the writer has made just these steps.
abbrev pub HasStepped : List Answered → WriterIs → WriterIs → Type 0
HasStepped mine old new = HasMade old.size (writer_actor old.number) mine old.run new.run

-- a writer's steps, as it records an event of this kind at this place
abbrev pub recording : Ix → Kind → (front place : ℕ) → List Answered
recording writer kind front place =
    record { step = Front writer kind; reply = Saw front }
    ∷ record { step = Tail writer; reply = Cleared }
    ∷ record { step = Claim writer; reply = Place place }
    ∷ record { step = Fill writer; reply = Filled }
    ∷ record { step = Publish writer; reply = Published place }
    ∷ []

-- a writer's steps, where it found no room for an event of this kind
abbrev pub refusing : Ix → Kind → (front tail : ℕ) → List Answered
refusing writer kind front tail =
    record { step = Front writer kind; reply = Saw front } ∷ record { step = Tail writer; reply = IsFull front tail } ∷ []

-- a writer's steps, where it found that the places are spent
abbrev pub spending : Ix → Kind → (front tail : ℕ) → List Answered
spending writer kind front tail =
    record { step = Front writer kind; reply = Saw front } ∷ record { step = Tail writer; reply = IsSpent tail } ∷ []

-- The writer claimed this place, for one event of this kind, in just the steps of one recording. Behind all that it had seen
-- there was room, within the limit of places, for an event of each writer.
pub record HasRecorded (kind : Kind) (place : ℕ) (old new : WriterIs) : Type 0 where
  pub made : new.made ≡ old.made ++ made_at old.number kind place ∷ []
  pub later : old.seen ≤ place
  pub small : place < 2 ^ 40
  pub within : place < old.size.limit
  pub room : old.seen + old.size.writers ≤ old.size.limit
  pub seen : place < new.seen
  pub front : ℕ
  pub steps : HasStepped (recording old.number kind front place) old new

-- The writer claimed nothing, and found this tail.
pub record HasLooked (tail : ℕ) (old new : WriterIs) : Type 0 where
  pub made : new.made ≡ old.made
  pub later : old.seen ≤ tail
  pub seen : tail ≤ new.seen

-- Each refusal comes where it should, in just two steps: the ring was full for this front and this tail, or its places were
-- spent at this tail.
abbrev pub IsRefusal : Kind → WriterIs → Refused → WriterIs → Type 0
IsRefusal kind old (Full front tail) new =
    HasLooked tail old new × HasStepped (refusing old.number kind front tail) old new
    × IsTrue (is_full old.size front tail) × IsFalse (is_spent old.size tail)
IsRefusal kind old (Spent tail) new =
    (front : ℕ) × HasLooked tail old new × HasStepped (spending old.number kind front tail) old new × IsTrue (is_spent old.size tail)
