-- What each step of a writer tells it: the words that it finds, and what it then knows.
use Rattle.tmw_ring.specs.Shared.{Answered, Claim, Claimed, Cleared, Fill, Filled, Front, HasMade, Idle, Kind, Looked, Me, Place, Publish, Published, RingSize, Saw, Tail, WriterPhase, is_full, is_spent, room_phase, room_reply, writer_actor}
use Rattle.std.specs.Prelude.{List, [], false, true, ℕ, ◌++◌, ◌+◌, ◌<◌, ◌∷◌, ◌≡◌, ◌≤◌}
use Rattle.tmw_ring.specs.SeatPart.{Parts}
use Rattle.tmw_ring.specs.Record.{made_at}
use Rattle.tmw_ring.specs.SeatParts.{writer_in, IsWriter}
use Rattle.tmw_ring.specs.declared.seat_part.WriterPart.{WriterPart}

-- what a writer knows after it found this front, when the ring has run so
abbrev pub front_seen : Kind → ℕ → List Answered → WriterPart → WriterPart
front_seen kind front run part = record part { phase = Looked kind front; run = run }

-- the front that a writer found, and the place that it claimed
abbrev pub front_in : WriterPhase → ℕ
front_in Idle = 0
front_in (Looked kind front) = front
front_in (Cleared kind) = 0
front_in (Claimed place kind is_filled) = 0

abbrev pub place_in : WriterPhase → ℕ
place_in Idle = 0
place_in (Looked kind front) = 0
place_in (Cleared kind) = 0
place_in (Claimed place kind is_filled) = place

abbrev pub tail_seen : Kind → ℕ → List Answered → WriterPart → WriterPart
tail_seen kind tail run part = record part {
  phase = room_phase (is_spent part.size tail) (is_full part.size (front_in part.phase) tail) kind;
  seen = tail;
  run = run;
}

abbrev pub claimed : Kind → ℕ → List Answered → WriterPart → WriterPart
claimed kind place run part = record part {
  phase = Claimed place kind false;
  made = part.made ++ made_at part.number kind place ∷ [];
  seen = place + 1;
  run = run;
}

abbrev pub value_filled : Kind → List Answered → WriterPart → WriterPart
value_filled kind run part = record part { phase = Claimed (place_in part.phase) kind true; run = run }

abbrev pub done : List Answered → WriterPart → WriterPart
done run part = record part { phase = Idle; run = run }

-- a writer's steps, each as it is answered
abbrev pub front_look : Kind → ℕ → WriterPart → Answered
front_look kind front part = record { step = Front part.number kind; reply = Saw front }

abbrev pub tail_look : ℕ → WriterPart → Answered
tail_look tail part = record {
  step = Tail part.number;
  reply = room_reply (is_spent part.size tail) (is_full part.size (front_in part.phase) tail) (front_in part.phase) tail;
}

abbrev pub claiming : ℕ → WriterPart → Answered
claiming place part = record { step = Claim part.number; reply = Place place }

abbrev pub filling : WriterPart → Answered
filling part = record { step = Fill part.number; reply = Filled }

abbrev pub publishing : WriterPart → Answered
publishing part = record { step = Publish part.number; reply = Published (place_in part.phase) }

-- The writer with this part has made this step on the ring, which then has run so.
abbrev pub WriterMade : WriterPart → Answered → List Answered → Type 0
WriterMade part answered run = HasMade part.size (writer_actor part.number) (answered ∷ []) part.run run

module _ {S : Type 0} where
  -- It is the seat of a writer that has come so far, in a ring of this size.
  pub record IsSeatOf (size : RingSize) (phase : WriterPhase) (me : Me S Parts) : Type 0 where
    pub seated : IsWriter (writer_in me.0) me
    pub sized : (writer_in me.0).size ≡ size
    pub phase_is : (writer_in me.0).phase ≡ phase

  abbrev pub HasSeenFront : Kind → Me S Parts → ℕ → Me S Parts → Type 0
  HasSeenFront kind old front new =
      IsWriter (front_seen kind front (writer_in new.0).run (writer_in old.0)) new
      × WriterMade (writer_in old.0) (front_look kind front (writer_in old.0)) (writer_in new.0).run

  -- Tail is not below what it was before, nor below front, nor above the limit.
  abbrev pub HasSeenTail : Kind → Me S Parts → ℕ → Me S Parts → Type 0
  HasSeenTail kind old tail new =
      IsWriter (tail_seen kind tail (writer_in new.0).run (writer_in old.0)) new
      × WriterMade (writer_in old.0) (tail_look tail (writer_in old.0)) (writer_in new.0).run
      × ((writer_in old.0).seen ≤ tail) × (front_in (writer_in old.0).phase ≤ tail) × (tail ≤ (writer_in old.0).size.limit)

  -- The place is not below what tail was before, and below the limit.
  abbrev pub HasClaimed : Kind → Me S Parts → ℕ → Me S Parts → Type 0
  HasClaimed kind old place new =
      IsWriter (claimed kind place (writer_in new.0).run (writer_in old.0)) new
      × WriterMade (writer_in old.0) (claiming place (writer_in old.0)) (writer_in new.0).run
      × ((writer_in old.0).seen ≤ place) × (place < (writer_in old.0).size.limit)

  abbrev pub HasFilled : Kind → Me S Parts → Me S Parts → Type 0
  HasFilled kind old new =
      IsWriter (value_filled kind (writer_in new.0).run (writer_in old.0)) new
      × WriterMade (writer_in old.0) (filling (writer_in old.0)) (writer_in new.0).run

  abbrev pub HasPublished : Me S Parts → Me S Parts → Type 0
  HasPublished old new =
      IsWriter (done (writer_in new.0).run (writer_in old.0)) new
      × WriterMade (writer_in old.0) (publishing (writer_in old.0)) (writer_in new.0).run
