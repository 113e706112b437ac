-- Whether a ring has room for one more event of each writer, and what a look at tail leads to.
use Rattle.std.specs.Prelude.{◌+◌, ◌-◌, ℕ, Bool, true, false, IsFalse, nat_lt}
use Rattle.tmw_events.specs.declared.event.Kind.{Kind}
use Rattle.tmw_ring_defs.specs.declared.ring_phase.WriterPhase.{WriterPhase}
use Rattle.tmw_ring_defs.specs.declared.ring_phase.WriterPhase.TheVariants.{Idle, Cleared}
use Rattle.tmw_ring_defs.specs.declared.ring_size.RingSize.{RingSize}
use Rattle.tmw_ring_defs.specs.declared.ring_step.Reply.{Reply}
use Rattle.tmw_ring_defs.specs.declared.ring_step.Reply.TheVariants.{Cleared as IsCleared, Full, Spent}

-- Behind this tail fewer places than there are writers are left up to the limit.
abbrev pub is_spent : RingSize → ℕ → Bool
is_spent size tail = nat_lt (size.limit - size.writers) tail

-- With this front and this tail fewer cells than there are writers are free.
abbrev pub is_full : RingSize → ℕ → ℕ → Bool
is_full size front tail = nat_lt (size.cells - size.writers) (tail - front)

-- how far a writer is that has looked at tail: it is cleared only where every writer has room
abbrev pub room_phase : (spent full : Bool) → Kind → WriterPhase
room_phase true full kind = Idle
room_phase false true kind = Idle
room_phase false false kind = Cleared kind

-- what it is answered with this front and this tail
abbrev pub room_reply : (spent full : Bool) → ℕ → ℕ → Reply
room_reply true full front tail = Spent tail
room_reply false true front tail = Full front tail
room_reply false false front tail = IsCleared

-- what tail is when the last of so many records looks at it, if they claim one place after another from this tail on
abbrev pub last_tail : ℕ → ℕ → ℕ
last_tail tail records = tail + (records - 1)

-- From this tail on, and with no place freed behind this front, each of so many records finds room.
pub record HasRoomFor (size : RingSize) (front tail records : ℕ) : Type 0 where
  pub given : IsFalse (is_spent size (last_tail tail records))
  pub free : IsFalse (is_full size front (last_tail tail records))
