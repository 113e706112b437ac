-- What a thread has tried to record: how its record calls ended.
use Rattle.tmw_workers.specs.Shared.{Kind, Refused, WriterIs}
use Rattle.tmw_ring_defs.specs.declared.ring_step.Answered.{Answered}
use Rattle.std.specs.Prelude.{◌≡◌, ◌≤◌, ◌++◌, ℕ, List, Result, Ok, Err}
use Rattle.tmw_ring.specs.Record.{HasRecorded, IsRefusal}

-- The writer's last record call, of this kind, was refused so.
pub record WasRefused (kind : Kind) (refused : Refused) (writer : WriterIs) : Type 0 where
  pub before : WriterIs
  pub table : before.table ≡ writer.table
  pub sized : before.size ≡ writer.size
  pub number : before.number ≡ writer.number
  pub refusal : IsRefusal kind before refused writer

-- The writer has claimed nothing since, whatever it has seen, and knows no other run than the one that has gone on.
pub record HasWaited (old now : WriterIs) : Type 0 where
  pub table : now.table ≡ old.table
  pub sized : now.size ≡ old.size
  pub number : now.number ≡ old.number
  pub made : now.made ≡ old.made
  pub seen : old.seen ≤ now.seen
  pub since : List Answered
  pub longer : now.run ≡ old.run ++ since

-- After some time the writer has recorded one event of this kind, or its last call was refused so. It has claimed nothing else.
abbrev pub HasTried : Kind → WriterIs → Result ℕ Refused → WriterIs → Type 0
HasTried kind old (Ok place) new = (before : WriterIs) × HasWaited old before × HasRecorded kind place before new
HasTried kind old (Err refused) new = (before : WriterIs) × HasWaited old before × IsRefusal kind before refused new
