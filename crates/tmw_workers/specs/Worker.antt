-- What a worker has done that plays its script round after round.
use Rattle.tmw_workers.specs.Shared.{Answer, Call, Kind, Refused, RingIs, SameConsumer, SameProducer, WriterIs, WriterOf, received, sent}
use Rattle.std.specs.Prelude.{◌≡◌, ◌≤◌, ◌++◌, ℕ, List, [], ◌∷◌, Option, length}
use Rattle.tmw_workers.specs.Rounds.{HasPlayedLast, IsReady}
use Rattle.tmw_workers.specs.declared.round_end.RoundEnd.{RoundEnd}
use Rattle.tmw_workers.specs.declared.worker.Worker.{Worker}
use Rattle.tmw_workers.specs.RoundMeeting.{HasOnlySeen}

-- The writer is as it was, but has seen so many places, and no fewer than before.
pub record HasSeen (bound : ℕ) (old new : WriterIs) : Type 0 where
  pub same : HasOnlySeen old new
  pub reached : bound ≤ new.seen

-- bounds that are listed with the last one first, in the order in which they were told
abbrev pub in_order : List ℕ → List ℕ
in_order [] = []
in_order (bound ∷ earlier) = in_order earlier ++ bound ∷ []

-- The worker's ends are those that it had.
pub record IsSameWorker (old new : Worker) : Type 0 where
  pub number : new.writer.number ≡ old.writer.number
  pub up : SameProducer old.up new.up
  pub down : SameConsumer old.down new.down

-- The worker has told of so many rounds as it was told bounds, and is ready for the next.
pub record IsBetween (gives : Call → Answer → Type 0) (ring : RingIs) (script : List (List Kind)) (old new : Worker) : Type 0 where
  pub of_ring : WriterOf ring new.writer
  pub same : IsSameWorker old new
  pub bounds : List ℕ
  pub told : received new.down ≡ in_order bounds
  pub counted : length (sent new.up) ≡ length bounds
  pub ready : IsReady gives script bounds new.writer

-- The worker has played whole rounds, which ended at the bounds that it was told, and one more, to its end or up to where it was
-- stopped. It has told of each of them, and last of how it has ended.
pub record HasPlayedOn (gives : Call → Answer → Type 0) (ring : RingIs) (script : List (List Kind)) (old : Worker) (stop : Option Refused) (new : Worker) : Type 0 where
  pub of_ring : WriterOf ring new.writer
  pub same : IsSameWorker old new
  pub bounds : List ℕ
  pub told : received new.down ≡ in_order bounds
  pub earlier : List RoundEnd
  pub last : RoundEnd
  pub sent_all : sent new.up ≡ earlier ++ last ∷ []
  pub counted : length earlier ≡ length bounds
  pub stopped : last.stop ≡ stop
  pub played : HasPlayedLast gives script bounds new.writer.made stop new.writer
