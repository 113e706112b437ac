-- A worker, from one round to the next, and to its end.
use Rattle.tmw_workers.proofs.Shared.{Answer, Call, HasMet, HasPlayedOn, HasSeen, HasWorked, IsBetween, IsSameWorker, Kind, List, None, Option, Refused, RingIs, SameConsumer, SameProducer, Worker, WriterIs, WriterOf, [], ap, arith, length, length_push, received, sent, ℕ, ◌++◌, ◌+◌, ◌∙◌, ◌∷◌, ◌≡◌, ◌≤◌}
use Rattle.rtrb.specs.declared.consumer.Consumer.{Consumer}
use Rattle.rtrb.specs.declared.producer.Producer.{Producer}
use Rattle.tmw_workers.specs.declared.round_end.RoundEnd.{RoundEnd}
use Rattle.tmw_workers.proofs.RoundPlaces.{ready-met, played_last-worked}
use Rattle.tmw_ring.specs.Meet.{FindsTail}

module _ {T A P : Type 0} where
  pub up-then : (a b c : Producer T A P) → SameProducer a b → SameProducer b c → SameProducer a c
  up-then a b c one two = grind arith

  pub down-then : (a b c : Consumer T A P) → SameConsumer a b → SameConsumer b c → SameConsumer a c
  down-then a b c one two = grind arith

same-then : (first old new : Worker) → IsSameWorker first old → IsSameWorker old new → IsSameWorker first new
same-then first old new one two = record {
  number = two.number ∙ one.number;
  up = up-then first.up old.up new.up one.up two.up;
  down = down-then first.down old.down new.down one.down two.down;
}

-- and one that has then been told of a bound behind it, and has seen it, has met at the bound
met-told : (tail bound : ℕ) (old found new : WriterIs) → FindsTail tail old found → tail ≤ bound → HasSeen bound found new → HasMet bound old new
met-told tail bound old found new finds behind seen = grind arith

module _ (gives : Call → Answer → Type 0) (ring : RingIs) (script : List (List Kind)) (first old new : Worker) (was : IsBetween gives ring script first old) where
  -- It was stopped in a round, and has told of it.
  pub played_on-stopped : (stop : Option Refused) (ended : RoundEnd) → ended.stop ≡ stop → WriterOf ring new.writer → new.writer.number ≡ old.writer.number
      → HasWorked gives script old.writer stop new.writer → SameProducer old.up new.up → sent new.up ≡ sent old.up ++ ended ∷ []
      → new.down ≡ old.down → HasPlayedOn gives ring script first stop new
  played_on-stopped stop ended stopped of_ring number worked up told down = grind arith

  -- It was not stopped, has told of the round, and no further round begins.
  pub played_on-over : (tail : ℕ) (stop : Option Refused) (ended : RoundEnd) (worked : WriterIs) → stop ≡ None → ended.stop ≡ stop → WriterOf ring worked
      → worked.number ≡ old.writer.number → HasWorked gives script old.writer stop worked → FindsTail tail worked new.writer
      → SameProducer old.up new.up → sent new.up ≡ sent old.up ++ ended ∷ [] → SameConsumer old.down new.down → received new.down ≡ received old.down
      → HasPlayedOn gives ring script first stop new
  played_on-over tail stop ended worked not_stopped stopped of_ring number works finds up told down none_more = grind arith

  -- It was not stopped, has told of the round, was told of a bound behind it, and has seen it.
  pub between-next : (tail bound : ℕ) (stop : Option Refused) (ended : RoundEnd) (worked found : WriterIs) → stop ≡ None → WriterOf ring worked
      → worked.number ≡ old.writer.number → HasWorked gives script old.writer stop worked → FindsTail tail worked found
      → SameProducer old.up new.up → sent new.up ≡ sent old.up ++ ended ∷ [] → SameConsumer old.down new.down
      → received new.down ≡ received old.down ++ bound ∷ [] → tail ≤ bound → HasSeen bound found new.writer
      → IsBetween gives ring script first new
  between-next tail bound stop ended worked found not_stopped of_ring number works finds up told down next behind seen =
      let met = met-told tail bound worked found new.writer finds behind seen in
      record {
        of_ring = (met.table ∙ of_ring.0, met.sized ∙ of_ring.1);
        same = same-then first old new was.same (record { number = met.number ∙ number; up = up; down = down });
        bounds = bound ∷ was.bounds;
        told = next ∙ ap (λ (l : List ℕ). l ++ bound ∷ []) was.told;
        counted = let all : length (sent new.up) ≡ length (sent old.up) + 1 = ap (λ (l : List RoundEnd). length l) told ∙ length_push (sent old.up) ended in
            let before : length (sent old.up) ≡ length was.bounds = was.counted in omega (arith, all, before);
        ready = ready-met gives script was.bounds bound worked stop new.writer not_stopped
            (played_last-worked gives script was.bounds old.writer stop worked was.ready works) met;
      }
