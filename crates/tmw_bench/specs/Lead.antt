-- What the leader of a bench has done, that tells its workers where each round has ended.
use Rattle.tmw_bench.specs.Shared.{AllOpaque, Fits, Front, Refused, Rules, judged_of, monitor_of}
use Rattle.rtrb.specs.Ring.{SameConsumer, SameProducer, received, sent}
use Rattle.std.specs.Prelude.{◌≡◌, ◌≤◌, ◌<◌, ◌+◌, ◌++◌, ℕ, List, [], ◌∷◌, Some, None, length, get_or, take, All}
use Rattle.tmw_workers.specs.Worker.{in_order}
use Rattle.tmw_workers.specs.declared.round_end.RoundEnd.{RoundEnd}
use Rattle.tmw_workers.specs.declared.line.Line.{Line}

-- The worker of this line has told this, next.
pub record HasHeard (ended : RoundEnd) (old new : Line) : Type 0 where
  pub up : SameConsumer old.up new.up
  pub heard : received new.up ≡ received old.up ++ ended ∷ []
  pub down : new.down ≡ old.down

-- The first workers have each told one thing more.
pub record HaveHeardUpTo (count : ℕ) (old new : List Line) : Type 0 where
  pub counted : length new ≡ length old
  pub each : (place : ℕ) (fallback : Line) → place < count → (ended : RoundEnd) × HasHeard ended (get_or old place fallback) (get_or new place fallback)
  pub rest : (place : ℕ) (fallback : Line) → count ≤ place → get_or new place fallback ≡ get_or old place fallback

-- The worker has last told that it was stopped.
pub record HasToldStop (line : Line) : Type 0 where
  pub earlier : List RoundEnd
  pub last : RoundEnd
  pub refused : Refused
  pub told : received line.up ≡ earlier ++ last ∷ []
  pub stopped : last.stop ≡ Some refused

-- So has one of the first workers.
pub record SomeToldStop (count : ℕ) (lines : List Line) : Type 0 where
  pub place : ℕ
  pub low : place < count
  pub stopped : (fallback : Line) → HasToldStop (get_or lines place fallback)

-- The worker has last told of a round that it has ended.
pub record HasToldEnd (line : Line) : Type 0 where
  pub earlier : List RoundEnd
  pub last : RoundEnd
  pub told : received line.up ≡ earlier ++ last ∷ []
  pub ended : last.stop ≡ None

-- So have the first workers.
abbrev pub AllToldEnd : ℕ → List Line → Type 0
AllToldEnd count lines = (place : ℕ) (fallback : Line) → place < count → HasToldEnd (get_or lines place fallback)

-- The worker of this line was told this, next.
pub record HasTold (bound : ℕ) (old new : Line) : Type 0 where
  pub down : SameProducer old.down new.down
  pub told : sent new.down ≡ sent old.down ++ bound ∷ []
  pub up : new.up ≡ old.up

-- The first workers were told this, next.
pub record HaveToldUpTo (bound count : ℕ) (old new : List Line) : Type 0 where
  pub counted : length new ≡ length old
  pub each : (place : ℕ) (fallback : Line) → place < count → HasTold bound (get_or old place fallback) (get_or new place fallback)
  pub rest : (place : ℕ) (fallback : Line) → count ≤ place → get_or new place fallback ≡ get_or old place fallback

-- Nothing was told yet.
abbrev pub AreNewLines : List Line → Type 0
AreNewLines lines = (place : ℕ) (fallback : Line) → place < length lines
    → (received (get_or lines place fallback).up ≡ []) × (sent (get_or lines place fallback).down ≡ [])

-- The worker of this line was told these bounds, each after a round in which it was not stopped, and has told so many things.
pub record IsLineAt (count : ℕ) (bounds : List ℕ) (old new : Line) : Type 0 where
  pub up : SameConsumer old.up new.up
  pub down : SameProducer old.down new.down
  pub told : sent new.down ≡ in_order bounds
  pub heard : length (received new.up) ≡ count
  pub ended : All (λ end. end.stop ≡ None) (take (length bounds) (received new.up))

-- All workers were told these bounds, at each of which the verdict was opaque so far, and have each told so many things.
pub record HasLedTo (rules : Rules) (count : ℕ) (bounds : List ℕ) (front : Front) (old new : List Line) : Type 0 where
  pub line_count : length new ≡ length old
  pub lines : (place : ℕ) (fallback : Line) → place < length old → IsLineAt count bounds (get_or old place fallback) (get_or new place fallback)
  pub fits : Fits rules (judged_of front) (monitor_of front)
  pub opaque : AllOpaque rules bounds (judged_of front)

-- So many rounds were begun, and all have ended.
pub record HasLed (rules : Rules) (count : ℕ) (front : Front) (old new : List Line) : Type 0 where
  pub bounds : List ℕ
  pub counted : count ≡ length bounds + 1
  pub led : HasLedTo rules count bounds front old new
