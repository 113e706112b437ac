-- What is kept of a history where its next event is taken at once.
use Rattle.tmw_monitor.specs.Shared.{Bounds, Event, Rules}
use Rattle.std.specs.Prelude.{List, None, [], ◌++◌, ◌∷◌, ◌≡◌}
use Rattle.tmw_monitor.specs.declared.history_digest.HistoryDigest.{HistoryDigest}
use Rattle.tmw_monitor.specs.Fits.{Keeps, TellsWrong}

-- Whatever history the one is kept of, by any criterion within these bounds: nothing is wrong with the event either, and the other
-- is what is kept with it.
abbrev pub StaysFine : Bounds → Event → HistoryDigest → HistoryDigest → Type 0
StaysFine bounds event old new = (rules : Rules) (history : List Event) → bounds.window ≡ rules.window → bounds.states ≡ rules.states
    → Keeps rules history old → TellsWrong rules (history ++ event ∷ []) new None

-- Whatever history the one is kept of, the other is too.
abbrev pub StaysKept : HistoryDigest → HistoryDigest → Type 0
StaysKept old new = (rules : Rules) (history : List Event) → Keeps rules history old → Keeps rules history new
