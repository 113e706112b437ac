-- From which states a window's transactions have a serial order.
use Rattle.tmw_kept.specs.Shared.{Contains, Event, HasOrderBy, State, transactions}
use Rattle.std.specs.Prelude.{List}
use Rattle.tmw_defs.specs.declared.criterion.Criterion.{Criterion}

-- From one of these states the events' transactions have a serial order.
abbrev pub HasOrderFrom : Criterion → List State → List Event → Type 0
HasOrderFrom criterion states events = (s : State) × Contains states s × HasOrderBy criterion s (transactions events)
