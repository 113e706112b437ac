-- The two criteria side by side. They differ in which transactions a serial order has: for opacity all, for strict serializability
-- those that the completion holds.
use Rattle.std.specs.Prelude.{◌≡◌, ℕ, Bool, List}
use Rattle.tmw_events.specs.declared.event.Event.{Event}
use Rattle.tmw_events.specs.declared.event.Kind.{Kind}
use Rattle.tmw_defs.specs.declared.criterion.Criterion.{Criterion}
use Rattle.tmw_defs.specs.declared.criterion.Criterion.TheVariants.{Opacity, Strict}
use Rattle.tmw_defs.specs.declared.verdict.Verdict.{Verdict}
use Rattle.tmw_defs.specs.declared.verdict.Verdict.TheVariants.{OpaqueSoFar, StrictSoFar}
use Rattle.tmw_defs.specs.History.{Txn, transactions}
use Rattle.tmw_defs.specs.Opaque.{State, Placed, Explains, IsFinalOpaque}
use Rattle.tmw_defs.specs.Outcomes.{end_state, Only}
use Rattle.tmw_defs.specs.QuietEvents.{is_quiet, is_quiet_strictly}
use Rattle.tmw_defs.specs.Strict.{ExplainsStrictly, IsFinalStrict}

-- What explains the transactions from a state.
abbrev pub ExplainsBy : Criterion → State → List Txn → List Placed → Type 0
ExplainsBy Opacity = Explains
ExplainsBy Strict = ExplainsStrictly

-- What is asked of each prefix of a history.
abbrev pub IsFinalBy : Criterion → ℕ → State → List Event → Type 0
IsFinalBy Opacity = IsFinalOpaque
IsFinalBy Strict = IsFinalStrict

-- Some serial order that explains the transactions from the one state ends in the other.
abbrev pub LeadsBy : Criterion → State → List Txn → State → Type 0
LeadsBy criterion s ts r = (order : List Placed) × ExplainsBy criterion s ts order × (end_state s order ≡ r)

-- The end states of these transactions from the states of a set.
abbrev pub EndsBy : Criterion → (State → Type 0) → List Txn → State → Type 0
EndsBy criterion S ts r = (s : State) × S s × LeadsBy criterion s ts r

-- The states in which a history may have ended that began in this one.
abbrev pub outcomes_by : Criterion → State → List Event → State → Type 0
outcomes_by criterion start history = EndsBy criterion (Only start) (transactions history)

-- The event can't break it.
abbrev pub is_quiet_by : Criterion → List Txn → ℕ → Kind → Bool
is_quiet_by Opacity = is_quiet
is_quiet_by Strict = is_quiet_strictly

-- The verdict where nothing is wrong.
abbrev pub so_far : Criterion → Verdict
so_far Opacity = OpaqueSoFar
so_far Strict = StrictSoFar
