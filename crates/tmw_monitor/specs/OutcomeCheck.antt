-- What is found of the events since a history's last cut, from the set of its outcomes there.
use Rattle.tmw_monitor.specs.Shared.{Contains, Criterion, EndsOf, Event, HasMoreThan, IsNext, StandsFor, State, Verdict, Witnesses, is_cut, members, views_of}
use Rattle.std.specs.Prelude.{Bool, IsFalse, IsTrue, List, None, Option, Some, [], length, ℕ, ◌++◌, ◌↔◌, ◌∷◌, ◌≡◌, ◌≤◌, ◌⊎◌}
use Rattle.tmw_defs.specs.declared.verdict.Verdict.TheVariants.{Violated, Undecided}
use Rattle.tmw_defs.specs.declared.verdict.Why.TheVariants.{States}
use Rattle.tmw_cuts.specs.declared.turn.Move.{Move}
use Rattle.tmw_monitor.specs.declared.history_digest.HistoryDigest.{HistoryDigest}
use Rattle.tmw_monitor.specs.declared.outcome_check.OutcomeCheck.{OutcomeCheck}
use Rattle.tmw_monitor.specs.declared.outcome_check.OutcomeCheck.TheVariants.{Outcome, NoOutcome, TooMany}
use Rattle.tmw_cuts.specs.declared.states.States.{States as SetOfStates}

-- The events are at no cut, and have an end state where that was in question. The set and the window stay, and a serial order that is
-- known is one of theirs.
pub record StaysOpen (criterion : Criterion) (old : SetOfStates) (quiet : Bool) (events : List Event) (kept : HistoryDigest) : Type 0 where
  pub uncut : IsFalse (is_cut events)
  pub ends : IsTrue quiet ⊎ ((end : State) × EndsOf criterion old events end)
  pub states : members kept.states ≡ members old
  pub stands : StandsFor kept.window events
  pub witness : Witnesses (members kept.states) (views_of events) kept.witness

-- The events are at a cut, the set has become that of their end states, of which there are some and not too many, and the
-- window stands for no event.
pub record Closes (criterion : Criterion) (old : SetOfStates) (cap : ℕ) (events : List Event) (kept : HistoryDigest) : Type 0 where
  pub cut : IsTrue (is_cut events)
  pub exact : (s : State) → Contains (members kept.states) s ↔ EndsOf criterion old events s
  pub end : State
  pub some : Contains (members kept.states) end
  pub few : length (members kept.states) ≤ cap
  pub stands : StandsFor kept.window []
  pub witness : Witnesses (members kept.states) [] kept.witness

-- What each finding tells of the events, and of what is then kept.
abbrev pub Tells : Criterion → SetOfStates → ℕ → Bool → List Event → HistoryDigest → OutcomeCheck → Type 0
Tells criterion old cap quiet events kept Outcome = StaysOpen criterion old quiet events kept ⊎ Closes criterion old cap events kept
Tells criterion old cap quiet events kept NoOutcome = StandsFor kept.window events × ((end : State) → EndsOf criterion old events end → ⊥)
Tells criterion old cap quiet events kept TooMany =
    StandsFor kept.window events × IsTrue (is_cut events) × HasMoreThan cap (EndsOf criterion old events)

-- What each finding tells of events at a cut, and of the set that is then that of their end states.
abbrev pub TellsEnds : Criterion → SetOfStates → ℕ → List Event → SetOfStates → OutcomeCheck → Type 0
TellsEnds criterion old cap events new Outcome =
    (length (members new) ≤ cap) × ((s : State) → Contains (members new) s ↔ EndsOf criterion old events s)
    × (end : State) × Contains (members new) end
TellsEnds criterion old cap events new NoOutcome = ((end : State) → EndsOf criterion old events end → ⊥) × (members new ≡ [])
TellsEnds criterion old cap events new TooMany = HasMoreThan cap (EndsOf criterion old events)

-- Of the events that stand in the window and the next one, which is this to its thread: what each finding tells of them all, from the
-- outcomes before them.
abbrev pub WeighsNext : Criterion → ℕ → Event → Move → (List Event → Bool) → HistoryDigest → HistoryDigest → OutcomeCheck → Type 0
WeighsNext criterion cap event move quiet old new found =
    (events : List Event) → StandsFor old.window events → IsNext old.window event move
    → Witnesses (members old.states) (views_of events) old.witness
    → Tells criterion old.states cap (quiet events) (events ++ event ∷ []) new found

-- The verdict on a history of this length, where this was found of its last window and something is wrong with it.
abbrev pub wrong_of : ℕ → OutcomeCheck → Option Verdict
wrong_of at Outcome = None
wrong_of at NoOutcome = Some (Violated at)
wrong_of at TooMany = Some (Undecided at States)
