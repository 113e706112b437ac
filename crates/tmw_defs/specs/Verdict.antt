-- The verdict on a history, by all its prefixes: opaque so far, or strict so far where that is the criterion, or what is wrong with
-- the shortest prefix at which anything is.
use Rattle.std.specs.Prelude.{◌≡◌, ◌<◌, ◌≤◌, ℕ, List, length, take, IsTrue, IsFalse}
use Rattle.tmw_events.specs.declared.event.Event.{Event}
use Rattle.tmw_defs.specs.declared.criterion.Criterion.{Criterion}
use Rattle.tmw_defs.specs.declared.criterion.Criterion.TheVariants.{Opacity, Strict}
use Rattle.tmw_defs.specs.declared.verdict.Verdict.{Verdict}
use Rattle.tmw_defs.specs.declared.verdict.Verdict.TheVariants.{OpaqueSoFar, StrictSoFar, Violated, Undecided, Malformed}
use Rattle.tmw_defs.specs.declared.verdict.Why.TheVariants.{Transactions, States}
use Rattle.tmw_defs.specs.Criteria.{IsFinalBy, outcomes_by}
use Rattle.tmw_defs.specs.Cuts.{is_cut}
use Rattle.tmw_defs.specs.History.{is_well_formed}
use Rattle.tmw_defs.specs.Opaque.{State}
use Rattle.tmw_defs.specs.Outcomes.{MoreThan}
use Rattle.tmw_defs.specs.Windows.{HasWide}

-- What a history is judged by: the criterion, how many registers the run has and what they hold at its start, and the bounds on how
-- many transactions a window may have, and how many outcomes a history may have at a cut.
pub record Rules : Type 0 where
  pub criterion : Criterion
  pub registers : ℕ
  pub start : State
  pub window : ℕ
  pub states : ℕ

-- The history is at a cut, with more outcomes than the bound.
pub record HasMany (rules : Rules) (history : List Event) : Type 0 where
  pub cut : IsTrue (is_cut history)
  pub many : MoreThan rules.states (outcomes_by rules.criterion rules.start history)

-- Nothing is wrong with the history itself, its prefixes left out of account.
pub record IsFine (rules : Rules) (history : List Event) : Type 0 where
  pub narrow : HasWide rules.window history → ⊥
  pub few : HasMany rules history → ⊥
  pub final : IsFinalBy rules.criterion rules.registers rules.start history

-- Nothing is wrong with any prefix.
abbrev pub AreFine : Rules → List Event → Type 0
AreFine rules history = (k : ℕ) → k ≤ length history → IsFine rules (take k history)

-- What can be wrong with it. Each tells that none of those before it is there; one that is not final-state opaque, or not
-- final-state strict, has no outcome, so it has not too many.
pub record IsMalformed (rules : Rules) (history : List Event) : Type 0 where
  pub ill_formed : IsFalse (is_well_formed rules.registers history)

pub record IsTooWide (rules : Rules) (history : List Event) : Type 0 where
  pub formed : IsTrue (is_well_formed rules.registers history)
  pub wide : HasWide rules.window history

pub record IsTooMany (rules : Rules) (history : List Event) : Type 0 where
  pub formed : IsTrue (is_well_formed rules.registers history)
  pub narrow : HasWide rules.window history → ⊥
  pub many : HasMany rules history

pub record IsViolated (rules : Rules) (history : List Event) : Type 0 where
  pub formed : IsTrue (is_well_formed rules.registers history)
  pub narrow : HasWide rules.window history → ⊥
  pub not_final : IsFinalBy rules.criterion rules.registers rules.start history → ⊥

-- This is wrong with the prefix of length m, and nothing is with any shorter prefix.
pub record IsFirst (Wrong : Rules → List Event → Type 0) (rules : Rules) (history : List Event) (m : ℕ) : Type 0 where
  pub within : m ≤ length history
  pub here : Wrong rules (take m history)
  pub before : (k : ℕ) → k < m → IsFine rules (take k history)

-- The verdict on the history.
abbrev pub IsVerdict : Rules → List Event → Verdict → Type 0
IsVerdict rules history OpaqueSoFar = (rules.criterion ≡ Opacity) × AreFine rules history
IsVerdict rules history StrictSoFar = (rules.criterion ≡ Strict) × AreFine rules history
IsVerdict rules history (Malformed m) = IsFirst IsMalformed rules history m
IsVerdict rules history (Undecided m Transactions) = IsFirst IsTooWide rules history m
IsVerdict rules history (Undecided m States) = IsFirst IsTooMany rules history m
IsVerdict rules history (Violated m) = IsFirst IsViolated rules history m
