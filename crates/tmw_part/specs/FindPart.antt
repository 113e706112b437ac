-- What is found in a violated window: a part that is violated by itself, of which nothing more can be taken out.
use Rattle.tmw_part.specs.Shared.{Event, Piece, State, all_kept, is_well_formed, kept_of, members, pieces, transactions}
use Rattle.tmw_defs.specs.declared.criterion.Criterion.{Criterion}
use Rattle.std.specs.Prelude.{All, Bool, IsFalse, IsTrue, List, [], false, length, true, ℕ, ◌<◌, ◌∷◌, ◌≡◌, ◌≢◌, ◌≤◌, ◌⊎◌}
use Rattle.tmw_kept.specs.HasOrderFrom.{HasOrderFrom}
use Rattle.tmw_part.specs.declared.whole_window.WholeWindow.{WholeWindow}
use Rattle.tmw_part.specs.Marks.{without}
use Rattle.tmw_part.specs.Readers.{with_readers}
use Rattle.tmw_part.specs.KeptPart.{IsKept}

-- The events are violated: they are well-formed, of at most eight transactions, and have no order from any of the states.
pub record IsViolated (criterion : Criterion) (registers : ℕ) (states : List State) (events : List Event) : Type 0 where
  pub few : length (transactions events) ≤ 8
  pub formed : IsTrue (is_well_formed registers events)
  pub none : HasOrderFrom criterion states events → ⊥

-- It tells whether they are.
abbrev pub TellsViolated : Criterion → ℕ → List State → List Event → Bool → Type 0
TellsViolated criterion registers states events true = IsViolated criterion registers states events
TellsViolated criterion registers states events false =
    IsFalse (is_well_formed registers events) ⊎ ((8 < length (transactions events)) ⊎ HasOrderFrom criterion states events)

-- What is kept, a mark for each event, is all of the window or is kept as a part of it, and is violated.
pub record IsViolatedPart (criterion : Criterion) (registers : ℕ) (states : List State) (window : List Event) (marks : List Bool) : Type 0 where
  pub each : length marks ≡ length window
  pub keeps : (marks ≡ all_kept window) ⊎ IsKept marks window
  pub violated : IsViolated criterion registers states (kept_of marks window)

-- What is kept is not kept as a part of the window, is ill-formed, or has an order.
abbrev pub Fails : Criterion → ℕ → List State → List Event → List Bool → Type 0
Fails criterion registers states window marks =
    (IsKept marks window → ⊥)
    ⊎ (IsFalse (is_well_formed registers (kept_of marks window)) ⊎ HasOrderFrom criterion states (kept_of marks window))

-- These pieces can't be taken out of what is kept: they are out already, or what is then kept fails.
abbrev pub AreNeeded : Criterion → ℕ → List State → List Event → List Bool → List Piece → Type 0
AreNeeded criterion registers states window marks pieces =
    (without pieces marks window ≡ marks) ⊎ Fails criterion registers states window (without pieces marks window)

-- The piece can't be taken out, alone or together with the reads of its values.
abbrev pub IsNeeded : Criterion → ℕ → List State → List Event → List Bool → Piece → Type 0
IsNeeded criterion registers states window marks piece =
    AreNeeded criterion registers states window marks (piece ∷ [])
    × AreNeeded criterion registers states window marks (with_readers piece window)

-- What is kept is such a part and minimal: no piece more can be taken out, alone or with the reads of its values.
pub record IsMinimalPart (criterion : Criterion) (registers : ℕ) (states : List State) (window : List Event) (marks : List Bool) : Type 0 where
  pub is : IsViolatedPart criterion registers states window marks
  pub minimal : All (IsNeeded criterion registers states window marks) (pieces window)

-- The window is searched: it is violated, begins from one state at least, and has at most 1,000 events.
pub record IsSearched (criterion : Criterion) (registers : ℕ) (states : List State) (window : List Event) : Type 0 where
  pub some : states ≢ []
  pub events : length window ≤ 1000
  pub violated : IsViolated criterion registers states window

-- What is found in a window: such a part of one that is searched, and else each event.
abbrev pub FindsPart : Criterion → ℕ → List State → List Event → List Bool → Type 0
FindsPart criterion registers states window marks =
    (IsSearched criterion registers states window × IsMinimalPart criterion registers states window marks)
    ⊎ ((IsSearched criterion registers states window → ⊥) × (marks ≡ all_kept window))

-- So it is of what a search is given.
abbrev pub TellsIn : WholeWindow → List Event → Bool → Type 0
TellsIn s = TellsViolated s.criterion s.registers.number (members s.states.now)

abbrev pub IsPartIn : WholeWindow → List Bool → Type 0
IsPartIn s = IsViolatedPart s.criterion s.registers.number (members s.states.now) s.events.now

abbrev pub FailsIn : WholeWindow → List Bool → Type 0
FailsIn s = Fails s.criterion s.registers.number (members s.states.now) s.events.now

abbrev pub AreNeededIn : WholeWindow → List Bool → List Piece → Type 0
AreNeededIn s = AreNeeded s.criterion s.registers.number (members s.states.now) s.events.now

abbrev pub IsNeededIn : WholeWindow → List Bool → Piece → Type 0
IsNeededIn s = IsNeeded s.criterion s.registers.number (members s.states.now) s.events.now

abbrev pub IsMinimalIn : WholeWindow → List Bool → Type 0
IsMinimalIn s = IsMinimalPart s.criterion s.registers.number (members s.states.now) s.events.now
