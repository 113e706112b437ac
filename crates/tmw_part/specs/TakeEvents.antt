-- Events that are taken one by one into a window, as long as they are well-formed and of at most eight transactions.
use Rattle.tmw_part.specs.Shared.{Event, is_well_formed, transactions}
use Rattle.std.specs.Prelude.{IsFalse, List, length, ℕ, ◌<◌, ◌≡◌, ◌≤◌, ◌⊎◌}
use Rattle.tmw_cuts.specs.declared.window.Window.{Window}
use Rattle.tmw_cuts.specs.StandsFor.{StandsFor}

-- The events are so, and were taken.
pub record AreTaken (registers : ℕ) (events : List Event) (window : Window) : Type 0 where
  pub number : window.registers.number ≡ registers
  pub stands : StandsFor window events
  pub few : length (transactions events) ≤ 8

-- The events are not so.
abbrev pub AreUnfit : ℕ → List Event → Type 0
AreUnfit registers events = IsFalse (is_well_formed registers events) ⊎ (8 < length (transactions events))
