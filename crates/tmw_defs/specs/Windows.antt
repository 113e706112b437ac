-- Windows: the parts of a history between neighbouring cuts, and after the last.
use Rattle.std.specs.Prelude.{◌≡◌, ◌⊎◌, ◌<◌, ◌≤◌, ℕ, List, length, take, drop, IsTrue}
use Rattle.tmw_events.specs.declared.event.Event.{Event}
use Rattle.tmw_defs.specs.History.{transactions}
use Rattle.tmw_defs.specs.Cuts.{is_cut}

-- This length is a cut of the history: in the prefix of this length each transaction has committed or aborted.
abbrev pub IsCutAt : List Event → ℕ → Type 0
IsCutAt history at = (at ≤ length history) × IsTrue (is_cut (take at history))

-- The events from one length on, up to another.
abbrev pub between : ℕ → ℕ → List Event → List Event
between from upto history = drop from (take upto history)

-- A window lies between neighbouring cuts, or after the last one, up to the history's end.
pub record IsWindow (history : List Event) (from upto : ℕ) : Type 0 where
  pub order : from ≤ upto
  pub opens : IsCutAt history from
  pub inside : (at : ℕ) → from < at → at < upto → IsCutAt history at → ⊥
  pub closes : (upto ≡ length history) ⊎ IsCutAt history upto

-- A window of the history has more than so many transactions.
pub record HasWide (most : ℕ) (history : List Event) : Type 0 where
  pub from : ℕ
  pub upto : ℕ
  pub window : IsWindow history from upto
  pub wide : most < length (transactions (between from upto history))
