-- Which bounds on windows and outcomes are out of their ranges.
use Rattle.std.specs.Prelude.{ℕ, ◌<◌, ◌≡◌, ◌≤◌, ◌⊎◌}
use Rattle.tmw_options.specs.declared.bounds.BadBounds.{BadBounds}
use Rattle.tmw_options.specs.declared.bounds.BadBounds.TheVariants.{Window, States}

-- This is the first bound that is out of its range: 1 to 8 transactions in a window, 1 to 64 outcomes at a cut.
abbrev pub IsBad : ℕ → ℕ → BadBounds → Type 0
IsBad window states Window = (window ≡ 0) ⊎ (8 < window)
IsBad window states States = (0 < window) × (window ≤ 8) × ((states ≡ 0) ⊎ (64 < states))
