-- A `LastWindow` takes events by being fed them.
use Rattle.tmw_window.proofs.Shared.{Event, [], arith, length-append, ℕ, ◌++◌, ◌+◌, ◌<◌, ◌^◌, ◌∷◌}
use Rattle.tmw_window.specs.declared.last_window.LastWindow.{LastWindow}
use Rattle.tmw_window.specs.WindowTaker.{WatchesSoMany, window_taking}

-- it has room for an event
pub has_room : (window : LastWindow) (count : ℕ) → count < 2 ^ 40 → WatchesSoMany window count → window.monitor.count < 2 ^ 40
has_room window count few so = grind arith

-- one event more was taken
pub counted-taken : (before after : LastWindow) (event : Event) → window_taking.takes before (event ∷ []) after
    → (count : ℕ) → WatchesSoMany before count → WatchesSoMany after (count + 1)
counted-taken before after event taken count so = record {
  rules = so.rules;
  history = so.history ++ event ∷ [];
  watches = taken so.rules so.history so.watches;
  counted = omega (arith, so.counted, length-append so.history (event ∷ []));
}
