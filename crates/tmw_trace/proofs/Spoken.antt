-- Events that fit a version are such as it has.
use Rattle.tmw_trace.proofs.Shared.{All, AllByRecursion, Event, FitsEvent, List, Version, [], and_from, are_spoken, is_spoken, recursion_from_All, refl, true, ◌∷◌, ◌≡◌}

each_spoken : (version : Version) (events : List Event) → AllByRecursion (FitsEvent version) events
    → are_spoken version events ≡ true
each_spoken version [] fit = refl
each_spoken version (e ∷ es) fit = and_from (is_spoken version e.kind) _ fit.0.1 (each_spoken version es fit.1)

pub are_spoken-fitting : (version : Version) (events : List Event) → All (FitsEvent version) events
    → are_spoken version events ≡ true
are_spoken-fitting version events fit = each_spoken version events (recursion_from_All (FitsEvent version) events fit)
