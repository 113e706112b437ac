-- What a monitor was fed before and after it is fed an event.
use Rattle.tmw_pump.proofs.Shared.{Event, Fits, List, Monitor, Rules, WasFed, arith, length, ∥∥₁_elim, ∥∥₁_map, ◌<◌, ◌^◌, ◌≡◌}
use Rattle.std.proofs.Math.Bridge.{le_prop}
use Rattle.std.proofs.Math.Nat.{ℕ_set}

-- The monitor has counted what was judged.
pub room-fed : (judged : List Event) (monitor : Monitor) → ∥ WasFed judged monitor ∥₁ → length judged < 2 ^ 40 → monitor.count < 2 ^ 40
room-fed judged monitor fed few = ∥∥₁_elim fed le_prop (λ was. let counted = was.1.counted in omega (arith, counted, few))

-- What keeps the fit keeps that there are rules for it.
pub fed_on : (old new : List Event) (before after : Monitor) → ∥ WasFed old before ∥₁
    → ((rules : Rules) → Fits rules old before → Fits rules new after) → ∥ WasFed new after ∥₁
fed_on old new before after fed keeps = ∥∥₁_map fed (λ was. (was.0, keeps was.0 was.1))

-- The monitor's count is the number of the events that were judged.
pub count-fed : (judged : List Event) (monitor : Monitor) → ∥ WasFed judged monitor ∥₁ → monitor.count ≡ length judged
count-fed judged monitor fed = ∥∥₁_elim fed (ℕ_set monitor.count (length judged)) (λ was. was.1.counted)
