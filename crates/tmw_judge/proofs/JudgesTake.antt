-- Judges take events by being fed them.
use Rattle.tmw_judge.proofs.Shared.{AreFed, AreFedSoMany, Asked, Bounds, CountsFor, Event, FeedsBoth, FeedsEach, FitMonitors, HaveRoom, Header, Judges, List, Monitors, TakeEvents, [], arith, asked_by, length, length-append, subst, trace_rules, ℕ, ◌++◌, ◌+◌, ◌-◌, ◌<◌, ◌^◌, ◌∷◌, ◌≡◌}
use Rattle.tmw_monitor.specs.declared.both_monitor.BothMonitor.{BothMonitor}
use Rattle.tmw_defs.specs.declared.criterion.Criterion.TheVariants as by
use Rattle.tmw_judge.specs.declared.monitors.Monitors.TheVariants as monitors

-- each has room for an event
fed_room : (header : Header) (bounds : Bounds) (history : List Event) (had : Monitors) → length history < 2 ^ 40
    → FitMonitors header bounds history had → HaveRoom had
fed_room header bounds history (monitors.Opacity m) few fits = let was = fits.counted in omega (arith, few, was)
fed_room header bounds history (monitors.Strict m) few fits = let was = fits.counted in omega (arith, few, was)
fed_room header bounds history (monitors.Both both) few fits =
    let was = fits.opacity.counted in
    let too = fits.strict.counted in
    (omega (arith, few, was), omega (arith, few, too))

-- a history that was fed has fewer events than 64 bits count
few_events : (header : Header) (bounds : Bounds) (history : List Event) (had : Monitors) → HaveRoom had → FitMonitors header bounds history had
    → length history < 2 ^ 64 - 1
few_events header bounds history (monitors.Opacity m) few fits = let was = fits.counted in omega (arith, few, was)
few_events header bounds history (monitors.Strict m) few fits = let was = fits.counted in omega (arith, few, was)
few_events header bounds history (monitors.Both both) few fits = let was = fits.opacity.counted in let one = few.0 in omega (arith, one, was)

pub few_fed : (header : Header) (bounds : Bounds) (asked : Asked) (history : List Event) (had : Monitors) → HaveRoom had
    → AreFed header bounds asked history had → length history < 2 ^ 64 - 1
few_fed header bounds asked history had few fed = few_events header bounds history had few fed.each

-- by both criteria, what fits them fits them with the event more
pub feeds-both : (had : Monitors) (event : Event) (old new : BothMonitor) → had ≡ monitors.Both old → FeedsBoth event old new
    → FeedsEach had event (monitors.Both new)
feeds-both had event old new is feeds header bounds asked history fed = record {
  all = subst (λ them. asked_by them ≡ asked) is fed.all;
  each = feeds (trace_rules header bounds by.Opacity) history (subst (FitMonitors header bounds history) is fed.each);
}

module _ {C F : Type 0} (Counts : CountsFor C) where
  pub have_room : (judges : Judges C F) (count : ℕ) → count < 2 ^ 40 → AreFedSoMany Counts judges count → HaveRoom judges.monitors
  have_room judges count few so =
      let long = so.counted in
      fed_room so.header so.bounds so.history judges.monitors (omega (arith, few, long)) so.fed.fed.each

  -- one event more was taken
  pub counted-taken : (before after : Judges C F) (event : Event) → TakeEvents Counts before (event ∷ []) after
      → (count : ℕ) → AreFedSoMany Counts before count → AreFedSoMany Counts after (count + 1)
  counted-taken before after event taken count so = record {
    header = so.header;
    bounds = so.bounds;
    asked = so.asked;
    history = so.history ++ event ∷ [];
    fed = taken so.header so.bounds so.asked so.history so.fed;
    counted = omega (arith, so.counted, length-append so.history (event ∷ []));
  }
