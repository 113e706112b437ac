-- What is kept of the judged front, from one event to the next.
use Rattle.tmw_pump.proofs.Shared.{Event, Fits, Front, IsKept, List, Monitor, Rules, StaysKept, Verdict, WasKept, [], subst, sym, ∥∥₁_elim, ∥∥₁_map, ◌≡◌}
use Rattle.std.specs.Global.{Vec}
use Rattle.std.specs.Coded.{Coded-set, coded_list}
use Rattle.tmw_events.specs.contracts.event.Event as event

-- Where the log is kept, it is what was judged.
pub all_kept : (front : Front) (log : Vec Event) → ∥ WasKept (λ rules history verdict (kept : Vec Event). kept.items ≡ history) front log ∥₁
    → log.items ≡ front.judged.items
all_kept front log was = ∥∥₁_elim was (Coded-set (coded_list event.the_row.coded) log.items front.judged.items) (λ (rules, kept). kept.keeps_it)

module _ {K : Type 0} (keeps : Rules → List Event → Verdict → K → Type 0) where
  -- what is kept of nothing is kept of a front without events
  pub new_kept : (monitor : Monitor) (front : Front) (kept : K) → front.judged.items ≡ [] → front.monitor ≡ monitor
      → ((rules : Rules) → Fits rules [] monitor → keeps rules [] monitor.verdict kept)
      → (rules : Rules) → Fits rules [] monitor → IsKept keeps rules front kept
  new_kept monitor front kept none same begins rules fits = record {
    fits = subst (λ (l : List Event). Fits rules l front.monitor) (sym none) (subst (Fits rules []) (sym same) fits);
    keeps_it = subst (λ (l : List Event). keeps rules l front.monitor.verdict kept) (sym none)
        (subst (λ (m : Monitor). keeps rules [] m.verdict kept) (sym same) (begins rules fits));
  }

  -- what was kept by some rules still is
  pub was_kept : (old new : Front) (before after : K) → ∥ WasKept keeps old before ∥₁ → StaysKept keeps old new before after
      → ∥ WasKept keeps new after ∥₁
  was_kept old new before after was stays = ∥∥₁_map was (λ (rules, kept). (rules, stays rules kept))

  -- room that is made leaves what is kept
  pub kept-room : (old new : Front) (before mid after : K) → StaysKept keeps old new before mid
      → ((rules : Rules) (history : List Event) (verdict : Verdict) → keeps rules history verdict mid → keeps rules history verdict after)
      → StaysKept keeps old new before after
  kept-room old new before mid after stays same rules was =
      let now = stays rules was in
      record { fits = now.fits; keeps_it = same rules new.judged.items new.monitor.verdict now.keeps_it }
