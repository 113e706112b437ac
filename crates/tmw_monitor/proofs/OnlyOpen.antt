-- A monitor keeps of each history that fits it the open window and the outcomes before it alone.
use Rattle.tmw_monitor.proofs.Shared.{Event, Fits, HistoryDigest, Keeps, List, Monitor, Rules, cases_lt, inl, inr, length, members, outcomes_by, take, ◌≤◌}
use Rattle.tmw_monitor.specs.HoldsOpen.{AreLastOutcomes, HoldsOpen, KeepsOnlyOpen}
use Rattle.tmw_monitor.proofs.StateCount.{more_than-rising}

-- a history in which nothing is wrong has no more outcomes at its last cut than the bound
pub few_outcomes : (rules : Rules) (history : List Event) (kept : HistoryDigest) → Keeps rules history kept → length (members kept.states) ≤ rules.states
few_outcomes rules history kept keeps =
    let sums = keeps.sums_up in
    elim (cases_lt rules.states (length (members kept.states))) [
      | inl many ↦
          let more = more_than-rising rules.states (outcomes_by rules.criterion rules.start (take keeps.cut history))
          (members kept.states, kept.states.rising, many, λ s has. (sums.states s).0 has) in
          absurd ((sums.judged keeps.cut sums.last.is.0).few (record { cut = sums.last.is.1; many = more }))
      | inr few ↦ few
    ]

holds_open : (rules : Rules) (history : List Event) (kept : HistoryDigest) → Keeps rules history kept → HoldsOpen rules history kept
holds_open rules history kept keeps = record {
  cut = keeps.cut;
  last = keeps.sums_up.last;
  states = keeps.sums_up.states;
  few = few_outcomes rules history kept keeps;
  transactions = keeps.stands.shows;
  turns = keeps.stands.turns;
}

pub keeps_only_open : (rules : Rules) (history : List Event) (monitor : Monitor) → Fits rules history monitor
    → KeepsOnlyOpen rules history monitor
keeps_only_open rules history monitor fits = record {
  holds = λ is. holds_open rules history monitor.kept (fits.keeps is);
  ended = fits.forgets;
}

-- what it keeps of them are the outcomes at the last cut
pub last_outcomes : (rules : Rules) (history : List Event) (kept : HistoryDigest) → Keeps rules history kept
    → AreLastOutcomes rules history (members kept.states)
last_outcomes rules history kept keeps = record {
  cut = keeps.cut;
  last = keeps.sums_up.last;
  each = keeps.sums_up.states;
  few = few_outcomes rules history kept keeps;
  rising = kept.states.rising;
}
