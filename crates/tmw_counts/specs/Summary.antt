-- What is told of a history beside its verdict.
use Rattle.std.specs.Prelude.{◌≡◌, List}
use Rattle.tmw_counts.specs.declared.summary.Summary.{Summary}
use Rattle.tmw_defs.specs.Counts.{HasCounts, none_overlapped}
use Rattle.tmw_events.specs.declared.event.Event.{Event}

-- The counts are the history's, and it is told whether no two of its transactions overlapped, although there are two threads.
pub record IsSummary (history : List Event) (summary : Summary) : Type 0 where
  pub counts : HasCounts history summary.counts
  pub none : summary.none_overlapped ≡ none_overlapped history summary.counts
