-- What a monitor tells, and what it keeps.
use Rattle.tmw_monitor.specs.Shared.{Bounds, Criterion, Verdict, so_far}
use Rattle.std.specs.Prelude.{Option, ℕ, ◌≡◌}
use Rattle.tmw_monitor.specs.declared.broken_rule.BrokenRule.{BrokenRule}
use Rattle.tmw_monitor.specs.declared.monitor.Monitor.{Monitor}
use Rattle.tmw_monitor.specs.declared.history_digest.HistoryDigest.{HistoryDigest}

-- what it judges by
abbrev pub criterion_of : Monitor → Criterion
criterion_of monitor = monitor.criterion

-- how far it judges
abbrev pub bounds_of : Monitor → Bounds
bounds_of monitor = monitor.bounds

-- how many events it was fed
abbrev pub fed_of : Monitor → ℕ
fed_of monitor = monitor.count

-- its verdict on them
abbrev pub verdict_of : Monitor → Verdict
verdict_of monitor = monitor.verdict

-- what it keeps of them
abbrev pub kept_of : Monitor → HistoryDigest
kept_of monitor = monitor.kept

-- the first event that fits no run
abbrev pub broken_of : Monitor → Option BrokenRule
broken_of monitor = monitor.broken

-- Nothing is wrong with the events that it was fed.
abbrev pub IsOpen : Monitor → Type 0
IsOpen monitor = verdict_of monitor ≡ so_far (criterion_of monitor)
