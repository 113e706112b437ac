-- A call that is counted leaves all else: that no byte is left at the end has one proof at most.
use Rattle.tmw_streams.proofs.Shared.{ap, IsTrue, le_prop, length, MemorySource, ℕ, →_prop, ◌≡◌, ◌≤◌}
use Rattle.tmw_streams.proofs.memory_source.MemorySource.fails_now.Goals as goal

abbrev counted : (s : MemorySource) (calls failures : ℕ) → (IsTrue s.over → length s.content.now ≤ s.at) → MemorySource
counted s calls failures none_left = record {
  content = s.content;
  at = s.at;
  most = s.most;
  fails_at = s.fails_at;
  calls = calls;
  failures = failures;
  over = s.over;
  none_left = none_left;
}

same_source : (s : MemorySource) (calls more failures : ℕ) (none_left : IsTrue s.over → length s.content.now ≤ s.at)
    → calls ≡ more → counted s calls failures none_left ≡ counted s more failures s.none_left
same_source s calls more failures none_left is =
    rw is (ap (counted s more failures) (→_prop le_prop none_left s.none_left))

pub returns-then-fails-clause-same : goal.returns-then-fails-clause-same
returns-then-fails-clause-same c = same_source c.args.self.now _ _ _ _ c.saturating_add-self.ensures

pub returns-else-fails-clause-same : goal.returns-else-fails-clause-same
returns-else-fails-clause-same c = same_source c.args.self.now _ _ _ _ c.saturating_add-self.ensures
