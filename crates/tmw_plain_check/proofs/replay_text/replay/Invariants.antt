-- What is left of the text, from the state reached, reads and writes as the whole does from the start.
use Rattle.tmw_plain_check.proofs.Shared.{after_writes, length, operations, reads_hold, ◌≡◌}
use Rattle.tmw_plain_check.proofs.replay_text.replay.Given as goal

abbrev pub invariant-loop-rest : goal.invariant-loop-rest
invariant-loop-rest l = record {
  reads : reads_hold l.state (operations l.rest) ≡ reads_hold l.start (operations l.text);
  writes : after_writes l.state (operations l.rest) ≡ after_writes l.start (operations l.text);
}

abbrev pub decreases-loop-rest : goal.decreases-loop-rest
decreases-loop-rest l = length l.rest
