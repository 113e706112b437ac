-- Whether it is at a cut decides what three of its numbers are.
use Rattle.tmw_counts.proofs.Shared.{arith}
use Rattle.tmw_counts.proofs.counter.Counter.count.Goals as goal
use Rattle.tmw_counts.proofs.counter.Counter.count.Goals.{then-live-eq0, else-live-eq0}

pub returns-then-note-2 : goal.returns-then-note-2
returns-then-note-2 c = elim c.if-live-eq0.branch [
  | then-live-eq0 w ↦ rw w.self-is (grind arith)
  | else-live-eq0 w ↦ rw w.self-is (grind arith)
]

pub returns-else-note-2 : goal.returns-else-note-2
returns-else-note-2 c = elim c.if-live-eq0.branch [
  | then-live-eq0 w ↦ rw w.self-is (grind arith)
  | else-live-eq0 w ↦ rw w.self-is (grind arith)
]
