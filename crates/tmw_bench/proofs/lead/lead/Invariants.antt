-- So many rounds have ended, and the workers were told where.
use Rattle.tmw_bench.proofs.Shared.{Fits, HasGoneOn, HasLedTo, List, ReaderOf, Rules, [], length, ℕ, ◌+◌, ◌≡◌}
use Rattle.tmw_bench.proofs.lead.lead.Given as goal

abbrev pub invariant-loop-round : goal.invariant-loop-round
invariant-loop-round g l =
    ReaderOf l.ring l.pump.reader × (length l.lines ≡ length l.fn.lines)
    × ((rules : Rules) → Fits rules [] l.fn.pump.front.monitor
    → (bounds : List ℕ) × (l.round ≡ length bounds + 1) × HasLedTo rules (length bounds) bounds l.pump.front l.fn.lines l.lines)
    × HasGoneOn l.fn.pump l.pump
