-- What was counted is the part that the verdict covers.
use Rattle.tmw_pump.proofs.Shared.{∥∥₁_map}
use Rattle.tmw_counts.proofs.Widest.{summary_known}
use Rattle.tmw_pump.proofs.front.Front.summary.Goals as goal

pub returns : goal.returns
returns c = summary_known _ _ (∥∥₁_map c.args.self.now.counted (λ was. c.summary.ensures was.registers _ was.counts))
