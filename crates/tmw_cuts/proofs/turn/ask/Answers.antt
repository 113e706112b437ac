use Rattle.tmw_cuts.proofs.Shared.{ap, slice_set}
use Rattle.tmw_cuts.proofs.turn.ask.Goals as goal

pub returns : goal.returns
returns c asked = (c.ask.new.self, ap (λ n. slice_set c.args.turns.now n c.ask.new.self) c.get.ensures.value, c.ask.ensures asked)
