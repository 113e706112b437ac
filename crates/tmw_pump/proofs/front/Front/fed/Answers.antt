use Rattle.tmw_pump.proofs.Shared.{◌∙◌}
use Rattle.tmw_pump.proofs.WasFed.{count-fed}
use Rattle.tmw_pump.proofs.front.Front.fed.Goals as goal

pub returns : goal.returns
returns c = c.fed.ensures.shown ∙ count-fed c.args.self.now.judged.items c.args.self.now.monitor c.args.self.now.fed
