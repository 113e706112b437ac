use Rattle.tmw_pump.proofs.Shared.{◌∙◌}
use Rattle.tmw_pump.proofs.KeepSteps.{all_kept}
use Rattle.tmw_pump.proofs.pump.Pump.judged.Goals as goal

pub returns : goal.returns
returns c = let pump = c.args.self.now in c.as_slice.ensures.value ∙ all_kept pump.front pump.kept pump.keeps
