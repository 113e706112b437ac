use Rattle.tmw_pump.proofs.Shared.{◌∙◌}
use Rattle.tmw_pump.proofs.KeepSteps.{all_kept}
use Rattle.tmw_pump.proofs.rest.Rest.judged.Goals as goal

pub returns : goal.returns
returns c = let rest = c.args.self.now in c.as_slice.ensures.value ∙ all_kept rest.front rest.kept rest.keeps
