use Rattle.tmw_pump.proofs.Shared.{arith, rules}
use Rattle.tmw_pump.proofs.KeepSteps.{new_kept}
use Rattle.tmw_pump.proofs.pump.Pump.keeping.Goals as goal

pub invariant_of-result : goal.invariant_of-result
invariant_of-result g c =
    let fed = c.requires.fed in
    let new = c.new.ensures in record {
      all = search rules;
      keeps = ∣ (fed.0, new_kept g.K.Keep.keeps c.args.monitor c.new.result c.args.kept new.judged new.monitor c.requires.kept fed.0 fed.1) ∣₁;
    }

pub returns-clause-keeps : goal.returns-clause-keeps
returns-clause-keeps g c = grind (arith, new_kept)
