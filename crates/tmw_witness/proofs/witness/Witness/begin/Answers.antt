use Rattle.tmw_witness.proofs.Shared.{rules}
use Rattle.tmw_witness.proofs.WitnessChanges.{AreLong, begin-kept}
use Rattle.tmw_witness.proofs.witness.Witness.begin.Goals as goal

pub returns-clause-stands : goal.returns-clause-stands
returns-clause-stands c = λ starts xs y size none may before was.
    let long : AreLong c.args.self.now = search rules in
    rw (c.get.ensures.value, c.get-2.ensures.value)
    (begin-kept starts xs y c.args.self.now c.args.place.number long c.args.place.below size none may before was)
