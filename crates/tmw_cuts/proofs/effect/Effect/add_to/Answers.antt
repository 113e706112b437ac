-- An add is answered as a read and leaves the sum.
use Rattle.tmw_cuts.proofs.Shared.{Read, [], ◌++◌, ◌∷◌}
use Rattle.tmw_cuts.proofs.EffectSteps.{with_add}
use Rattle.tmw_cuts.proofs.effect.Effect.add_to.Goals as goal

pub returns : goal.returns
returns c = λ ops sums.
    with_add c.write.new.self ops c.args.register c.args.added c.args.value
    (c.write.ensures (ops ++ Read c.args.register c.args.value ∷ []) (c.read.ensures ops sums))
