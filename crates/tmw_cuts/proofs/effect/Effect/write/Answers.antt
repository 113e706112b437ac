-- The value is left in the register, whatever is read.
use Rattle.tmw_cuts.proofs.Shared.{length, refl, rules, ◌≡◌}
use Rattle.tmw_cuts.proofs.Effects.{write-more}
use Rattle.tmw_cuts.proofs.EffectSteps.{with_write}
use Rattle.tmw_cuts.proofs.effect.Effect.write.Goals as goal

pub returns : goal.returns
returns c =
    let leaves : length c.args.self.now.leaves ≡ 8 = search rules in
    rw c.get-place.ensures.value (λ ops sums.
    with_write c.args.self.now _ ops c.args.register c.args.value sums refl refl (λ s long.
    write-more c.args.self.now ops c.args.register c.args.value sums.0 s long leaves))
