-- The turn puts in what is left in one register.
use Rattle.tmw_cuts.proofs.Shared.{ap, chosen, length, length-set, put, rules, slice_index, sym, ◌∙◌, ◌≡◌}
use Rattle.tmw_cuts.proofs.Chosen.{put-chosen_none}
use Rattle.tmw_cuts.proofs.Effects.{put-next}
use Rattle.tmw_cuts.proofs.effect.Effect.leave_in.Goals as goal

pub loop-left-preserved : goal.loop-left-preserved
loop-left-preserved c =
    let leaves : length c.args.self.now.leaves ≡ 8 = search rules in
    let r = c.lowest-register.result in
    let (size, same) = c.loop-left.invariant in (
      length-set c.loop-left.state r (slice_index c.args.self.now.leaves r) ∙ size,
      sym (put-next c.loop-left.left r c.args.self.now.leaves c.loop-left.state c.lowest-register.ensures.within c.lowest-register.ensures.among leaves size)
          ∙ same,
    )

pub returns : goal.returns
returns c = λ ops sums.
    sym (put-chosen_none c.args.self.now.leaves c.loop-left.state)
    ∙ ap (λ m. put (chosen m) c.args.self.now.leaves c.loop-left.state) (sym c.loop-left-test.false) ∙ c.loop-left.invariant.1
    ∙ sym (sums.0 c.args.state.now c.told-state).1
