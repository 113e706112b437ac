-- The register holds what is left in it, or else what it held.
use Rattle.tmw_cuts.proofs.Shared.{rules, sym, ◌∙◌}
use Rattle.tmw_cuts.proofs.Effects.{value-after}
use Rattle.tmw_cuts.proofs.effect.Effect.value_after.Goals as goal

pub returns-then-has_register : goal.returns-then-has_register
returns-then-has_register c = rw c.get-place.ensures.value (λ ops sums.
    let is = rw c.get-place.ensures.value at (sym c.has_register.ensures ∙ c.if-has_register.true) in
    sym (rw is at (value-after c.args.self.now ops c.args.register 0 sums.0 c.args.state.now c.told-state (search rules))))

pub returns-else-has_register : goal.returns-else-has_register
returns-else-has_register c = rw c.get-place.ensures.value (λ ops sums.
    let is = rw c.get-place.ensures.value at (sym c.has_register.ensures ∙ c.if-has_register.false) in
    sym (rw is at (value-after c.args.self.now ops c.args.register 0 sums.0 c.args.state.now c.told-state (search rules))))
