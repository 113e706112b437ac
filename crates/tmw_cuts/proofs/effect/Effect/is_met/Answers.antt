-- The turn adds what its register decides: nothing, where it is not needed or has the needed value.
use Rattle.tmw_cuts.proofs.Shared.{and-true, arith, chosen, drop_all, false, get_or, length, rules, sym, ◌∙◌, ◌≡◌, ◌≤◌}
use Rattle.tmw_cuts.proofs.Chosen.{length-chosen, get_or-chosen}
use Rattle.tmw_cuts.proofs.Effects.{have-turn}
use Rattle.tmw_cuts.proofs.effect.Effect.is_met.Goals as goal

pub loop-register-preserved : goal.loop-register-preserved
loop-register-preserved c =
    let needs : length c.args.self.now.needs ≡ 8 = search rules in
    let i = c.loop-register.register in
    let mask = c.args.registers in
    let low = c.loop-register-test.true in
    let has : c.has_register.result ≡ get_or (chosen mask) i false = c.has_register.ensures ∙ sym (get_or-chosen mask i false low) in
    rw has (have-turn (chosen mask) c.args.self.now.needs c.args.state.now i (length-chosen mask) needs c.told-state low c.loop-register.met)
    ∙ c.loop-register.invariant

pub returns : goal.returns
returns c =
    let i = c.loop-register.register in
    let mask = c.args.registers in
    let over : length (chosen mask) ≤ i = omega (arith, length-chosen mask, c.loop-register-test.false) in
    sym (and-true c.loop-register.met) ∙ (rw (drop_all i (chosen mask) over) at c.loop-register.invariant)
