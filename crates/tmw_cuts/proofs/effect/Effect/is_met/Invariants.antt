-- What the registers behind need, and what those ahead need, decide.
use Rattle.tmw_cuts.proofs.Shared.{chosen, drop, have, ◌&&◌, ◌≡◌}
use Rattle.tmw_cuts.proofs.effect.Effect.is_met.Given as goal

abbrev pub invariant-loop-register : goal.invariant-loop-register
invariant-loop-register l =
    (l.met && have (drop l.register (chosen l.registers)) (drop l.register l.self.needs) (drop l.register l.state))
    ≡ have (chosen l.registers) l.self.needs l.state
