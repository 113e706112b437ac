-- Where no register is left with a value, the state stays.
use Rattle.tmw_cuts.proofs.Shared.{ap, chosen, eqb-true, put, sym, ◌∙◌}
use Rattle.tmw_cuts.proofs.Chosen.{put-chosen_none}
use Rattle.tmw_cuts.proofs.txn.Txn.only_reads.Goals as goal

pub returns-clause-leaves : goal.returns-clause-leaves
returns-clause-leaves c none s long =
    let effect = c.args.self.now.effect in
    (c.args.self.now.sums.0 s long).1
    ∙ ap (λ mask. put (chosen mask) effect.leaves s) (eqb-true effect.left 0 (sym c.only_reads.ensures ∙ none))
    ∙ put-chosen_none effect.leaves s
