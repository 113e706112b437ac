use Rattle.tmw_cuts.proofs.Shared.{Turn, ap, refl, slice_index_or, slice_set}
use Rattle.tmw_cuts.specs.declared.turn.Stage.TheVariants.{Between}
use Rattle.tmw_cuts.proofs.turn.end.Goals as goal

pub returns : goal.returns
returns c =
    let turn : Turn = slice_index_or c.args.turns.now c.get.result c.index-turns-get.result in
    let next : Turn = record turn { stage = Between } in
    (next, ap (λ n. slice_set c.args.turns.now n next) c.get.ensures.value, refl)
