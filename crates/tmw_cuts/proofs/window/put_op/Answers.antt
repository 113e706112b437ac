use Rattle.tmw_cuts.proofs.Shared.{ap, sym, view, with_op, ◌∙◌}
use Rattle.tmw_cuts.proofs.OneChanged.{put-changes}
use Rattle.tmw_cuts.proofs.window.put_op.Goals as goal

pub returns-clause-shown : goal.returns-clause-shown
returns-clause-shown c =
    put-changes (with_op c.args.op) c.args.slots.now c.get.result c.args.place.number c.index-slots-get.result c.add.new.self c.told-slots
    c.get.ensures.value c.index-slots-get.is (c.add.ensures ∙ ap (λ t. with_op c.args.op (view t)) (sym c.index-slots-get.is))
