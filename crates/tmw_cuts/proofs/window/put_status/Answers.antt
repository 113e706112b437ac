use Rattle.tmw_cuts.proofs.Shared.{ap, sym, view, with_status, ◌∙◌}
use Rattle.tmw_cuts.proofs.OneChanged.{put-changes}
use Rattle.tmw_cuts.proofs.window.put_status.Goals as goal

pub returns-clause-shown : goal.returns-clause-shown
returns-clause-shown c =
    put-changes (with_status c.args.status) c.args.slots.now c.get.result c.args.place.number c.index-slots-get.result c.put_status.new.self c.told-slots
    c.get.ensures.value c.index-slots-get.is (c.put_status.ensures ∙ ap (λ t. with_status c.args.status (view t)) (sym c.index-slots-get.is))
