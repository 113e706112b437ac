-- What can't go on is taken by each, with what one has kept for both.
use Rattle.tmw_monitor.proofs.Shared.{arith}
use Rattle.tmw_monitor.proofs.BothKeep.{parted}
use Rattle.tmw_monitor.proofs.both_monitor.BothMonitor.take_shared.Goals as goal

pub take_each-requires : goal.take_each-requires
take_each-requires c =
    rw (c.part.ensures.opacity, c.part.ensures.strict) (record { room = c.requires.room; room_strictly = c.requires.room })

pub returns : goal.returns
returns c rules history fits =
    let most = c.args.self.now.opacity.bounds.most_states in
    let bound = fits.opacity.states in
    c.take_each.ensures rules history
    (parted rules history c.args.self.now c.part.new.self (omega (arith, most, bound)) fits c.requires.shared c.part.ensures)

pub close-requires-clause-cut : goal.close-requires-clause-cut
close-requires-clause-cut c events stands =
    c.goes_on.ensures.cut c.if-goes_on.false c.in-End.place c.in-End.is c.args.event events stands c.in-Ok.ensures.ok
