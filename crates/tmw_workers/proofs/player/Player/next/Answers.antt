use Rattle.tmw_workers.proofs.Shared.{arith, slice_get, ◌≡◌}
use Rattle.std.proofs.lemmas.Grind.{common_steps}
use Rattle.std.proofs.lemmas.Option.{gets, slice_get_read}
use Rattle.tmw_workers.proofs.Positions.{next_of-get}
use Rattle.tmw_workers.proofs.player.Player.next.Goals as goal

pub returns-in-Some-clause-next : goal.returns-in-Some-clause-next
returns-in-Some-clause-next c =
    let position = c.args.self.now in
    let lookup = c.in-Some.ensures.lookup in
    let copied : c.copied.result ≡ slice_get c.deref.result.now position.call = grind (arith, common_steps, gets) in
    grind (arith, slice_get, next_of-get, slice_get_read)
