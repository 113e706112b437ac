use Rattle.tmw_watch.proofs.Shared.{All, WriterOf, rest_in, subst, sym, ◌∙◌}
use Rattle.tmw_watch.proofs.RestVerdict.{has_ended, is_closed, of_ring-writers, writers-given}
use Rattle.tmw_watch.proofs.watch.Watch.end.Goals as goal

pub settle-requires-clause-writers : goal.settle-requires-clause-writers
settle-requires-clause-writers c =
    let ring = c.args.self.ring.value in
    let given = c.args.recorders.items in
    let are = writers-given c.give_up.result.items c.args.room.items given c.requires.empty c.give_up.ensures in
    subst (All (WriterOf ring)) (sym are) (of_ring-writers ring given c.requires.of_ring)

pub returns-in-Ok-clause-ok : goal.returns-in-Ok-clause-ok
returns-in-Ok-clause-ok c =
    let given = c.args.recorders.items in
    let are = writers-given c.give_up.result.items c.args.room.items given c.requires.empty c.give_up.ensures in
    let rest = rest_in c.in-Ok.rest in
    let settled = c.in-Ok.ensures in
    let ended = has_ended c.args.self given c.give_up.result.items rest are c.requires.all settled.settled settled.front settled.one_log in
    is_closed c.args.self given rest c.judge_all.result ended settled.front c.judge_all.ensures

pub returns-in-Err-clause-err : goal.returns-in-Err-clause-err
returns-in-Err-clause-err c =
    let given = c.args.recorders.items in
    let back = c.in-Err.ensures.err in
    (back.0, back.1 ∙ writers-given c.give_up.result.items c.args.room.items given c.requires.empty c.give_up.ensures)
