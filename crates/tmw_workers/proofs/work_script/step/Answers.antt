use Rattle.tmw_workers.proofs.Shared.{IsTrue, inl, inr, rules, ◌==◌}
use Rattle.tmw_workers.proofs.CallTurns.{stops_in_turn-answer, turn-taken}
use Rattle.tmw_workers.proofs.Claims.{stops_at-answer, stops_at-call}
use Rattle.tmw_workers.proofs.work_script.step.Goals as goal

pub returns-then-player-gt0-clause-stopped : goal.returns-then-player-gt0-clause-stopped
returns-then-player-gt0-clause-stopped g c =
    stops_at-call c.args.ring.now c.args.call c.in-Err.refused _ _ c.requires.of_ring c.record_soon.ensures.of_ring c.record_soon.ensures.number
    c.in-Err.ensures.tried

pub returns-else-player-gt0-clause-stopped : goal.returns-else-player-gt0-clause-stopped
returns-else-player-gt0-clause-stopped g c =
    stops_at-call c.args.ring.now c.args.call c.in-Err.refused _ _ c.requires.of_ring c.record_soon.ensures.of_ring c.record_soon.ensures.number
    c.in-Err.ensures.tried

pub returns-then-not-ends-clause-stopped : goal.returns-then-not-ends-clause-stopped
returns-then-not-ends-clause-stopped g c =
    let two = c.record_soon-2.ensures in
    stops_at-answer c.args.ring.now c.args.call c.ask-answer.result _ c.in-Err-record_soon.refused _ _ _ c.record_soon.ensures.of_ring two.of_ring
    two.number c.in_default.ensures.tried c.ask-answer.ensures.fits c.in-Err-record_soon.ensures.tried

pub returns-else-not-ends-clause-stopped : goal.returns-else-not-ends-clause-stopped
returns-else-not-ends-clause-stopped g c =
    let two = c.record_soon-2.ensures in
    stops_at-answer c.args.ring.now c.args.call c.ask-answer.result _ c.in-Err-record_soon.refused _ _ _ c.record_soon.ensures.of_ring two.of_ring
    two.number c.in_default.ensures.tried c.ask-answer.ensures.fits c.in-Err-record_soon.ensures.tried

pub returns-then-not-ends-clause-leaves : goal.returns-then-not-ends-clause-leaves
returns-then-not-ends-clause-leaves g c =
    stops_in_turn-answer g.M.MemoryCalls.asked g.M.MemoryCalls.left (IsTrue (c.args.player.now.call == 0)) c.args.call c.ask-answer.result _
    c.in-Err-record_soon.refused c.args.writer.now c.record_soon.new.writer c.record_soon-2.new.writer c.args.player.now.tx
    c.ask-answer.new.player.tx c.in_default.ensures.tried c.ask-answer.ensures.asked c.in-Err-record_soon.ensures.tried
    (inr (c.leave-then-not-ends.new.player.tx, c.leave-then-not-ends.ensures.left))

pub returns-else-not-ends-clause-leaves : goal.returns-else-not-ends-clause-leaves
returns-else-not-ends-clause-leaves g c =
    stops_in_turn-answer g.M.MemoryCalls.asked g.M.MemoryCalls.left (IsTrue (c.args.player.now.call == 0)) c.args.call c.ask-answer.result _
    c.in-Err-record_soon.refused c.args.writer.now c.record_soon.new.writer c.record_soon-2.new.writer c.args.player.now.tx
    c.ask-answer.new.player.tx c.in_default.ensures.tried c.ask-answer.ensures.asked c.in-Err-record_soon.ensures.tried
    (inl (search rules))

pub returns-clause-turn : goal.returns-clause-turn
returns-clause-turn g c =
    turn-taken g.M.MemoryCalls.asked c.args.call c.ask-answer.result _ _ c.args.writer.now c.record_soon.new.writer c.record_soon-2.new.writer
    c.args.player.now c.ask-answer.new.player c.go_on.new.self c.in_default.ensures.tried c.ask-answer.ensures.asked
    c.ask-answer.ensures.transaction c.ask-answer.ensures.call c.in_default-record_soon.ensures.tried c.go_on.ensures.left c.go_on.ensures.tx
