-- The tracker tells what the event is to its transaction, and the counts follow.
use Rattle.tmw_counts.proofs.Shared.{refl}
use Rattle.tmw_counts.proofs.CounterSteps.{goes-live, step-begins, step-ends, step-midst, takes-event}
use Rattle.tmw_counts.proofs.OfThreads.{threads-same}
use Rattle.tmw_counts.proofs.counter.Counter.take.Goals as goal

pub returns-then-note-clause-takes : goal.returns-then-note-clause-takes
returns-then-note-clause-takes c registers history low so =
    takes-event registers history c.args.event c.in_ok-note.note _ _ _ c.args.self.now c.count_begin.new.self _ _ low so c.in_ok-note.ensures.takes
    c.in_ok-note.ensures.notes c.live-others.ensures.count c.asks_abort-asked.ensures c.live-live.ensures.count c.live-live.ensures.none
    (λ _. c.take.ensures history c.args.event refl so.threads)
    (λ taken. step-begins taken _ c.count_begin.new.self c.if-note.true (c.count_begin.ensures _))

pub returns-in-Some-clause-takes : goal.returns-in-Some-clause-takes
returns-in-Some-clause-takes c registers history low so =
    takes-event registers history c.args.event c.in_ok-note.note _ _ _ c.args.self.now c.count_end.new.self _ _ low so c.in_ok-note.ensures.takes
    c.in_ok-note.ensures.notes c.live-others.ensures.count c.asks_abort-asked.ensures c.live-live.ensures.count c.live-live.ensures.none
    (λ taken. threads-same history c.args.event _ (goes-live taken c.if-note.false) so.threads)
    (λ taken. step-ends taken _ c.count_end.new.self c.in-Some.end c.if-note.false c.in-Some.is c.count_end.ensures)

pub returns-in-None-clause-takes : goal.returns-in-None-clause-takes
returns-in-None-clause-takes c registers history low so =
    takes-event registers history c.args.event c.in_ok-note.note _ _ _ c.args.self.now _ _ _ low so c.in_ok-note.ensures.takes
    c.in_ok-note.ensures.notes c.live-others.ensures.count c.asks_abort-asked.ensures c.live-live.ensures.count c.live-live.ensures.none
    (λ taken. threads-same history c.args.event _ (goes-live taken c.if-note.false) so.threads)
    (λ taken. step-midst taken c.args.self.now _ low so c.if-note.false c.in-None.is)
