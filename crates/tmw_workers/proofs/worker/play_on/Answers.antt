use Rattle.tmw_workers.proofs.Shared.{calls_of, refl, rules}
use Rattle.tmw_workers.proofs.Returns.{worked-more}
use Rattle.tmw_workers.proofs.Between.{between-next, played_on-stopped, played_on-over}
use Rattle.tmw_workers.proofs.worker.play_on.Goals as goal

pub loop-preserved : goal.loop-preserved
loop-preserved g c =
    let worked = c.work-stop in
    let next = c.in-Some-next_bound.ensures in
    let works = worked-more ((goal.Tm-dyn g c.args.memory.now).gives c.args.memory.now.1) g.J.MemoryAnswers.gave (calls_of c.args.script.now)
    c.loop.worker.writer worked.new.writer c.work-stop.result c.requires.gives worked.ensures.worked in
    between-next g.J.MemoryAnswers.gave c.args.stage.ring.now (calls_of c.args.script.now) c.args.worker.now
    c.loop.worker (record { writer = c.see.new.writer; up = c.tell-in-loop.new.to; down = c.next_bound.new.down }) c.loop.invariant
    c.find_tail-tail.result c.in-Some-next_bound.bound c.work-stop.result
    (record { tail = c.find_tail-tail.result; stop = c.work-stop.result }) worked.new.writer c.find_tail-tail.new.writer
    c.in_default.is worked.ensures.of_ring worked.ensures.number works c.find_tail-tail.ensures
    c.tell-in-loop.ensures.ring c.tell-in-loop.ensures.sent next.ring next.next.1 next.next.0 c.see.ensures

pub returns-in-Some-stop : goal.returns-in-Some-stop
returns-in-Some-stop g c = search (rules, worked-more, calls_of, played_on-stopped)

pub returns-in_default-next_bound : goal.returns-in_default-next_bound
returns-in_default-next_bound g c =
    let worked = c.work-stop in
    let over = c.in_default-next_bound.ensures in
    let works = worked-more ((goal.Tm-dyn g c.args.memory.now).gives c.args.memory.now.1) g.J.MemoryAnswers.gave (calls_of c.args.script.now)
    c.loop.worker.writer worked.new.writer c.work-stop.result c.requires.gives worked.ensures.worked in
    played_on-over g.J.MemoryAnswers.gave c.args.stage.ring.now (calls_of c.args.script.now) c.args.worker.now c.loop.worker
    (record { writer = c.find_tail-tail.new.writer; up = c.tell-in-loop.new.to; down = c.next_bound.new.down }) c.loop.invariant
    c.find_tail-tail.result worked.result (record { tail = c.find_tail-tail.result; stop = worked.result }) worked.new.writer
    c.in_default.is refl worked.ensures.of_ring worked.ensures.number works c.find_tail-tail.ensures
    c.tell-in-loop.ensures.ring c.tell-in-loop.ensures.sent over.ring over.over
