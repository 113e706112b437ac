-- What was taken, or stopped at, is the event whose line the bytes begin with.
use Rattle.tmw_trace.proofs.Shared.{arith, is_spoken, true, ◌≡◌}
use Rattle.tmw_trace.proofs.FirstEvent.{event-line}
use Rattle.tmw_trace.proofs.give_event.give.Goals as goal

pub returns-in-Ok : goal.returns-in-Ok
returns-in-Ok g c =
    let spoken : is_spoken c.args.version c.args.kind ≡ true = cc in (
      omega arith,
      record { thread = c.args.thread; kind = c.args.kind },
      event-line c.args.version c.args.thread c.args.kind c.args.bytes.now c.args.count c.requires.line c.requires.fits spoken,
      c.in-Ok.ensures.taken,
      c.in-Ok.ensures.counted,
    )

pub returns-in-Err : goal.returns-in-Err
returns-in-Err g c =
    let spoken : is_spoken c.args.version c.args.kind ≡ true = cc in (
      omega arith,
      record { thread = c.args.thread; kind = c.args.kind },
      event-line c.args.version c.args.thread c.args.kind c.args.bytes.now c.args.count c.requires.line c.requires.fits spoken,
      c.in-Err.ensures.stops,
    )
