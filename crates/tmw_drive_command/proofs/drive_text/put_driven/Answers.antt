-- The lines came after the trace, where that was asked for.
use Rattle.tmw_streams.proofs.Puts.{Puts-more, Puts-front}
use Rattle.tmw_trace.specs.Text.{trace_text}
use Rattle.tmw_drive_command.proofs.drive_text.put_driven.Goals.{then-trace+in_ok-write_trace, else-trace}
use Rattle.tmw_drive_command.proofs.drive_text.put_driven.Goals as goal

pub returns-in_err-write_trace : goal.returns-in_err-write_trace
returns-in_err-write_trace g c =
    rw c.if-trace.true (Puts-front g.K.Sink.to c.args.sink.now c.write_trace.new.sink
    (trace_text c.args.driven.now.header c.args.driven.now.outcome.log.items) c.args.lines.now c.from_residual.result
    c.from_residual.ensures.0 (rw c.deref.ensures.value at c.in_err-write_trace.ensures))

pub returns : goal.returns
returns g c =
    elim c.if-trace.branch [
      | then-trace+in_ok-write_trace w ↦
          let first = rw w.deref.ensures.value at w.in_ok-write_trace.ensures in
          let then = rw w.sink-is at c.put_all.ensures in
          rw w.if-trace.true (Puts-more g.K.Sink.to c.args.sink.now w.write_trace.new.sink
          (trace_text c.args.driven.now.header c.args.driven.now.outcome.log.items) c.args.lines.now c.put_all.new.sink
          c.put_all.result first then)
      | else-trace w ↦ rw w.if-trace.false (rw w.sink-is at c.put_all.ensures)
    ]
