-- The lines of the events came after the header's.
use Rattle.tmw_trace.proofs.Shared.{Puts-front, Puts-more, header_text, items_text, line, trace_grammar}
use Rattle.tmw_trace.proofs.trace_text.write_trace.Goals as goal

pub returns-in_err-put_header : goal.returns-in_err-put_header
returns-in_err-put_header g c =
    Puts-front g.K.Sink.to c.args.sink.now c.put_header.new.sink (line (header_text c.args.header.now))
    (items_text trace_grammar c.args.events.now) c.from_residual.result
    c.from_residual.ensures.0 c.in_err-put_header.ensures

pub returns : goal.returns
returns g c =
    Puts-more g.K.Sink.to c.args.sink.now c.put_header.new.sink (line (header_text c.args.header.now))
    (items_text trace_grammar c.args.events.now) c.put_lines.new.sink c.put_lines.result
    c.in_ok-put_header.ensures c.put_lines.ensures
