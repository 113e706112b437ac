-- The bytes came after the first quote, and the end after them.
use Rattle.tmw_report.proofs.Shared.{Puts-front, Puts-more, ap, codes, escaped, quote_end, take, take_min, ◌++◌, ◌∙◌}
use Rattle.tmw_report.proofs.quote.put_quoted.Goals as goal

pub returns-in_err-put_escaped : goal.returns-in_err-put_escaped
returns-in_err-put_escaped g c =
    let line = c.args.line.now in
    let result = c.from_residual-in_err-put_escaped.result in
    let shown = ap (λ n. escaped (take n line)) c.min.ensures ∙ ap escaped (take_min 80 line) in
    Puts-more g.K.Sink.to c.args.sink.now c.put_all.new.sink (codes "\"") (escaped (take 80 line) ++ quote_end line)
    c.put_escaped.new.sink result c.in_ok-put_all.ensures
    (Puts-front g.K.Sink.to c.put_all.new.sink c.put_escaped.new.sink (escaped (take 80 line)) (quote_end line) result
    c.from_residual-in_err-put_escaped.ensures.0 (rw shown at c.in_err-put_escaped.ensures))

pub returns : goal.returns
returns g c =
    let line = c.args.line.now in
    let shown = ap (λ n. escaped (take n line)) c.min.ensures ∙ ap escaped (take_min 80 line) in
    Puts-more g.K.Sink.to c.args.sink.now c.put_all.new.sink (codes "\"") (escaped (take 80 line) ++ quote_end line)
    c.put_all-2.new.sink c.put_all-2.result c.in_ok-put_all.ensures
    (Puts-more g.K.Sink.to c.put_all.new.sink c.put_escaped.new.sink (escaped (take 80 line)) (quote_end line)
    c.put_all-2.new.sink c.put_all-2.result (rw shown at c.in_ok-put_escaped.ensures)
    (rw c.quote_end.ensures at c.put_all-2.ensures))
