-- The line was put, or a beginning of it.
use Rattle.tmw_report.proofs.Shared.{IsSent, List, Some, append-nil, number_of, subst, sym, ℕ, ◌∙◌, ◌≡◌}
use Rattle.tmw_report.proofs.Quotes.{sent-put}
use Rattle.tmw_report.proofs.quote.send_quote.Goals as goal

pub returns : goal.returns
returns g c =
    let number : number_of c.args.fault ≡ Some c.in-Some.number = sym c.number_of.ensures ∙ c.in-Some.is in
    let put = rw (c.format.ensures, c.front.ensures) at c.put_lines-sent.ensures in
    rw number (subst (λ (text : List ℕ). IsSent g.E.Sink.to c.args.errors.now c.put_lines-sent.new.sink text) (append-nil _)
    (sent-put g.E.Sink.to c.args.errors.now c.put_lines-sent.new.sink _ c.put_lines-sent.result put))
