-- The quoted line came after what is wrong with it, and the advice after both; or the message for an empty line was put.
use Rattle.tmw_report.proofs.Shared.{List, Puts, Puts-front, Puts-more, advice_of, append_assoc, codes, decimal, empty_text, false, is_empty_header, quoted, refl, subst, sym, text_of, true, version_digit, wrong_of, ℕ, ◌++◌, ◌∙◌, ◌≡◌}
use Rattle.tmw_report.specs.declared.quote.Quote.{Quote}
use Rattle.tmw_report.proofs.quote.QuoteTextsTextsQuote.put_text.Goals as goal

-- the line's number, and what is wrong with it
abbrev complaint : Quote → List ℕ
complaint quote = (codes "error: line " ++ decimal quote.number) ++ wrong_of quote.fault (version_digit quote.version)

text-empty : (quote : Quote) → is_empty_header quote.fault quote.line.now ≡ true → empty_text ≡ text_of quote
text-empty quote is = rw is refl

text-quoted : (quote : Quote) → is_empty_header quote.fault quote.line.now ≡ false
    → complaint quote ++ (quoted quote.line.now ++ advice_of quote.fault) ≡ text_of quote
text-quoted quote not = rw not (sym (append_assoc (complaint quote) (quoted quote.line.now) (advice_of quote.fault)))

pub returns-then-is_empty_header : goal.returns-then-is_empty_header
returns-then-is_empty_header g c =
    let is = sym c.is_empty_header.ensures ∙ c.if-is_empty_header.true in
    subst (λ (text : List ℕ). Puts g.K.Sink.to c.args.sink.now text c.put_all.new.sink c.put_all.result)
    (text-empty c.args.quote.now is) c.put_all.ensures

pub returns-in_err-put_numbered : goal.returns-in_err-put_numbered
returns-in_err-put_numbered g c =
    let quote = c.args.quote.now in
    let not = sym c.is_empty_header.ensures ∙ c.if-is_empty_header.false in
    subst (λ (text : List ℕ). Puts g.K.Sink.to c.args.sink.now text c.put_numbered.new.sink c.from_residual.result)
    (text-quoted quote not)
    (Puts-front g.K.Sink.to c.args.sink.now c.put_numbered.new.sink (complaint quote)
    (quoted quote.line.now ++ advice_of quote.fault) c.from_residual.result c.from_residual.ensures.0 (rw c.wrong_of-wrong.ensures at c.in_err-put_numbered.ensures))

pub returns-in_err-put_quoted : goal.returns-in_err-put_quoted
returns-in_err-put_quoted g c =
    let quote = c.args.quote.now in
    let not = sym c.is_empty_header.ensures ∙ c.if-is_empty_header.false in
    let result = c.from_residual-in_err-put_quoted.result in
    subst (λ (text : List ℕ). Puts g.K.Sink.to c.args.sink.now text c.put_quoted.new.sink result)
    (text-quoted quote not)
    (Puts-more g.K.Sink.to c.args.sink.now c.put_numbered.new.sink (complaint quote)
    (quoted quote.line.now ++ advice_of quote.fault) c.put_quoted.new.sink result
    (rw c.wrong_of-wrong.ensures at c.in_ok-put_numbered.ensures)
    (Puts-front g.K.Sink.to c.put_numbered.new.sink c.put_quoted.new.sink (quoted quote.line.now) (advice_of quote.fault)
    result c.from_residual-in_err-put_quoted.ensures.0 c.in_err-put_quoted.ensures))

pub returns : goal.returns
returns g c =
    let quote = c.args.quote.now in
    let not = sym c.is_empty_header.ensures ∙ c.if-is_empty_header.false in
    subst (λ (text : List ℕ). Puts g.K.Sink.to c.args.sink.now text c.put_all-2.new.sink c.put_all-2.result)
    (text-quoted quote not)
    (Puts-more g.K.Sink.to c.args.sink.now c.put_numbered.new.sink (complaint quote)
    (quoted quote.line.now ++ advice_of quote.fault) c.put_all-2.new.sink c.put_all-2.result
    (rw c.wrong_of-wrong.ensures at c.in_ok-put_numbered.ensures)
    (Puts-more g.K.Sink.to c.put_numbered.new.sink c.put_quoted.new.sink (quoted quote.line.now) (advice_of quote.fault)
    c.put_all-2.new.sink c.put_all-2.result c.in_ok-put_quoted.ensures (rw c.advice_of.ensures at c.put_all-2.ensures)))
