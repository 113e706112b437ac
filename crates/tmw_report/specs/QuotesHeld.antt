-- What is told of a line that has a fault, by what the reader of a trace holds of it.
use Rattle.tmw_report.specs.Shared.{ToSink, line, version_digit}
use Rattle.std.specs.Prelude.{◌≡◌, ℕ, List, Option, Some, None}
use Rattle.tmw_trace.specs.declared.version.Version.{Version}
use Rattle.tmw_report.specs.SendText.{IsSent}
use Rattle.tmw_report.specs.Quote.{quote_text}
use Rattle.tmw_report.specs.declared.fault.Fault.{Fault}
use Rattle.tmw_report.specs.declared.quote.Quote.{Quote}

abbrev pub text_of : Quote → List ℕ
text_of quote = quote_text quote.number quote.fault (version_digit quote.version) quote.line.now

-- The sink for errors is told of the line of which this is held, and of a fault at no line nothing.
abbrev pub QuotesHeld : {E : Type 0} → ToSink E → Option ℕ → Fault → Version → List ℕ → E → E → Type 0
QuotesHeld Errors None fault version held old new = new ≡ old
QuotesHeld Errors (Some number) fault version held old new =
    IsSent Errors old new (line (quote_text number fault (version_digit version) held))
