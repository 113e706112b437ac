-- What is told of a line that has a fault, by what a reader of a trace holds of it, is what is told of the line with its number.
use Rattle.tmw_report.proofs.Shared.{Err, IsSent, List, Ok, Puts, QuotesHeld, QuotesLine, Result, Some, ap, arith, fault_of, inl, inr, is_empty_header, length, length-take, nat_lt, number_of, quoted, refl, sym, take, take-take, trace_grammar, trace_text, version_digit, version_in, wrong_of, ℕ, ◌++◌, ◌+◌, ◌==◌, ◌∙◌, ◌≡◌}
use Rattle.std.proofs.lemmas.Bool.Decides.{nat_tests}
use Rattle.tmw_lines.specs.ReadItems.{FailsHolding}
use Rattle.tmw_lines.specs.Lines.{format_by, unread_bytes}
use Rattle.tmw_lines.specs.LineFeeds.{HoldsFront, front_of, line_at}
use Rattle.tmw_lines.specs.TextFault.{HasFirstLineFault}
use Rattle.tmw_lines.specs.declared.lines.Lines.{Lines}
use Rattle.tmw_lines.specs.declared.text_fault.TextFault.{TextFault}
use Rattle.tmw_lines.specs.declared.text_fault.TextFault.TheVariants.{BadHeader, BadLine, Cut, Memory, Io, TooLong}
use Rattle.tmw_lines.proofs.Fronts.{line-behind}
use Rattle.tmw_streams.specs.Streams.{ToSink}
use Rattle.tmw_events.specs.declared.event.Event.{Event}
use Rattle.tmw_trace.specs.GrammarInjectivity.{trace_naming}
use Rattle.tmw_trace.specs.declared.header.Header.{Header}
use Rattle.tmw_trace.specs.declared.version.Version.{Version}
use Rattle.tmw_report.specs.declared.fault.Fault.{Fault}

pub sent-put : {E A X : Type 0} (Errors : ToSink E) (old new : E) (text : List ℕ) (result : Result A X)
    → Puts Errors old text new result → IsSent Errors old new text
sent-put Errors old new text (Ok done) put = inl put
sent-put Errors old new text (Err fault) put = inr put

-- a quoted line depends on no byte behind its first 4,096
quoted-cut : (text : List ℕ) → quoted (take 4096 text) ≡ quoted text
quoted-cut text =
    let long : nat_lt 80 (length (take 4096 text)) ≡ nat_lt 80 (length text) = simp length-take (grind (arith, nat_tests)) in
    rw (take-take 80 4096 text (omega arith), long) refl

quoted-held : (held text : List ℕ) → take 4096 held ≡ take 4096 text → quoted held ≡ quoted text
quoted-held held text same = sym (quoted-cut held) ∙ ap quoted same ∙ quoted-cut text

-- whether a line is empty depends on no byte behind its first 4,096
empty-cut : (text : List ℕ) → (length (take 4096 text) == 0) ≡ (length text == 0)
empty-cut text = simp length-take (grind (arith, nat_tests))

empty-held : (held text : List ℕ) → take 4096 held ≡ take 4096 text → (length held == 0) ≡ (length text == 0)
empty-held held text same = sym (empty-cut held) ∙ ap (λ (xs : List ℕ). length xs == 0) same ∙ empty-cut text

version-told : (header : Header) (events : List Event) (rest : List ℕ)
    → version_digit header.version ≡ version_in (trace_text header events ++ rest)
version-told header events rest = refl

-- where the texts are the same, what is told of one is told of the other
told-same : {E : Type 0} (Errors : ToSink E) (number : ℕ) (fault : Fault) (version : Version) (held bytes : List ℕ) (old new : E)
    → wrong_of fault (version_digit version) ≡ wrong_of fault (version_in bytes)
    → is_empty_header fault held ≡ is_empty_header fault (line_at number bytes)
    → take 4096 held ≡ take 4096 (line_at number bytes)
    → QuotesHeld Errors (Some number) fault version held old new → QuotesLine Errors (Some number) fault bytes old new
told-same Errors number fault version held bytes old new wrong empty same told =
    rw (← wrong, ← empty, ← quoted-held held (line_at number bytes) same) told

module _ {E : Type 0} (Errors : ToSink E) (Ended : Type 0) (lines : Lines Version) (bytes : List ℕ) (old new : E) where
  -- of a fault of the first line
  pub quoted-first : (told : TextFault) → HasFirstLineFault trace_grammar Ended bytes told → HoldsFront (unread_bytes lines) bytes
      → QuotesHeld Errors (number_of (fault_of told)) (fault_of told) (format_by lines) (front_of (unread_bytes lines)) old new
      → QuotesLine Errors (number_of (fault_of told)) (fault_of told) bytes old new
  quoted-first BadHeader has holds =
      told-same Errors 1 (fault_of BadHeader) (format_by lines) _ bytes old new refl
      (empty-held (front_of (unread_bytes lines)) (front_of bytes) holds) holds
  quoted-first (BadLine number) has holds = absurd has
  quoted-first (Cut number) has holds =
      told-same Errors number (fault_of (Cut number)) (format_by lines) _ bytes old new refl refl
      (holds ∙ ap (λ n. take 4096 (line_at n bytes)) (sym has.1))
  quoted-first Memory has holds = λ told. told
  quoted-first Io has holds = λ told. told
  quoted-first TooLong has holds = λ told. told

  module _ (header : Header) (events : List Event) where
    behind : (number : ℕ) (told : TextFault) (f : FailsHolding trace_grammar Ended lines header events bytes told)
        → number ≡ length events + 2 → take 4096 (front_of (unread_bytes lines)) ≡ take 4096 (line_at number bytes)
    behind number told f counted =
        f.holds ∙ ap (λ xs. take 4096 xs) (sym (ap (λ n. line_at n bytes) counted ∙ ap (line_at (length events + 2)) f.fails.text
        ∙ line-behind trace_grammar trace_naming header events f.fails.rest f.fails.are_lines.fit))

    version : (told : TextFault) (f : FailsHolding trace_grammar Ended lines header events bytes told)
        → version_digit (format_by lines) ≡ version_in bytes
    version told f = ap version_digit f.format ∙ version-told header events f.fails.rest ∙ ap version_in (sym f.fails.text)

    -- of a fault behind the lines of a header and of events
    pub quoted-behind : (told : TextFault) → FailsHolding trace_grammar Ended lines header events bytes told
        → QuotesHeld Errors (number_of (fault_of told)) (fault_of told) (format_by lines) (front_of (unread_bytes lines)) old new
        → QuotesLine Errors (number_of (fault_of told)) (fault_of told) bytes old new
    quoted-behind BadHeader f = absurd f.fails.line
    quoted-behind (BadLine number) f =
        told-same Errors number (fault_of (BadLine number)) (format_by lines) _ bytes old new
        (ap (wrong_of (fault_of (BadLine number))) (version (BadLine number) f)) refl (behind number (BadLine number) f f.fails.line.1)
    quoted-behind (Cut number) f =
        told-same Errors number (fault_of (Cut number)) (format_by lines) _ bytes old new refl refl
        (behind number (Cut number) f f.fails.line.1)
    quoted-behind Memory f = absurd f.fails.line
    quoted-behind Io f = λ told. told
    quoted-behind TooLong f = λ told. told
