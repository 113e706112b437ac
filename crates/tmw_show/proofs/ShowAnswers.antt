-- What is shown of a run that was read and judged answers its bytes, and so does the want of memory for it.
use Rattle.tmw_show.proofs.Shared.{AnswersShow, AreEvents, Err, Event, Header, IfErr, IfOk, IsShowing, IsShownFor, List, Memory, Ok, Result, ShowOptions, ShownTrace, ShownWindow, [], append-nil, arith, refl, rules_for, sym, trace_grammar, trace_text, ℕ, ◌∙◌, ◌≡◌}
use Rattle.tmw_lines.specs.TextFault.{EndsSoon}
use Rattle.tmw_report.specs.Quote.{RemarksFault}
use Rattle.tmw_report.specs.declared.fault.Fault.{Fault}
use Rattle.tmw_streams.specs.Streams.{ToSink}
use Rattle.tmw_lines.specs.declared.text_fault.TextFault.TheVariants.{Memory as WantsMemory}

-- the text of a trace ends soon behind whole lines
pub trace-soon : (header : Header) (history : List Event) (bytes : List ℕ) → AreEvents header history → bytes ≡ trace_text header history
    → EndsSoon trace_grammar bytes
trace-soon header history bytes are text = record {
  begun = record { header = header; items = history; are_lines = are; rest = []; split = text ∙ sym (append-nil _) };
  soon = omega arith;
}

pub explained-answers : (options : ShowOptions) (Ended : Type 0) (bytes : List ℕ) (header : Header) (history : List Event) (showing : ShownWindow)
    (result : Result ShownTrace Fault) → Ended → AreEvents header history → bytes ≡ trace_text header history
    → IsShowing (rules_for options.criterion header.registers header.initial options.bounds) history showing
    → IfOk result (IsShownFor options.criterion options.why header.registers showing) → IfErr result (λ fault. fault ≡ Memory)
    → AnswersShow options Ended bytes result
explained-answers options Ended bytes header history showing (Ok shown) ended are text tells is none = (
  ended,
  record {
    header = header;
    history = history;
    are_events = are;
    text = text;
    registers = is.same_registers;
    tells = rw is.same_showing tells;
    needed = rw (is.same_registers, is.same_showing) is.needed;
  },
)
explained-answers options Ended bytes header history showing (Err fault) ended are text tells none is =
    rw is (WantsMemory, refl, trace-soon header history bytes are text)

-- nothing is told of it
pub explained-remarks : {E : Type 0} (Errors : ToSink E) (bytes : List ℕ) (result : Result ShownTrace Fault) (errors : E)
    → IfErr result (λ fault. fault ≡ Memory) → RemarksFault Errors bytes result errors errors
explained-remarks Errors bytes (Ok shown) errors is = refl
explained-remarks Errors bytes (Err fault) errors is = rw is refl
