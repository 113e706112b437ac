-- That a trace has one text, and a text one trace; and that an event has one pair of words, and a pair one event.
use Rattle.tmw_trace.specs.Shared.{AllFit, Event}
use Rattle.std.specs.Prelude.{◌≡◌}
use Rattle.tmw_events.specs.EventWords.{pack}
use Rattle.tmw_trace.specs.Text.{trace_grammar, trace_text}
use Rattle.tmw_trace.specs.declared.trace.Trace.{Trace}

-- Two traces whose texts are the same have the same header and the same events.
abbrev pub TextsNameTraces : Type 0
TextsNameTraces = (a b : Trace) → AllFit trace_grammar a.header a.events.items
    → AllFit trace_grammar b.header b.events.items
    → trace_text a.header a.events.items ≡ trace_text b.header b.events.items
    → (a.header ≡ b.header) × (a.events.items ≡ b.events.items)

-- Two events whose packed words are the same are the same event.
abbrev pub PairsNameEvents : Type 0
PairsNameEvents = (a b : Event) → pack a ≡ pack b → a ≡ b
