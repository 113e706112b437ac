-- The texts of headers and traces. Numbers are decimal, without sign and without leading zeros.
use Rattle.tmw_trace.specs.Shared.{AreLines, Event, FitsKind, Grammar, [], decimal, event_text, flat_map, lines_text}
use Rattle.std.specs.Prelude.{All, List, codes, length, take, true, ℕ, ◌++◌, ◌+◌, ◌<◌, ◌^◌, ◌∷◌, ◌≡◌}
use Rattle.tmw_trace.specs.Version.{is_spoken}
use Rattle.tmw_trace.specs.declared.header.Header.{Header}
use Rattle.tmw_trace.specs.declared.version.Version.{Version}
use Rattle.tmw_trace.specs.declared.version.Version.TheVariants.{One, Two}

-- the version's digit
abbrev pub version_digit : Version → ℕ
version_digit One = 49
version_digit Two = 50

-- each of these values after one space
abbrev pub values_text : List ℕ → List ℕ
values_text values = flat_map (λ value. 32 ∷ decimal value) values

-- the values at the start, which version two tells
abbrev pub initial_text : Version → List ℕ → List ℕ
initial_text One values = []
initial_text Two values = values_text values

-- the version, the number of registers, and the values at the start
abbrev pub numbers_text : Header → List ℕ
numbers_text header =
    version_digit header.version ∷ 32 ∷ (48 + header.registers.number)
    ∷ initial_text header.version (take header.registers.number header.initial)

-- a trace's first line without its line feed
abbrev pub header_text : Header → List ℕ
header_text header = codes "opacity-trace " ++ numbers_text header

-- eight registers have a value at the start, each of 64 bits
abbrev pub FitsHeader : Header → Type 0
FitsHeader header = (length header.initial ≡ 8) × All (λ value. value < 2 ^ 64) header.initial

-- an event of this version: its value is a number of 64 bits, and the version has its kind
abbrev pub FitsEvent : Version → Event → Type 0
FitsEvent version event = FitsKind event.kind × (is_spoken version event.kind ≡ true)

-- a trace's lines: its header's, and behind it one for each event of the header's version
abbrev pub trace_grammar : Grammar Version Header Event
trace_grammar = record {
  header_text = header_text;
  item_text = event_text;
  FitsHeader = FitsHeader;
  FitsItem = FitsEvent;
  format_of = λ header. header.version;
}

-- the header's line, then a line for each event
abbrev pub trace_text : Header → List Event → List ℕ
trace_text header events = lines_text trace_grammar header events

-- these are events of a trace with this header: the version has them, their values are numbers of 64 bits, and there are at
-- most 2^40
abbrev pub AreEvents : Header → List Event → Type 0
AreEvents header events = AreLines trace_grammar header events
