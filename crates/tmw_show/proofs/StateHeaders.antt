-- What is written of the states from which a window begins is the texts of traces, one for each state.
use Rattle.tmw_show.proofs.Shared.{All, AllByRecursion, Event, FitsKind, FitsRegisters, Header, IsHeaderFor, List, Registers, State, Two, [], ap, flat_map, length, map, refl, trace_text, ℕ, ◌++◌, ◌^◌, ◌∷◌, ◌≡◌, ◌≤◌}
use Rattle.tmw_texts.specs.TracesText.{start_trace}

-- the header of a trace that begins with this state
abbrev pub header_of : (registers : Registers) (state : State) → FitsRegisters registers.number state → Header
header_of registers state fits = record { version = Two; registers = registers; initial = state; starts = fits.zeros }

-- a header for each of these states
abbrev pub headers_of : (registers : Registers) (states : List State) → AllByRecursion (FitsRegisters registers.number) states → List Header
headers_of registers [] fit = []
headers_of registers (state ∷ states) fit = header_of registers state fit.0 ∷ headers_of registers states fit.1

pub initials-headers_of : (registers : Registers) (states : List State) (fit : AllByRecursion (FitsRegisters registers.number) states)
    → map (λ header. header.initial) (headers_of registers states fit) ≡ states
initials-headers_of registers [] fit = refl
initials-headers_of registers (state ∷ states) fit = ap (λ (ss : List State). state ∷ ss) (initials-headers_of registers states fit.1)

-- what holds of the header of each state holds of each of these headers, and the other way round
pub each-headers_of : (registers : Registers) (P : Header → Type 0) (states : List State)
    → (fit : AllByRecursion (FitsRegisters registers.number) states)
    → AllByRecursion (λ s. (f : FitsRegisters registers.number s) → P (header_of registers s f)) states
    → AllByRecursion P (headers_of registers states fit)
each-headers_of registers P [] fit each = tt
each-headers_of registers P (state ∷ states) fit each = (each.0 fit.0, each-headers_of registers P states fit.1 each.1)

pub headers_of-each : (registers : Registers) (P : Header → Type 0) (Q : State → Type 0)
    → ((s : State) (f : FitsRegisters registers.number s) → P (header_of registers s f) → Q s) → (states : List State)
    → (fit : AllByRecursion (FitsRegisters registers.number) states) → AllByRecursion P (headers_of registers states fit)
    → AllByRecursion Q states
headers_of-each registers P Q from [] fit each = tt
headers_of-each registers P Q from (state ∷ states) fit each =
    (from state fit.0 each.0, headers_of-each registers P Q from states fit.1 each.1)

-- the header of a state is that of a trace of these events
pub heads-header_of : (registers : Registers) (events : List Event) → All (λ event. FitsKind event.kind) events → length events ≤ 2 ^ 40
    → (state : State) (fits : FitsRegisters registers.number state) → IsHeaderFor registers events (header_of registers state fits)
heads-header_of registers events kinds few state fits = record {
  version = refl;
  same_registers = refl;
  are_events = record {
    fit = record { header_fits = (fits.eight, fits.values); items_fit = λ k d within. (kinds k d within, refl) };
    few = few;
  };
}

-- and the texts of these traces are what is written
pub text-headers_of : (registers : Registers) (events : List Event) (states : List State)
    → (fit : AllByRecursion (FitsRegisters registers.number) states)
    → flat_map (start_trace registers events) states ≡ flat_map (λ header. trace_text header events) (headers_of registers states fit)
text-headers_of registers events [] fit = refl
text-headers_of registers events (state ∷ states) fit =
    ap (λ (text : List ℕ). start_trace registers events state ++ text) (text-headers_of registers events states fit.1)
