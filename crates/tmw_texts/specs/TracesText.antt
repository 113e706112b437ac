-- The texts of the traces of a window: one for each state from which it begins.
use Rattle.tmw_texts.specs.Shared.{Event, Registers, State, event_text, flat_map, line, values_text}
use Rattle.std.specs.Prelude.{List, codes, take, ℕ, ◌++◌, ◌+◌, ◌∷◌}

-- the header of a trace of so many registers that begins with this state, without its line feed
abbrev pub start_text : Registers → State → List ℕ
start_text registers state = codes "opacity-trace 2 " ++ (48 + registers.number) ∷ values_text (take registers.number state)

-- a line for each event
abbrev pub events_text : List Event → List ℕ
events_text events = flat_map (λ event. line (event_text event)) events

-- the trace of these events from this state
abbrev pub start_trace : Registers → List Event → State → List ℕ
start_trace registers events state = line (start_text registers state) ++ events_text events

-- the traces of these events from each of these states, one behind the other
abbrev pub traces_text : Registers → List Event → List State → List ℕ
traces_text registers events states = flat_map (start_trace registers events) states
