-- Texts of items in a row, and of a state.
use Rattle.tmw_texts.specs.Shared.{Registers, State, flat_map, line, values_text}
use Rattle.std.specs.Prelude.{List, codes, drop, replicate, take, ℕ, ◌++◌}

-- so many blanks
abbrev pub blanks : ℕ → List ℕ
blanks count = replicate count 32

-- what the run's registers hold, each value after one space
abbrev pub state_text : Registers → State → List ℕ
state_text registers state = codes "    state " ++ values_text (take registers.number state)

-- a line for each state
abbrev pub states_text : Registers → List State → List ℕ
states_text registers states = flat_map (λ state. line (state_text registers state)) states

-- such items as a list, without the first comma
abbrev pub list_json : {I : Type 0} → (I → List ℕ) → List I → List ℕ
list_json item_json items = drop 1 (flat_map item_json items)
