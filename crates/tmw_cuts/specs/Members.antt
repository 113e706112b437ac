-- The states of a set, in rising order: register 0 is compared first.
use Rattle.tmw_cuts.specs.Shared.{Contains, State}
use Rattle.std.specs.Prelude.{List, vec_capacity, ℕ, ◌↔◌, ◌≡◌, ◌≤◌, ◌⊎◌}
use Rattle.std.specs.Cmp.Lexicographic.{slice_cmp}
use Rattle.std.specs.Ordering.{nat_cmp}
use Rattle.std.specs.declared.cmp.Ordering.TheVariants.{Less}
use Rattle.tmw_cuts.specs.declared.states.States.{States}

abbrev pub members : States → List State
members states = states.items.items

-- The one list has the states of the other and this one.
abbrev pub AddsMember : List State → List State → State → Type 0
AddsMember old new state = (s : State) → Contains new s ↔ ((s ≡ state) ⊎ Contains old s)

-- Each state of the list comes before this one.
abbrev pub AreBelow : List State → State → Type 0
AreBelow states state = (s : State) → Contains states s → slice_cmp nat_cmp s state ≡ Less

-- for how many states it has memory
abbrev pub room_of : States → ℕ
room_of states = vec_capacity states.items

-- It has memory for as many as a history may have at a cut, and one more.
abbrev pub HasRoom : States → Type 0
HasRoom states = 65 ≤ room_of states
