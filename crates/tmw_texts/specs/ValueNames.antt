-- Short names for long values: v1, v2 .. in the order in which they appear among the events that are shown.
use Rattle.tmw_texts.specs.Shared.{Event, decimal, kind_text, list_any}
use Rattle.std.specs.BTreeMap.{BTreeMap, get}
use Rattle.std.specs.Ordering.{nat_cmp}
use Rattle.std.specs.Prelude.{Bool, List, None, Option, Some, [], codes, if◌then◌else◌, nat_lt, position, ℕ, ◌++◌, ◌+◌, ◌==◌, ◌||◌, ◌∷◌, ◌≡◌}
use Rattle.tmw_events.specs.declared.event.Kind.{Kind}
use Rattle.tmw_events.specs.declared.event.Kind.TheVariants.{N, V, W}

-- A value of at most nine digits is short.
abbrev pub is_short : ℕ → Bool
is_short value = nat_lt value 1000000000

-- the value is one of these
abbrev pub has_name : List ℕ → ℕ → Bool
has_name values value = list_any (λ other. other == value) values

-- These values and the next one, if it is not short and not among them.
abbrev pub with_value : List ℕ → ℕ → List ℕ
with_value values value = if is_short value || has_name values value then values else values ++ value ∷ []

-- and the one that the next event writes, adds or answers
abbrev pub with_kind : List ℕ → Kind → List ℕ
with_kind values (W register value) = with_value values value
with_kind values (N register value) = with_value values value
with_kind values (V value) = with_value values value
with_kind values _ = values

-- The long values of these events, each once, after those before.
abbrev pub values_after : List ℕ → List Event → List ℕ
values_after values [] = values
values_after values (event ∷ events) = values_after (with_kind values event.kind) events

abbrev pub long_values : List Event → List ℕ
long_values events = values_after [] events

-- Of each value the map has the place among these, if it is one of them.
abbrev pub HasPlaces : List ℕ → BTreeMap ℕ ℕ → Type 0
HasPlaces values places = (value : ℕ) → get nat_cmp places value ≡ position (λ other. other == value) values

-- a value: by its name, if it is the long one at this place
abbrev pub named : ℕ → Option ℕ → List ℕ
named value None = decimal value
named value (Some place) = codes "v" ++ decimal (place + 1)

-- a value: by its name, if it has one
abbrev pub value_text : List ℕ → ℕ → List ℕ
value_text values value = named value (position (λ other. other == value) values)

abbrev pub stored_text : ℕ → List ℕ → List ℕ
stored_text register value = codes " " ++ (decimal register ++ (codes " " ++ value))

-- an event's kind, with its value by its name
abbrev pub shown_kind : List ℕ → Kind → List ℕ
shown_kind values (W register value) = codes "W" ++ stored_text register.number (value_text values value)
shown_kind values (N register value) = codes "N" ++ stored_text register.number (value_text values value)
shown_kind values (V value) = codes "V " ++ value_text values value
shown_kind values kind = kind_text kind

-- a line for each of these values, of which the first is of this place: what it is called
abbrev pub name_line : ℕ → ℕ → List ℕ
name_line place value = codes "    value  v" ++ (decimal (place + 1) ++ (codes " is " ++ (decimal value ++ codes "\n")))

abbrev pub names_from : ℕ → List ℕ → List ℕ
names_from place [] = []
names_from place (value ∷ values) = name_line place value ++ names_from (place + 1) values
