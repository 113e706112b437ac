-- An event as two words: a header below 1,024, and a value. A joined word holds a place and a header.
use Rattle.std.specs.Prelude.{ℕ, ◌+◌, ◌*◌, ◌/◌, ◌%◌, ◌<◌}
use Rattle.tmw_events.specs.declared.event.Event.{Event}
use Rattle.tmw_events.specs.declared.event.Kind.{Kind}
use Rattle.tmw_events.specs.declared.event.Kind.TheVariants.{R, V, W, K, T, C, X, A, N}

-- the number of a kind's letter
abbrev pub kind_code : Kind → ℕ
kind_code (R register) = 0
kind_code (V value) = 1
kind_code (W register value) = 2
kind_code K = 3
kind_code T = 4
kind_code C = 5
kind_code X = 6
kind_code A = 7
kind_code (N register value) = 8

-- a kind's register, and 0 where it has none
abbrev pub kind_register : Kind → ℕ
kind_register (R register) = register.number
kind_register (W register value) = register.number
kind_register (N register value) = register.number
kind_register _ = 0

-- a kind's value, and 0 where it has none
abbrev pub kind_value : Kind → ℕ
kind_value (V value) = value
kind_value (W register value) = value
kind_value (N register value) = value
kind_value _ = 0

-- a kind's code, register and value
abbrev pub kind_parts : Kind → ℕ × ℕ × ℕ
kind_parts kind = (kind_code kind, kind_register kind, kind_value kind)

-- the kind's code, above three bits of the thread and three of the register
abbrev pub packed_header : Event → ℕ
packed_header event = kind_code event.kind * 64 + event.thread.number * 8 + kind_register event.kind

-- the event's header and its value
abbrev pub pack : Event → ℕ × ℕ
pack event = (packed_header event, kind_value event.kind)

-- The number has the ten bits of a header.
abbrev pub IsHeader : ℕ → Type 0
IsHeader header = header < 1024

-- a stamp above the ten bits of a header
abbrev pub stamped : ℕ → ℕ → ℕ
stamped stamp header = stamp * 1024 + header

-- the stamp and the header that such a word has
abbrev pub stamp_of : ℕ → ℕ
stamp_of word = word / 1024

abbrev pub header_of : ℕ → ℕ
header_of word = word % 1024

-- the word of a place and a header: a place's stamp is the place, counted from 1
abbrev pub joined : ℕ → ℕ → ℕ
joined place header = stamped (place + 1) header
