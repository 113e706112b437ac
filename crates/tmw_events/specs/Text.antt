-- The texts of kinds and events. Numbers are decimal, without sign and without leading zeros.
use Rattle.std.specs.Prelude.{ℕ, ◌+◌, ◌<◌, ◌^◌, List, [], ◌∷◌, ◌++◌, codes}
use Rattle.std.specs.Fmt.{decimal}
use Rattle.tmw_events.specs.declared.event.Event.{Event}
use Rattle.tmw_events.specs.declared.event.Kind.{Kind}
use Rattle.tmw_events.specs.declared.event.Kind.TheVariants.{R, V, W, K, T, C, X, A, N}
use Rattle.tmw_events.specs.declared.ix.Ix.{Ix}

-- the digit that names a thread or a register
abbrev pub digit : Ix → ℕ
digit ix = 48 + ix.number

-- a kind's letter, then its register and its value, each after one space
abbrev pub kind_text : Kind → List ℕ
kind_text (R register) = codes "R " ++ digit register ∷ []
kind_text (V value) = codes "V " ++ decimal value
kind_text (W register value) = codes "W " ++ digit register ∷ 32 ∷ decimal value
kind_text K = codes "K"
kind_text T = codes "T"
kind_text C = codes "C"
kind_text X = codes "X"
kind_text A = codes "A"
kind_text (N register value) = codes "N " ++ digit register ∷ 32 ∷ decimal value

-- the event's thread, a space and its kind
abbrev pub event_text : Event → List ℕ
event_text event = digit event.thread ∷ 32 ∷ kind_text event.kind

-- a kind's value is a number of 64 bits
abbrev pub FitsKind : Kind → Type 0
FitsKind (V value) = value < 2 ^ 64
FitsKind (W register value) = value < 2 ^ 64
FitsKind (N register value) = value < 2 ^ 64
FitsKind _ = Unit {0}
