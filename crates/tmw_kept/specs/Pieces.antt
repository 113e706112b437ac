-- The pieces of a window, each of which is taken out at once, alone or together with the reads of its values: its transactions, and their
-- calls, each with its answer if it has one.
use Rattle.tmw_kept.specs.Shared.{Event, Txn, is_call, transactions}
use Rattle.tmw_events.specs.declared.event.Kind.{Kind}
use Rattle.tmw_events.specs.declared.event.Kind.TheVariants.{N, V, W}
use Rattle.std.specs.Prelude.{Bool, List, None, Option, Some, [], false, find, if◌then◌else◌, map, nat_le, option_map, position, ℕ, ◌%◌, ◌&&◌, ◌++◌, ◌+◌, ◌==◌, ◌^◌, ◌∷◌}
use Rattle.tmw_kept.specs.declared.piece.Call.{Call}
use Rattle.tmw_kept.specs.declared.piece.Piece.{Piece}

-- The whole transaction.
abbrev pub whole_of : Txn → Piece
whole_of t = record { thread = t.thread; from = t.first; upto = t.last }

-- The place of the event that has n others between it and this place, if there is one, and else this place.
abbrev pub behind : ℕ → Option ℕ → ℕ
behind place None = place
behind place (Some n) = place + 1 + n

-- A call at this place, before these events: with the next event of its thread, which is its answer where they are well-formed.
abbrev pub call_of : ℕ → Event → List Event → Call
call_of place e events = record {
  piece = record {
    thread = e.thread.number;
    from = place;
    upto = behind place (position (λ other. other.thread.number == e.thread.number) events);
  };
  kind = e.kind;
  next = option_map (λ other. other.kind) (find (λ other. other.thread.number == e.thread.number) events);
}

-- The calls among these events, of which the first has this place.
abbrev pub calls_from : ℕ → List Event → List Call
calls_from place [] = []
calls_from place (e ∷ events) =
    if is_call 8 e.kind then call_of place e events ∷ calls_from (place + 1) events else calls_from (place + 1) events

abbrev pub calls : List Event → List Call
calls window = calls_from 0 window

abbrev pub pieces : List Event → List Piece
pieces window = map whole_of (transactions window) ++ map (λ call. call.piece) (calls window)

-- The event at this place is one of the piece.
abbrev pub is_of : Piece → ℕ → Event → Bool
is_of piece place e = (e.thread.number == piece.thread) && (nat_le piece.from place && nat_le place piece.upto)

-- The call is one of the piece.
abbrev pub is_within : Piece → Piece → Bool
is_within piece call = (call.thread == piece.thread) && (nat_le piece.from call.from && nat_le call.from piece.upto)

-- The call puts the value into the register: a write of it, answered or not, or an add that ends there.
abbrev pub puts_by : ℕ → ℕ → Kind → Option Kind → Bool
puts_by r v (W q w) next = (q.number == r) && (w == v)
puts_by r v (N q d) (Some (V w)) = (q.number == r) && ((w + d) % 2 ^ 64 == v)
puts_by r v kind next = false

abbrev pub puts : ℕ → ℕ → Call → Bool
puts r v call = puts_by r v call.kind call.next
