-- The reads of the values that a piece of a window puts into registers.
use Rattle.tmw_part.specs.Shared.{Call, Event, Kind, N, Piece, R, V, calls, is_within, list_any, puts}
use Rattle.std.specs.Prelude.{Bool, List, Option, Some, [], false, filter, map, ℕ, ◌&&◌, ◌++◌, ◌∷◌}

-- One of these calls is of the piece and puts the value into the register.
abbrev pub is_put : Piece → List Call → ℕ → ℕ → Bool
is_put piece calls r v = list_any (λ call. is_within piece call.piece && puts r v call) calls

-- The call was answered a value that the piece puts there, before it or after.
abbrev pub reads_by : Piece → List Call → Kind → Option Kind → Bool
reads_by piece calls (R q) (Some (V w)) = is_put piece calls q.number w
reads_by piece calls (N q d) (Some (V w)) = is_put piece calls q.number w
reads_by piece calls kind next = false

abbrev pub reads_put : Piece → List Call → Call → Bool
reads_put piece calls call = reads_by piece calls call.kind call.next

-- The calls that read a value of the piece; and the piece together with them.
abbrev pub readers : Piece → List Call → List Piece
readers piece calls = map (λ call. call.piece) (filter (reads_put piece calls) calls)

abbrev pub with_readers : Piece → List Event → List Piece
with_readers piece window = readers piece (calls window) ++ piece ∷ []
