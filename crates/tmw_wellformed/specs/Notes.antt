-- What an event is to its transaction: whether it begins it, and how it ends it.
use Rattle.tmw_wellformed.specs.Shared.{A, C, Event, Kind, transactions}
use Rattle.std.specs.Prelude.{IsTrue, List, None, Option, Some, [], length, ◌++◌, ◌+◌, ◌↔◌, ◌∷◌, ◌≡◌}
use Rattle.tmw_wellformed.specs.declared.note.End.{End}
use Rattle.tmw_wellformed.specs.declared.note.End.TheVariants.{Commit, Abort}
use Rattle.tmw_wellformed.specs.declared.note.Note.{Note}

-- How an event of this kind ends its transaction, if it does.
abbrev pub end_of : Kind → Option End
end_of C = Some Commit
end_of A = Some Abort
end_of _ = None

-- What the note tells of the event that follows the history: it begins a transaction exactly where there is one more with it,
-- and it ends its own as its kind says.
pub record Notes (history : List Event) (event : Event) (note : Note) : Type 0 where
  pub begins : IsTrue note.begins ↔ (length (transactions (history ++ event ∷ [])) ≡ length (transactions history) + 1)
  pub ends : note.ends ≡ end_of event.kind
