-- What can be wrong with the next event of a well-formed history.
use Rattle.tmw_wellformed.specs.Shared.{Event, Kind, N, R, T, W, X, answers, is_well_formed, list_any}
use Rattle.std.specs.Prelude.{Bool, IsFalse, IsTrue, List, None, Option, Some, [], false, is_none, is_some, nat_lt, not, true, ℕ, ◌&&◌, ◌++◌, ◌∷◌}
use Rattle.tmw_wellformed.specs.declared.malformed.Malformed.{Malformed}
use Rattle.tmw_wellformed.specs.declared.malformed.Malformed.TheVariants.{Register, Busy, Idle, Mismatch}
use Rattle.tmw_wellformed.specs.PendingCalls.{pending_call}

-- An operation's call, or a request. Every other event is an answer.
abbrev pub asks : Kind → Bool
asks (R r) = true
asks (W r v) = true
asks (N r d) = true
asks T = true
asks X = true
asks _ = false

-- A call on a register that the run does not have.
abbrev pub lacks_register : ℕ → Kind → Bool
lacks_register registers (R r) = not (nat_lt r.number registers)
lacks_register registers (W r v) = not (nat_lt r.number registers)
lacks_register registers (N r d) = not (nat_lt r.number registers)
lacks_register registers _ = false

-- The event has this fault, where this is its thread's pending call.
abbrev pub has_fault : ℕ → Option Kind → Kind → Malformed → Bool
has_fault registers pending kind Register = lacks_register registers kind
has_fault registers pending kind Busy = asks kind && is_some pending
has_fault registers pending kind Idle = not (asks kind) && is_none pending
has_fault registers None kind Mismatch = false
has_fault registers (Some call) kind Mismatch = not (asks kind) && not (answers call kind)

-- The faults that are tested before this one.
abbrev pub earlier : Malformed → List Malformed
earlier Register = []
earlier Busy = Register ∷ []
earlier Idle = Register ∷ Busy ∷ []
earlier Mismatch = Register ∷ Busy ∷ Idle ∷ []

-- The history is ill-formed with the event, and of the faults this is the first that the event has.
pub record Refuses (registers : ℕ) (history : List Event) (event : Event) (fault : Malformed) : Type 0 where
  pub ill_formed : IsFalse (is_well_formed registers (history ++ event ∷ []))
  pub here : IsTrue (has_fault registers (pending_call event.thread.number history) event.kind fault)
  pub first : IsFalse (list_any (has_fault registers (pending_call event.thread.number history) event.kind) (earlier fault))
