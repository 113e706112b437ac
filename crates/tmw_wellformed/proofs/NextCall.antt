-- The pending call of a text with an event more.
use Rattle.tmw_wellformed.proofs.Shared.{Kind, None, Option, Some}

-- The call that has no answer after an event more.
abbrev pub next_call : Option Kind → Kind → Option Kind
next_call None kind = Some kind
next_call (Some call) kind = None
