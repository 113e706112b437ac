-- Quiet events: those after which a history that was final-state opaque, or final-state strict, still is.
use Rattle.std.specs.Prelude.{◌==◌, ◌&&◌, ℕ, Bool, true, false, not, List}
use Rattle.std.specs.List.{list_any}
use Rattle.tmw_events.specs.declared.event.Kind.{Kind}
use Rattle.tmw_events.specs.declared.event.Kind.TheVariants.{V, C, A}
use Rattle.tmw_defs.specs.declared.status.Status.{Status}
use Rattle.tmw_defs.specs.declared.status.Status.TheVariants.{Pending}
use Rattle.tmw_defs.specs.History.{Txn, status_of}

abbrev pub is_pending : Status → Bool
is_pending Pending = true
is_pending _ = false

-- A transaction of the thread is commit-pending.
abbrev pub awaits_commit : List Txn → ℕ → Bool
awaits_commit ts thread = list_any (λ t. (t.thread == thread) && is_pending (status_of t.text)) ts

-- The event tells nothing of the memory: it is no value, which answers a read or an add, and it answers no commit request.
abbrev pub is_quiet : List Txn → ℕ → Kind → Bool
is_quiet ts thread (V v) = false
is_quiet ts thread C = false
is_quiet ts thread A = not (awaits_commit ts thread)
is_quiet ts thread _ = true

-- For strict serializability what reads and adds are answered tells nothing either, until their transaction asks to commit: only
-- the answer of a commit request may tell something.
abbrev pub is_quiet_strictly : List Txn → ℕ → Kind → Bool
is_quiet_strictly ts thread C = false
is_quiet_strictly ts thread A = not (awaits_commit ts thread)
is_quiet_strictly ts thread _ = true
