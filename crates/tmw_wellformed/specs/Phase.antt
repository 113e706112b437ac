-- The phases of a thread: which one a live transaction's text is in, and which event leads from one to which.
use Rattle.tmw_wellformed.specs.Shared.{A, C, K, Kind, N, R, T, Txn, V, W, X, ends}
use Rattle.std.specs.Prelude.{Bool, Err, None, Ok, Option, Result, Some, false, if◌then◌else◌, true}
use Rattle.tmw_wellformed.specs.declared.malformed.Malformed.{Malformed}
use Rattle.tmw_wellformed.specs.declared.malformed.Malformed.TheVariants.{Busy, Idle, Mismatch}
use Rattle.tmw_wellformed.specs.declared.phase.Phase.{Phase}
use Rattle.tmw_wellformed.specs.declared.phase.Phase.TheVariants.{Between, Within, Reading, Writing, Committing, Aborting}
use Rattle.tmw_wellformed.specs.PendingCalls.{call_of}
use Rattle.tmw_wellformed.specs.Faults.{asks}

-- The phase in which this call is pending.
abbrev pub phase_in : Kind → Phase
phase_in (R r) = Reading
phase_in (N r d) = Reading
phase_in (W r v) = Writing
phase_in T = Committing
phase_in X = Aborting
phase_in _ = Within

-- The phase of a thread with a live transaction, by the pending call.
abbrev pub phase_within : Option Kind → Phase
phase_within (Some call) = phase_in call
phase_within None = Within

-- The phase of a thread, by its live transaction.
abbrev pub phase_of : Option Txn → Phase
phase_of (Some t) = phase_within (call_of t.text)
phase_of None = Between

-- The thread has a live transaction.
abbrev pub is_live : Phase → Bool
is_live Between = false
is_live _ = true

-- A call is pending.
abbrev pub waits : Phase → Bool
waits Between = false
waits Within = false
waits _ = true

-- The event answers the pending call.
abbrev pub takes : Phase → Kind → Bool
takes Reading (V v) = true
takes Writing K = true
takes Committing C = true
takes phase A = waits phase
takes _ _ = false

-- The phase after the event, or what is wrong with the event. Registers are left out of account.
abbrev pub next_phase : Phase → Kind → Result Phase Malformed
next_phase phase kind =
    if asks kind then (if waits phase then Err Busy else Ok (phase_in kind))
    else if waits phase
    then (if takes phase kind then Ok (if ends kind then Between else Within) else Err Mismatch)
    else Err Idle
