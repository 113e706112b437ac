-- Opacity (Guerraoui and Kapalka 2008, section 5), from any start state: the registers are the shared objects, and a
-- history is asked to be final-state opaque at each of its prefixes, since final-state opacity is not closed under them.
use Rattle.std.specs.Prelude.{◌≡◌, ◌==◌, ◌&&◌, ◌+◌, ◌%◌, ◌^◌, ◌≤◌, ℕ, Bool, true, not, nat_lt, List, [], ◌∷◌, length, take, replicate, remove, slice_get, slice_index, slice_set, Some, IsTrue, if◌then◌else◌}
use Rattle.std.specs.List.{list_all}
use Rattle.tmw_events.specs.declared.event.Event.{Event}
use Rattle.tmw_defs.specs.declared.op.Op.{Op}
use Rattle.tmw_defs.specs.declared.op.Op.TheVariants.{Read, Write, Add}
use Rattle.tmw_defs.specs.declared.status.Status.{Status}
use Rattle.tmw_defs.specs.declared.status.Status.TheVariants.{Live, Pending, Committed, Aborted}
use Rattle.tmw_defs.specs.History.{Txn, status_of, is_ended, operations, transactions, is_well_formed}

-- A state gives each register its value.
abbrev pub State : Type 0
State = List ℕ

-- The state in which a memory of eight registers begins where nothing else is told.
abbrev pub zeros : State
zeros = replicate 8 0

-- Real-time order: one transaction precedes another when it is completed and its last event is before the other's first.
abbrev pub precedes : Txn → Txn → Bool
precedes a b = is_ended a.text && nat_lt a.last b.first

-- A transaction in a serial order, and whether the completion holds it, that is, takes it as committed.
pub record Placed : Type 0 where
  pub txn : Txn
  pub held : Bool

-- A completion holds each committed transaction, any of the commit-pending ones, and no other.
abbrev pub may_hold : Status → Bool → Bool
may_hold Committed held = held
may_hold Pending held = true
may_hold Live held = not held
may_hold Aborted held = not held

abbrev pub may_be : Placed → Bool
may_be p = may_hold (status_of p.txn.text) p.held

-- The list places each of these transactions exactly once.
abbrev pub PlacesEach : List Txn → List Placed → Type 0
PlacesEach ts [] = ts ≡ []
PlacesEach ts (p ∷ more) = (i : ℕ) × (slice_get ts i ≡ Some p.txn) × PlacesEach (remove ts i) more

-- No transaction stands before one that precedes it in real time.
abbrev pub keeps_order : List Placed → Bool
keeps_order [] = true
keeps_order (p ∷ more) = list_all (λ q. not (precedes q.txn p.txn)) more && keeps_order more

-- Each read and each add was answered what its register holds, after the transaction's own earlier writes and adds.
-- Adds are modulo 2 ^ 64.
abbrev pub reads_hold : State → List Op → Bool
reads_hold s [] = true
reads_hold s (Read r v ∷ ops) = (slice_index s r.number == v) && reads_hold s ops
reads_hold s (Write r v ∷ ops) = reads_hold (slice_set s r.number v) ops
reads_hold s (Add r d v ∷ ops) = (slice_index s r.number == v) && reads_hold (slice_set s r.number ((v + d) % 2 ^ 64)) ops

-- What the registers hold after these operations.
abbrev pub after_writes : State → List Op → State
after_writes s [] = s
after_writes s (Read r v ∷ ops) = after_writes s ops
after_writes s (Write r v ∷ ops) = after_writes (slice_set s r.number v) ops
after_writes s (Add r d v ∷ ops) = after_writes (slice_set s r.number ((v + d) % 2 ^ 64)) ops

-- Only a transaction that the completion holds changes the state.
abbrev pub after : State → Placed → State
after s p = if p.held then after_writes s (operations p.txn.text) else s

-- Legal from a state: each transaction, also an aborted or a live one, reads what those before it that are held have left.
abbrev pub is_legal : State → List Placed → Bool
is_legal s [] = true
is_legal s (p ∷ more) = reads_hold s (operations p.txn.text) && is_legal (after s p) more

-- A serial order of these transactions, with a completion, that keeps the real-time order and is legal from the state.
pub record Explains (s : State) (ts : List Txn) (order : List Placed) : Type 0 where
  pub each : PlacesEach ts order
  pub kept : IsTrue (keeps_order order)
  pub completed : IsTrue (list_all may_be order)
  pub legal : IsTrue (is_legal s order)

abbrev pub HasOrder : State → List Txn → Type 0
HasOrder s ts = (order : List Placed) × Explains s ts order

-- Final-state opaque: well-formed, and some completion and serial order explains what every transaction read.
pub record IsFinalOpaque (registers : ℕ) (start : State) (history : List Event) : Type 0 where
  pub formed : IsTrue (is_well_formed registers history)
  pub ordered : HasOrder start (transactions history)

-- Opaque: each prefix, the history itself included, is final-state opaque.
abbrev pub IsOpaque : ℕ → State → List Event → Type 0
IsOpaque registers start history = (n : ℕ) → n ≤ length history → IsFinalOpaque registers start (take n history)
