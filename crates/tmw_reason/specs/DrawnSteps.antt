-- The steps and the contradictions that speak only of what is drawn: transactions, reads and values of what is kept of a window.
use Rattle.tmw_reason.specs.Shared.{Event, Op, Txn, first_unlike, flat_map, kept_of, left_by, list_any, needed_of, operations, owner_in, places_of, transactions}
use Rattle.tmw_defs.specs.declared.op.Op.TheVariants.{Add, Read, Write}
use Rattle.std.specs.Prelude.{Bool, List, None, Option, Some, [], if◌then◌else◌, map, ℕ, ◌++◌, ◌==◌, ◌∷◌}
use Rattle.tmw_events.specs.declared.ix.Ix.{Ix}
use Rattle.tmw_reason.specs.declared.reason_step.ValueSource.{ValueSource}
use Rattle.tmw_reason.specs.declared.reason_step.ReasonStep.{ReasonStep}
use Rattle.tmw_reason.specs.declared.reason_step.ReasonStep.TheVariants.{RealTime, From, TooLate, Overwritten, ReadFirst, ChangedFirst, Through}
use Rattle.tmw_reason.specs.declared.reason_step.Contradiction.{Contradiction}
use Rattle.tmw_reason.specs.declared.reason_step.Contradiction.TheVariants.{Cycle, NoSource, Unlike}
use Rattle.tmw_reason.specs.ReasonSteps.{from_else}

-- A transaction that is drawn: its place among those of the window, and its operations that are kept.
pub record Drawn : Type 0 where
  pub place : ℕ
  pub ops : List Op

-- What is drawn of a transaction of what is kept, whose events have these places in the window.
abbrev pub drawn_in : List ℕ → List Txn → Txn → Drawn
drawn_in places window t = record { place = owner_in places window t; ops = operations t.text }

-- The transactions of what is kept of a window.
abbrev pub drawn_of : List Bool → List Event → List Drawn
drawn_of marks window = map (drawn_in (places_of marks) (transactions window)) (transactions (kept_of marks window))

-- Registers, and one more if it is another.
abbrev pub with_register : Ix → List Ix → List Ix
with_register q registers = if list_any (λ p. p.number == q.number) registers then registers else registers ++ q ∷ []

-- These registers, and those of which the operations were answered a value, each once.
abbrev pub answered_too : List Ix → List Op → List Ix
answered_too registers [] = registers
answered_too registers (Read q v ∷ ops) = answered_too (with_register q registers) ops
answered_too registers (Write q v ∷ ops) = answered_too registers ops
answered_too registers (Add q d v ∷ ops) = answered_too (with_register q registers) ops

abbrev pub answered : Drawn → List Ix
answered one = answered_too [] one.ops

-- The sources of a value that the reader needs in the register, if it needs one: the start, and each transaction.
abbrev pub from_start : Drawn → Ix → ℕ → ValueSource
from_start reader q v = record { reader = reader.place; register = q; value = v; writer = None }

abbrev pub sources_in : List Drawn → Drawn → Ix → Option ℕ → List ValueSource
sources_in drawn reader q None = []
sources_in drawn reader q (Some v) =
    from_start reader q v ∷ map (λ one. from_else (from_start reader q v) (Some one.place)) drawn

abbrev pub sources_at : List Drawn → Drawn → Ix → List ValueSource
sources_at drawn reader q = sources_in drawn reader q (needed_of q.number reader.ops)

abbrev pub sources_of : List Drawn → Drawn → List ValueSource
sources_of drawn reader = flat_map (sources_at drawn reader) (answered reader)

abbrev pub drawn_sources : List Drawn → List ValueSource
drawn_sources drawn = flat_map (sources_of drawn) drawn

-- The steps that a source makes with a rival that leaves a value in its register.
abbrev pub rival_steps : ValueSource → ℕ → Option ℕ → List ReasonStep
rival_steps s rival None = []
rival_steps s rival (Some left) = Overwritten s rival left ∷ ReadFirst s rival left ∷ ChangedFirst rival left s ∷ []

abbrev pub steps_with : ValueSource → Drawn → List ReasonStep
steps_with s one = rival_steps s one.place (left_by s.register.number None one.ops)

abbrev pub source_steps : List Drawn → ValueSource → List ReasonStep
source_steps drawn s = From s ∷ TooLate s ∷ flat_map (steps_with s) drawn

-- The steps by which the transaction stands before another, by real time or by a third one.
abbrev pub real_times : List Drawn → ℕ → List ReasonStep
real_times drawn one = map (λ other. RealTime one other.place) drawn

abbrev pub throughs_to : List Drawn → ℕ → ℕ → List ReasonStep
throughs_to drawn one other = map (λ between. Through one between.place other) drawn

abbrev pub throughs : List Drawn → ℕ → List ReasonStep
throughs drawn one = flat_map (λ other. throughs_to drawn one other.place) drawn

-- All these steps.
abbrev pub drawn_steps : List Drawn → List ReasonStep
drawn_steps drawn =
    flat_map (λ one. real_times drawn one.place) drawn
    ++ (flat_map (λ one. throughs drawn one.place) drawn ++ flat_map (source_steps drawn) (drawn_sources drawn))

-- What may be wrong with what a transaction read of the register.
abbrev pub unlike_ends : Drawn → Ix → Option (ℕ × ℕ) → List Contradiction
unlike_ends one q None = []
unlike_ends one q (Some pair) = Unlike one.place q pair.0 pair.1 ∷ []

abbrev pub source_ends : Drawn → Ix → Option ℕ → List Contradiction
source_ends one q None = []
source_ends one q (Some v) = NoSource one.place q v ∷ []

abbrev pub ends_at : Drawn → Ix → List Contradiction
ends_at one q = unlike_ends one q (first_unlike q.number None one.ops) ++ source_ends one q (needed_of q.number one.ops)

abbrev pub ends_of : Drawn → List Contradiction
ends_of one = flat_map (ends_at one) (answered one)

-- All contradictions.
abbrev pub drawn_ends : List Drawn → List Contradiction
drawn_ends drawn = flat_map ends_of drawn ++ map (λ one. Cycle one.place) drawn
