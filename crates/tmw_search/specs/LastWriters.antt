-- The ends of a node's orders, told by the last writer of each register; and those by completions and from starts.
use Rattle.tmw_search.specs.Shared.{Contains, Criterion, Effect, EndsBy, Event, State, transactions, view, views_of}
use Rattle.std.specs.Prelude.{Bool, IsTrue, List, length, map, slice_index, slice_set, ℕ, ◌<◌, ◌≡◌, ◌≤◌, ◌⊎◌}
use Rattle.tmw_search.specs.declared.node.Node.{Node}
use Rattle.tmw_search.specs.declared.source_choices.Choices.{Choices}
use Rattle.tmw_search.specs.Precedence.{Chosen, Has}
use Rattle.tmw_search.specs.NodeOrders.{In, left_at, IsLegal, IsNode}
use Rattle.tmw_search.specs.LegalOrders.{EndsAt, EndsIn, members_of}
use Rattle.tmw_search.specs.declared.completion_ends.Reading.{Reading}
use Rattle.tmw_search.specs.declared.end_states.EndStates.{EndStates}
use Rattle.tmw_search.specs.EndStates.{AreMembers}
use Rattle.tmw_cuts.specs.declared.txn.Txn as cuts

-- Each of these comes before it, or is it.
abbrev pub ComesBehind : List ℕ → ℕ → ℕ → Type 0
ComesBehind reach these i = (k : ℕ) → k < 8 → In these k → Has reach k i

-- None of these is ranked above it.
abbrev pub ComesLast : ℕ → ℕ → (ℕ → ℕ) → Type 0
ComesLast writers i rank = (k : ℕ) → k < 8 → In writers k → rank k ≤ rank i

-- None of the writers is ranked above it, and the reads have their values from their sources.
abbrev pub IsPutLast : Choices → ℕ → ℕ → (ℕ → ℕ) → Type 0
IsPutLast choices writers i rank = ComesLast writers i rank × Chosen choices rank

-- They are those that come before another of these.
pub record ComeBefore (reach : List ℕ) (these before : ℕ) : Type 0 where
  pub only : (i : ℕ) → i < 8 → In before i → (j : ℕ) × (j < 8) × In these j × Has reach i j × (i ≡ j → ⊥)
  pub all : (i j : ℕ) → i < 8 → j < 8 → In these j → Has reach i j → (i ≡ j → ⊥) → In before i

-- The state, with each register of the mask set to its last writer's value, if it has a writer, in one legal order of the node that holds
-- those that the node does.
pub record IsEndOf (xs : List Effect) (start : State) (node : Node) (registers : ℕ) (base end : State) : Type 0 where
  pub held : ℕ
  pub rank : ℕ → ℕ
  pub legal : IsLegal xs start 0 node held rank
  pub size : length end ≡ 8
  pub settled : (r : ℕ) → r < 8 → (In registers r → ⊥) → slice_index end r ≡ slice_index base r
  pub rest : (r : ℕ) → r < 8 → In registers r → EndsAt xs held rank r (slice_index base r) (slice_index end r)

-- The register, which held the first value, ends with the second in each legal order of the node.
abbrev pub EndWith : List Effect → Node → ℕ → ℕ → ℕ → Type 0
EndWith xs node r was value = (start : State) → IsNode xs start 0 node → (held : ℕ) (rank : ℕ → ℕ) → IsLegal xs start 0 node held rank
    → EndsAt xs held rank r was value

-- It is the state with what one of the mask leaves in the register.
abbrev pub LeftByOne : List Effect → ℕ → ℕ → State → State → Type 0
LeftByOne xs r mask base e = (place : ℕ) × (place < 8) × In mask place × (e ≡ slice_set base r (left_at xs place r))

-- Members of P were added to the set, and all of them where it is done.
pub record Adds {A : Type 0} (done : Bool) (old new : List A) (P : A → Type 0) : Type 0 where
  pub only : (e : A) → Contains new e → Contains old e ⊎ P e
  pub kept : (e : A) → Contains old e → Contains new e
  pub all : IsTrue done → (e : A) → P e → Contains new e

-- An end of the reading's orders, if there may be one, where the registers that none writes hold what the state does.
abbrev pub EndsByReading : List Effect → Reading → State → State → Type 0
EndsByReading xs reading state e = IsTrue reading.alive × IsEndOf xs reading.start reading.node 255 state e

-- An end of the node's legal orders from one of the starts.
pub record EndsFromAll (xs : List Effect) (starts : List State) (node : Node) (e : State) : Type 0 where
  pub start : State
  pub from : Contains starts start
  pub ends : IsEndOf xs start node 255 start e

-- The completion holds the first, and beside them only some of the second.
pub record Completes (held left more : ℕ) : Type 0 where
  pub all : (i : ℕ) → i < 8 → In held i → In more i
  pub only : (i : ℕ) → i < 8 → In more i → In held i ⊎ In left i

-- An end, from one of the starts, where the completion holds these, and some or none of those that are left.
pub record EndsByMore (criterion : Criterion) (xs : List Effect) (n : ℕ) (starts : List State) (reach : List ℕ) (held left : ℕ) (e : State) : Type 0 where
  pub more : ℕ
  pub completes : Completes held left more
  pub start : State
  pub from : Contains starts start
  pub ends : EndsIn xs start reach (members_of criterion n more) more e

-- Whatever events the transactions are of, these are their ends from one of the starts.
abbrev pub AreEndsFrom : Criterion → List cuts.Txn → List State → ℕ → EndStates → Type 0
AreEndsFrom criterion items starts cap ends = (events : List Event) → map view items ≡ views_of events
    → AreMembers cap (EndsBy criterion (Contains starts) (transactions events)) ends
