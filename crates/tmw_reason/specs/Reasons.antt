-- What the steps of a reason say of a serial order, what a reason is, and the law that its steps hold in each order.
use Rattle.tmw_reason.specs.Shared.{Contains, Criterion, Event, Placed, State, Txn, flat_map, is_among, list_all, list_any, operations, option_to_list, range_with_len, transactions, writes}
use Rattle.std.specs.Prelude.{All, Bool, IsTrue, List, None, Option, Some, [], false, filter, if◌then◌else◌, length, map, nat_lt, not, pred, remove, slice_get, suc, take, true, zip, ℕ, ◌&&◌, ◌++◌, ◌<◌, ◌==◌, ◌∷◌, ◌≡◌, ◌≤◌, ◌⊎◌}
use Rattle.tmw_defs.specs.Criteria.{ExplainsBy}
use Rattle.tmw_reason.specs.declared.reason_case.Derivation.{Derivation}
use Rattle.tmw_reason.specs.declared.reason_case.ReasonCase.{ReasonCase}
use Rattle.tmw_reason.specs.declared.reason_step.ReasonStep.{ReasonStep}
use Rattle.tmw_reason.specs.declared.reason_step.ReasonStep.TheVariants.{RealTime, From, TooLate, Overwritten, ReadFirst, ChangedFirst, Through}
use Rattle.tmw_reason.specs.declared.reason_step.ValueSource.{ValueSource}
use Rattle.tmw_reason.specs.declared.reason_step.Contradiction.{Contradiction}
use Rattle.tmw_reason.specs.ReasonSteps.{Asked, Derives, contradicts, from_else, gives, is_asked, may_come_from}
use Rattle.tmw_kept.specs.HasOrderFrom.{HasOrderFrom}

-- The transaction at place a of the list stands at place i of the order.
pub record StandsAt (ts : List Txn) (order : List Placed) (a i : ℕ) : Type 0 where
  pub placed : Placed
  pub there : slice_get order i ≡ Some placed
  pub is : slice_get ts a ≡ Some placed.txn

-- If both stand in the order, the one stands before the other.
abbrev pub StandsBefore : List Txn → List Placed → ℕ → ℕ → Type 0
StandsBefore ts order a b = (i j : ℕ) → StandsAt ts order a i → StandsAt ts order b j → i < j

-- What stands at place i of the order is held and writes or adds to the register.
pub record Changes (order : List Placed) (r i : ℕ) : Type 0 where
  pub placed : Placed
  pub there : slice_get order i ≡ Some placed
  pub held : IsTrue placed.held
  pub writes : IsTrue (writes r (operations placed.txn.text))

-- Nothing that stands from place i to before place j changes the register.
abbrev pub IsUnchanged : List Placed → ℕ → ℕ → ℕ → Type 0
IsUnchanged order r i j = (k : ℕ) → i ≤ k → k < j → Changes order r k → ⊥

-- What the register holds before place j comes from the writer: it stands there as the last that is held and changes it; or, if there
-- is no writer, none such stands before.
abbrev pub ComesFrom : List Txn → List Placed → ℕ → ℕ → Option ℕ → Type 0
ComesFrom ts order r j None = IsUnchanged order r 0 j
ComesFrom ts order r j (Some a) = (i : ℕ) × StandsAt ts order a i × (i < j) × Changes order r i × IsUnchanged order r (suc i) j

-- Where a source's reader stands, its value does not come from there.
abbrev pub ComesNot : List Txn → List Placed → ValueSource → Type 0
ComesNot ts order s = (j : ℕ) → StandsAt ts order s.reader j → ComesFrom ts order s.register.number j s.writer → ⊥

-- The one stands before the writer. None stands before the start.
abbrev pub StandsBeforeWriter : List Txn → List Placed → ℕ → Option ℕ → Type 0
StandsBeforeWriter ts order a None = ⊥
StandsBeforeWriter ts order a (Some b) = StandsBefore ts order a b

-- What a step says of the order.
abbrev pub HoldsIn : List Txn → List Placed → ReasonStep → Type 0
HoldsIn ts order (RealTime one other) = StandsBefore ts order one other
HoldsIn ts order (From s) = (j : ℕ) × StandsAt ts order s.reader j × ComesFrom ts order s.register.number j s.writer
HoldsIn ts order (TooLate s) = ComesNot ts order s
HoldsIn ts order (Overwritten s rival left) = ComesNot ts order s
HoldsIn ts order (ReadFirst s rival left) = StandsBefore ts order s.reader rival
HoldsIn ts order (ChangedFirst rival left s) = StandsBeforeWriter ts order rival s.writer
HoldsIn ts order (Through one between other) = StandsBefore ts order one other

-- From these states the steps contradict each other so, where each but those that are assumed follows from those before it.
pub record IsContradicted (criterion : Criterion) (states : List State) (ts : List Txn) (assumed : ℕ) (steps : List ReasonStep) (end : Contradiction)
    : Type 0 where
  pub derives : Derives criterion states ts assumed steps
  pub ends : IsTrue (contradicts criterion states ts steps end)

-- None of the steps that follow can be left out.
abbrev pub IsNeededEach : Criterion → List State → List Txn → ℕ → List ReasonStep → Contradiction → Type 0
IsNeededEach criterion states ts assumed steps end =
    (i : ℕ) → assumed ≤ i → i < length steps → IsContradicted criterion states ts assumed (remove steps i) end → ⊥

-- Nor can one that is assumed.
abbrev pub AssumesNeeded : Criterion → List State → List Txn → ℕ → List ReasonStep → Contradiction → Type 0
AssumesNeeded criterion states ts assumed steps end =
    (i : ℕ) → i < assumed → IsContradicted criterion states ts (pred assumed) (remove steps i) end → ⊥

-- A derivation of a contradiction: steps that come to it, none of which can be left out.
pub record IsDerivation (criterion : Criterion) (states : List State) (ts : List Txn) (derivation : Derivation) : Type 0 where
  pub is : IsContradicted criterion states ts derivation.assumed derivation.steps.items derivation.end
  pub needed : IsNeededEach criterion states ts derivation.assumed derivation.steps.items derivation.end
  pub assumes_needed : AssumesNeeded criterion states ts derivation.assumed derivation.steps.items derivation.end

-- So it is of what is judged.
abbrev pub IsContradictedIn : Asked → ℕ → Contradiction → List ReasonStep → Type 0
IsContradictedIn w assumed end steps = IsContradicted w.criterion w.states w.transactions assumed steps end

abbrev pub IsNeededEachIn : Asked → ℕ → Contradiction → List ReasonStep → Type 0
IsNeededEachIn w assumed end steps = IsNeededEach w.criterion w.states w.transactions assumed steps end

abbrev pub AssumesNeededIn : Asked → ℕ → Contradiction → List ReasonStep → Type 0
AssumesNeededIn w assumed end steps = AssumesNeeded w.criterion w.states w.transactions assumed steps end

abbrev pub IsDerivationIn : Asked → Derivation → Type 0
IsDerivationIn w = IsDerivation w.criterion w.states w.transactions

-- The derivation assumes nothing; or that this is a value's source, and nothing else.
abbrev pub assumes_none : Derivation → Bool
assumes_none derivation = derivation.assumed == 0

abbrev pub is_given_by : ValueSource → Option ReasonStep → Bool
is_given_by s None = false
is_given_by s (Some step) = gives s step

abbrev pub assumes : ValueSource → Derivation → Bool
assumes s derivation = (derivation.assumed == 1) && is_given_by s (slice_get derivation.steps.items 0)

-- All that the value may come from: the start, and transactions in their order.
abbrev pub start_of : List State → List Txn → ValueSource → List (Option ℕ)
start_of states ts s = if may_come_from states ts s None then None ∷ [] else []

abbrev pub writers_of : List State → List Txn → ValueSource → List ℕ
writers_of states ts s = filter (λ a. may_come_from states ts s (Some a)) (range_with_len 0 (length ts))

abbrev pub origins_of : List State → List Txn → ValueSource → List (Option ℕ)
origins_of states ts s = start_of states ts s ++ map (λ a. Some a) (writers_of states ts s)

-- Each derivation assumes that the value comes from one of these, in their order.
abbrev pub assume_each : ValueSource → List (Option ℕ) → List Derivation → Bool
assume_each s origins derivations = list_all (λ pair. assumes (from_else s pair.0) pair.1) (zip origins derivations)

-- Each order has the reader, which needs the value. This may come from several, and there is a derivation for each of them.
abbrev pub is_split : Criterion → List State → List Txn → List Derivation → ValueSource → Bool
is_split criterion states ts derivations s =
    nat_lt 1 (length derivations)
    && ((length derivations == length (origins_of states ts s))
    && (is_asked criterion ts [] s && assume_each s (origins_of states ts s) derivations))

-- The only derivation assumes nothing.
abbrev pub is_one : List Derivation → Bool
is_one (d ∷ []) = assumes_none d
is_one _ = false

-- Together the derivations refute each order: the only one assumes nothing, or they are the cases of where a value comes from.
abbrev pub RefuteEach : Criterion → List State → List Txn → List Derivation → Type 0
RefuteEach criterion states ts derivations =
    IsTrue (is_one derivations) ⊎ ((s : ValueSource) × IsTrue (is_split criterion states ts derivations s))

abbrev pub RefuteEachIn : Asked → List Derivation → Type 0
RefuteEachIn w = RefuteEach w.criterion w.states w.transactions

-- The states at these places, as far as there are some.
abbrev pub states_at : List State → List ℕ → List State
states_at states places = flat_map (λ place. option_to_list (slice_get states place)) places

-- A case of a reason: derivations that refute each order from those states for which it is said, of which there is one at least.
pub record IsCase (criterion : Criterion) (states : List State) (ts : List Txn) (case : ReasonCase) : Type 0 where
  pub some : 0 < length case.states.items
  pub are : All (IsDerivation criterion (states_at states case.states.items) ts) case.derivations.items
  pub refute : RefuteEach criterion (states_at states case.states.items) ts case.derivations.items

-- A case is said for the state at this place.
abbrev pub is_said_for : ℕ → List ReasonCase → Bool
is_said_for place cases = list_any (λ case. is_among place case.states.items) cases

-- The places of all the states for which a case is said.
abbrev pub said_places : List ReasonCase → List ℕ
said_places cases = flat_map (λ case. case.states.items) cases

-- No two of the places are the same.
abbrev pub are_apart : List ℕ → Bool
are_apart [] = true
are_apart (place ∷ places) = not (is_among place places) && are_apart places

-- They are so, and below this number.
pub record AreOnce (count : ℕ) (places : List ℕ) : Type 0 where
  pub apart : IsTrue (are_apart places)
  pub within : All (λ place. place < count) places

-- The cases are a reason: each is one, and just one is said for each state.
pub record IsReason (criterion : Criterion) (states : List State) (ts : List Txn) (cases : List ReasonCase) : Type 0 where
  pub are : All (IsCase criterion states ts) cases
  pub each : (place : ℕ) → place < length states → IsTrue (is_said_for place cases)
  pub once : AreOnce (length states) (said_places cases)

-- No two of the transactions begin at the same place of the history.
abbrev pub begin_apart : List Txn → Bool
begin_apart [] = true
begin_apart (t ∷ ts) = list_all (λ u. not (u.first == t.first)) ts && begin_apart ts

-- Where those that are assumed hold, the steps hold in each serial order of the transactions from one of the states, each of eight registers.
-- So if they contradict each other, there is none.
pub record StepsLaw (criterion : Criterion) (states : List State) (ts : List Txn) (assumed : ℕ) (steps : List ReasonStep) : Type 0 where
  pub hold : (s : State) (order : List Placed) → Contains states s → ExplainsBy criterion s ts order
      → All (HoldsIn ts order) (take assumed steps) → All (HoldsIn ts order) steps
  pub none : (end : Contradiction) → IsTrue (contradicts criterion states ts steps end) → (s : State) (order : List Placed)
      → Contains states s → ExplainsBy criterion s ts order → All (HoldsIn ts order) (take assumed steps) → ⊥

abbrev pub ReasonLaw : Type 0
ReasonLaw = (criterion : Criterion) (states : List State) (ts : List Txn) (assumed : ℕ) (steps : List ReasonStep) → IsTrue (begin_apart ts)
    → All (λ s. length s ≡ 8) states → Derives criterion states ts assumed steps → StepsLaw criterion states ts assumed steps

-- A reason of the events' transactions tells that they have no order from any of the states.
abbrev pub ReasonTells : Type 0
ReasonTells = (criterion : Criterion) (states : List State) (events : List Event) (cases : List ReasonCase)
    → All (λ s. length s ≡ 8) states → IsReason criterion states (transactions events) cases → HasOrderFrom criterion states events → ⊥
