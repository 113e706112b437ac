-- What the plain check answers: it tells of the shortest prefix that is at fault, and which fault that is.
use Rattle.std.specs.Prelude.{◌≡◌, ◌<◌, ◌≤◌, ℕ, Bool, true, false, List, length, take, Result, Ok, Err, IsTrue, IsFalse}
use Rattle.tmw_events.specs.declared.event.Event.{Event}
use Rattle.tmw_defs.specs.declared.criterion.Criterion.{Criterion}
use Rattle.tmw_defs.specs.declared.criterion.Criterion.TheVariants as by
use Rattle.tmw_defs.specs.Criteria.{ExplainsBy, IsFinalBy}
use Rattle.tmw_defs.specs.History.{Txn, transactions, is_well_formed}
use Rattle.tmw_defs.specs.Opaque.{State, Placed}
use Rattle.tmw_plain_check.specs.declared.whole_verdict.Whole.{Whole}
use Rattle.tmw_plain_check.specs.declared.whole_verdict.Whole.TheVariants.{Opaque, Strict, Violated}
use Rattle.tmw_plain_check.specs.declared.whole_verdict.WholeFault.{WholeFault}
use Rattle.tmw_plain_check.specs.declared.whole_verdict.WholeFault.TheVariants.{IllFormed, Ninth, Memory}

-- Nothing is at fault: the history is final-state opaque, or final-state strict where that is the criterion, and has at most eight
-- transactions.
pub record IsFaultless (criterion : Criterion) (registers : ℕ) (start : State) (history : List Event) : Type 0 where
  pub few : length (transactions history) ≤ 8
  pub final : IsFinalBy criterion registers start history

-- The three faults. Each tells that none of those before it is there.
pub record IsIllFormed (criterion : Criterion) (registers : ℕ) (start : State) (history : List Event) : Type 0 where
  pub ill_formed : IsFalse (is_well_formed registers history)

pub record HasNinth (criterion : Criterion) (registers : ℕ) (start : State) (history : List Event) : Type 0 where
  pub formed : IsTrue (is_well_formed registers history)
  pub ninth : 8 < length (transactions history)

pub record IsNotFinal (criterion : Criterion) (registers : ℕ) (start : State) (history : List Event) : Type 0 where
  pub formed : IsTrue (is_well_formed registers history)
  pub few : length (transactions history) ≤ 8
  pub not_final : IsFinalBy criterion registers start history → ⊥

-- The prefix of length m has this fault, and no shorter prefix has any.
pub record IsFirstAtFault (Fault : Criterion → ℕ → State → List Event → Type 0) (criterion : Criterion) (registers : ℕ) (start : State)
    (history : List Event) (m : ℕ) : Type 0 where
  pub within : m ≤ length history
  pub here : Fault criterion registers start (take m history)
  pub before : (k : ℕ) → k < m → IsFaultless criterion registers start (take k history)

-- No prefix has any.
abbrev pub AreFaultless : Criterion → ℕ → State → List Event → Type 0
AreFaultless criterion registers start history = (k : ℕ) → k ≤ length history → IsFaultless criterion registers start (take k history)

-- What a result tells of a history by a criterion. Where memory was refused it tells nothing.
abbrev pub JudgesBy : Criterion → ℕ → State → List Event → Result Whole WholeFault → Type 0
JudgesBy criterion registers start history (Ok Opaque) = (criterion ≡ by.Opacity) × AreFaultless criterion registers start history
JudgesBy criterion registers start history (Ok Strict) = (criterion ≡ by.Strict) × AreFaultless criterion registers start history
JudgesBy criterion registers start history (Ok (Violated m)) = IsFirstAtFault IsNotFinal criterion registers start history m
JudgesBy criterion registers start history (Err (IllFormed m)) = IsFirstAtFault IsIllFormed criterion registers start history m
JudgesBy criterion registers start history (Err (Ninth m)) = IsFirstAtFault HasNinth criterion registers start history m
JudgesBy criterion registers start history (Err Memory) = Unit {0}

-- What a result tells of a history by opacity.
abbrev pub Judges : ℕ → State → List Event → Result Whole WholeFault → Type 0
Judges = JudgesBy by.Opacity

abbrev pub HasOrderBy : Criterion → State → List Txn → Type 0
HasOrderBy criterion s ts = (order : List Placed) × ExplainsBy criterion s ts order

-- What the result tells of this history alone, with no word of its prefixes, and whether or not it is well-formed.
abbrev pub Weighs : Criterion → State → List Event → Result Bool WholeFault → Type 0
Weighs criterion start history (Ok true) = (length (transactions history) ≤ 8) × HasOrderBy criterion start (transactions history)
Weighs criterion start history (Ok false) = (length (transactions history) ≤ 8) × (HasOrderBy criterion start (transactions history) → ⊥)
Weighs criterion start history (Err (IllFormed m)) = ⊥
Weighs criterion start history (Err (Ninth m)) = (m ≡ length history) × (8 < length (transactions history))
Weighs criterion start history (Err Memory) = Unit {0}
