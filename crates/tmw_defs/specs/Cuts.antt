-- Cuts: at a length at which each transaction has ended, the past is summed up by the states in which it may have ended.
use Rattle.std.specs.Prelude.{◌↔◌, ◌++◌, ℕ, Bool, List, IsTrue}
use Rattle.std.specs.List.{list_all}
use Rattle.tmw_events.specs.declared.event.Event.{Event}
use Rattle.tmw_defs.specs.declared.criterion.Criterion.{Criterion}
use Rattle.tmw_defs.specs.Criteria.{IsFinalBy, EndsBy, outcomes_by}
use Rattle.tmw_defs.specs.History.{is_ended, transactions, is_well_formed}
use Rattle.tmw_defs.specs.Opaque.{State}

-- Each transaction of the history has committed or aborted, so that its length is a cut of whatever follows it. Length 0 is one.
abbrev pub is_cut : List Event → Bool
is_cut history = list_all (λ t. is_ended t.text) (transactions history)

-- Of a well-formed history with a cut after the part `past`: it is final-state opaque, or strict, exactly when `rest`, as a history
-- of its own, has an end state from the outcomes of `past`; and at a cut those end states are the history's outcomes.
pub record IsCutLaw (criterion : Criterion) (registers : ℕ) (start : State) (past rest : List Event) : Type 0 where
  pub final : IsFinalBy criterion registers start (past ++ rest)
      ↔ ((end : State) × EndsBy criterion (outcomes_by criterion start past) (transactions rest) end)
  pub ends : IsTrue (is_cut (past ++ rest)) → (end : State)
      → outcomes_by criterion start (past ++ rest) end ↔ EndsBy criterion (outcomes_by criterion start past) (transactions rest) end

abbrev pub CutLaw : Type 0
CutLaw = (criterion : Criterion) (registers : ℕ) (start : State) (past rest : List Event)
    → IsTrue (is_well_formed registers (past ++ rest)) → IsTrue (is_cut past) → IsCutLaw criterion registers start past rest
