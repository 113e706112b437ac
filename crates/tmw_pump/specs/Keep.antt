-- What is kept of the judged front.
use Rattle.tmw_pump.specs.Shared.{Event, Fits, IsVerdict, Monitor, Rules, Verdict, verdict_of}
use Rattle.std.specs.Prelude.{◌++◌, ◌∷◌, [], List}
use Rattle.tmw_pump.specs.Front.{judged_of, monitor_of, verdict_on}
use Rattle.tmw_pump.specs.declared.front.Front.{Front}

-- Where there was room for this event, as the next of a monitor that had judged a history: what was kept of that history is now kept of it
-- with the event, by the verdict on both.
abbrev pub KeepsOne : {K N : Type 0} → (Rules → List Event → Verdict → K → Type 0) → (Monitor → N → K → Type 0) → N → Event → (old new : K)
    → Type 0
KeepsOne keeps awaits next event old new = (rules : Rules) (history : List Event) (before : Monitor) (verdict : Verdict)
    → awaits before next old → Fits rules history before → IsVerdict rules (history ++ event ∷ []) verdict
    → keeps rules history (verdict_of before) old → keeps rules (history ++ event ∷ []) verdict new

-- By these rules the monitor has judged the front, and this is kept of it.
pub record IsKept {K : Type 0} (keeps : Rules → List Event → Verdict → K → Type 0) (rules : Rules) (front : Front) (kept : K) : Type 0 where
  pub fits : Fits rules (judged_of front) (monitor_of front)
  pub keeps_it : keeps rules (judged_of front) (verdict_on front) kept

-- By some rules the monitor has judged the front, and this is kept of it.
abbrev pub WasKept : {K : Type 0} → (Rules → List Event → Verdict → K → Type 0) → Front → K → Type 0
WasKept keeps front kept = (rules : Rules) × IsKept keeps rules front kept

-- By whatever rules the one was kept of the old front, the other is kept of the new one.
abbrev pub StaysKept : {K : Type 0} → (Rules → List Event → Verdict → K → Type 0) → (old new : Front) → (before after : K) → Type 0
StaysKept keeps old new before after = (rules : Rules) → IsKept keeps rules old before → IsKept keeps rules new after
