-- The judged front, and how it grows.
use Rattle.tmw_pump.specs.Shared.{Event, Fits, IsVerdict, Monitor, Rules, Verdict, part_by, verdict_of}
use Rattle.std.specs.Prelude.{◌≡◌, ◌<◌, ◌++◌, ℕ, List, length}
use Rattle.tmw_pump.specs.declared.front.Front.{Front}

-- the events that were judged, in the order of the log
abbrev pub judged_of : Front → List Event
judged_of front = front.judged.items

-- the monitor that judges
abbrev pub monitor_of : Front → Monitor
monitor_of front = front.monitor

-- the monitor's verdict on what was judged
abbrev pub verdict_on : Front → Verdict
verdict_on front = verdict_of (monitor_of front)

-- the part of what was judged that the verdict covers
abbrev pub front_part : Front → List Event
front_part front = part_by (verdict_on front) (judged_of front)

-- By whatever rules the monitor had judged what was judged then, it has judged what is judged now.
abbrev pub KeepsFit : Front → Front → Type 0
KeepsFit old new = (rules : Rules) → Fits rules (judged_of old) (monitor_of old) → Fits rules (judged_of new) (monitor_of new)

-- So many events more were judged, after those before.
pub record HasJudged (count : ℕ) (old new : Front) : Type 0 where
  pub more : List Event
  pub counted : length more ≡ count
  pub judged : judged_of new ≡ judged_of old ++ more
  pub fits : KeepsFit old new

-- This is the verdict on the judged front: the monitor's, and by whatever rules the monitor has judged the front, that of the definition.
pub record TellsVerdict (front : Front) (verdict : Verdict) : Type 0 where
  pub shown : verdict ≡ verdict_on front
  pub fits : (rules : Rules) → Fits rules (judged_of front) (monitor_of front) → IsVerdict rules (judged_of front) verdict

-- A call has done what it does for so many events, fewer than it was to judge.
pub record WasRefusedMemory (max : ℕ) (HasDone : ℕ → Type 0) : Type 0 where
  pub count : ℕ
  pub fewer : count < max
  pub counted : HasDone count
