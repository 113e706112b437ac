-- The headline: what the verdict on the judged front says, in the field's words, of one log of the ring.
use Rattle.tmw_pump.specs.Shared.{Event, Fits, HasMany, IsFirst, IsMalformed, IsTooMany, IsTooWide, Rules, Verdict, WriterIs}
use Rattle.std.specs.Prelude.{◌≡◌, ◌≤◌, ◌<◌, ◌↔◌, ◌++◌, ℕ, List, length, take, All, IsTrue}
use Rattle.tmw_defs.specs.History.{is_well_formed}
use Rattle.tmw_defs.specs.Opaque.{IsFinalOpaque, IsOpaque}
use Rattle.tmw_defs.specs.Windows.{HasWide}
use Rattle.tmw_defs.specs.declared.verdict.Verdict.TheVariants.{OpaqueSoFar, Violated, Undecided, Malformed}
use Rattle.tmw_defs.specs.declared.verdict.Why.TheVariants.{Transactions, States}
use Rattle.tmw_ring.specs.SeatPart.{made_from}
use Rattle.tmw_pump.specs.Front.{judged_of, monitor_of}
use Rattle.tmw_pump.specs.declared.front.Front.{Front}

-- One log: it begins with these events, and each of these writers has claimed the places of its own events there, and no other.
pub record IsLogOf (log : List Event) (writers : List WriterIs) (front : List Event) : Type 0 where
  pub rest : List Event
  pub begins : log ≡ front ++ rest
  pub pairs : All (λ writer. writer.made ≡ made_from writer.number.number 0 log) writers

-- Up to this length no window of the history has too many transactions, and at no cut has it too many outcomes.
abbrev pub IsWithinBounds : Rules → List Event → ℕ → Type 0
IsWithinBounds rules history upto =
    (k : ℕ) → k ≤ upto → (HasWide rules.window (take k history) → ⊥) × (HasMany rules (take k history) → ⊥)

-- The prefix of this length is well-formed and not final-state opaque, and each shorter prefix is.
pub record IsFirstViolation (rules : Rules) (history : List Event) (m : ℕ) : Type 0 where
  pub within : m ≤ length history
  pub formed : IsTrue (is_well_formed rules.registers (take m history))
  pub not_opaque : IsFinalOpaque rules.registers rules.start (take m history) → ⊥
  pub before : (k : ℕ) → k < m → IsFinalOpaque rules.registers rules.start (take k history)

-- The headline. The judged front begins the one log, and the verdict on it is: opaque so far exactly when each of its prefixes is
-- opaque, violated at m exactly when prefix m is the first that is not, both where no bound was passed up to there; undecided
-- exactly where a bound was passed first, and malformed where the first thing wrong is an ill-formed prefix.
pub record Headline (rules : Rules) (log : List Event) (writers : List WriterIs) (judged : List Event) (verdict : Verdict) : Type 0 where
  pub one_log : IsLogOf log writers judged
  pub opaque : (verdict ≡ OpaqueSoFar) ↔ (IsOpaque rules.registers rules.start judged × IsWithinBounds rules judged (length judged))
  pub violated : (m : ℕ) → (verdict ≡ Violated m) ↔ (IsFirstViolation rules judged m × IsWithinBounds rules judged m)
  pub wide : (m : ℕ) → (verdict ≡ Undecided m Transactions) ↔ IsFirst IsTooWide rules judged m
  pub many : (m : ℕ) → (verdict ≡ Undecided m States) ↔ IsFirst IsTooMany rules judged m
  pub malformed : (m : ℕ) → (verdict ≡ Malformed m) ↔ IsFirst IsMalformed rules judged m

-- By whatever rules the monitor had judged before, and of every list that begins with what was taken and has these writers' items,
-- as the log has that a meeting or the end of the ring shows, the headline holds of what is judged now.
abbrev pub GivesHeadline : Front → List Event → List Event → Verdict → Type 0
GivesHeadline old taken judged verdict = (rules : Rules) (log : List Event) (writers : List WriterIs)
    → Fits rules (judged_of old) (monitor_of old) → IsLogOf log writers taken → Headline rules log writers judged verdict
