-- How a call to judge, or to tell what was judged, is answered.
use Rattle.tmw_c.specs.Shared.{Closed, GivesHeadline, HeldWatch, Malformed, OpaqueSoFar, Open, Shared, StrictSoFar, TellsVerdict, Undecided, Verdict, Violated, Watch, judged_of, verdict_on, watch_front, watch_pump, watch_ring}
use Rattle.std.specs.Prelude.{◌≡◌, ℕ, Option, Some, None, length}
use Rattle.tmw_c.specs.declared.call_status.CallStatus.{CallStatus}
use Rattle.tmw_c.specs.declared.call_status.CallStatus.TheVariants.{Done, NoHandle, Closing}
use Rattle.tmw_c.specs.declared.c_verdict.CVerdict.{CVerdict}
use Rattle.tmw_defs.specs.declared.verdict.Why.TheVariants.{Transactions, States}
use Rattle.tmw_pump.specs.Pump.{IsPumped, reader_of}
use Rattle.tmw_pump.specs.declared.pumped.Pumped.{Pumped}

-- the number of a verdict; a watch judges by opacity alone, so that 4 is not told
abbrev pub verdict_number : Verdict → ℕ
verdict_number OpaqueSoFar = 0
verdict_number (Violated at) = 1
verdict_number (Undecided at why) = 2
verdict_number (Malformed at) = 3
verdict_number StrictSoFar = 4

-- the length of the prefix that a verdict names, and 0 where it names none
abbrev pub verdict_at : Verdict → ℕ
verdict_at OpaqueSoFar = 0
verdict_at (Violated at) = at
verdict_at (Undecided at why) = at
verdict_at (Malformed at) = at
verdict_at StrictSoFar = 0

-- the number of the bound that was passed, and 0 where none was
abbrev pub verdict_why : Verdict → ℕ
verdict_why (Undecided at Transactions) = 1
verdict_why (Undecided at States) = 2
verdict_why _ = 0

-- This verdict is told, on so many events.
pub record IsTold (events : ℕ) (verdict : Verdict) (told : CVerdict) : Type 0 where
  pub counted : told.events ≡ events
  pub number : told.verdict ≡ verdict_number verdict
  pub prefix : told.at ≡ verdict_at verdict
  pub bound : told.why ≡ verdict_why verdict

-- The watch is open no more.
abbrev pub IsNotOpen : HeldWatch → Type 0
IsNotOpen (Open watch) = ⊥
IsNotOpen (Shared watch writers) = Unit {0}
IsNotOpen Closed = Unit {0}

-- The ring is the same, and the headline holds of what is judged now.
pub record IsOn (old new : Watch) : Type 0 where
  pub ring : watch_ring new ≡ watch_ring old
  pub headline : GivesHeadline (watch_front old) (reader_of (watch_pump new)).taken (judged_of (watch_front new))
      (verdict_on (watch_front new))

-- So many events were judged of up to this many.
pub record WasPumped (most judged : ℕ) (old new : HeldWatch) : Type 0 where
  pub before : Watch
  pub after : Watch
  pub opened : old ≡ Open before
  pub stays : new ≡ Open after
  pub on : IsOn before after
  pub pumped : Pumped
  pub count : judged ≡ pumped.judged
  pub judging : IsPumped most pumped (watch_pump before) (watch_pump after)

-- the watch that a handle holds has judged so many events
pub record WasPumpedHeld (most judged : ℕ) (old new : Option HeldWatch) : Type 0 where
  pub before : HeldWatch
  pub after : HeldWatch
  pub held : old ≡ Some before
  pub holds : new ≡ Some after
  pub pumped : WasPumped most judged before after

-- The handle holds what is open no more.
pub record HoldsNotOpen (old : Option HeldWatch) : Type 0 where
  pub watch : HeldWatch
  pub held : old ≡ Some watch
  pub ended : IsNotOpen watch

-- Each status of a call to pump, with what the handle holds then, and what count the caller is told.
abbrev pub IsPumping : (most : ℕ) → (old new : Option HeldWatch) → (old_count new_count : ℕ) → CallStatus → Type 0
IsPumping most old new old_count new_count Done = WasPumpedHeld most new_count old new
IsPumping most old new old_count new_count NoHandle = (old ≡ None) × (new ≡ None) × (new_count ≡ old_count)
IsPumping most old new old_count new_count Closing = HoldsNotOpen old × (new ≡ old) × (new_count ≡ old_count)
IsPumping most old new old_count new_count _ = ⊥

-- What is told is the verdict on what an open watch has judged, of which the headline holds.
pub record WasReported (held : HeldWatch) (told : CVerdict) : Type 0 where
  pub watch : Watch
  pub opened : held ≡ Open watch
  pub verdict : Verdict
  pub is_told : IsTold (length (judged_of (watch_front watch))) verdict told
  pub tells : TellsVerdict (watch_front watch) verdict
  pub headline : GivesHeadline (watch_front watch) (reader_of (watch_pump watch)).taken (judged_of (watch_front watch)) verdict

-- what is told is of the watch that a handle holds
pub record WasShownHeld {T : Type 0} (WasShown : HeldWatch → T → Type 0) (old : Option HeldWatch) (told : T) : Type 0 where
  pub watch : HeldWatch
  pub held : old ≡ Some watch
  pub shown : WasShown watch told

-- Each status of a call that tells what is so of an open watch. It changes nothing that the handle holds.
abbrev pub IsShowing : {T : Type 0} → (HeldWatch → T → Type 0) → (old new : Option HeldWatch) → (old_told new_told : T) → CallStatus → Type 0
IsShowing WasShown old new old_told new_told Done = WasShownHeld WasShown old new_told × (new ≡ old)
IsShowing WasShown old new old_told new_told NoHandle = (old ≡ None) × (new ≡ None) × (new_told ≡ old_told)
IsShowing WasShown old new old_told new_told Closing = HoldsNotOpen old × (new ≡ old) × (new_told ≡ old_told)
IsShowing WasShown old new old_told new_told _ = ⊥

-- each status of a call to report
abbrev pub IsReporting : (old new : Option HeldWatch) → (old_told new_told : CVerdict) → CallStatus → Type 0
IsReporting old new old_told new_told status = IsShowing WasReported old new old_told new_told status
