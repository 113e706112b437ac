-- How a call to tell what was shown is answered.
use Rattle.tmw_c.specs.Shared.{HeldWatch, Open, Watch, front_part, watch_front}
use Rattle.std.specs.Prelude.{◌≡◌, ℕ, Bool, true, false, Option}
use Rattle.tmw_c.specs.Judge.{IsShowing}
use Rattle.tmw_c.specs.declared.c_counts.CCounts.{CCounts}
use Rattle.tmw_c.specs.declared.call_status.CallStatus.{CallStatus}
use Rattle.tmw_counts.specs.Summary.{IsSummary}
use Rattle.tmw_counts.specs.declared.summary.Summary.{Summary}

-- 1 for yes and 0 for no
abbrev pub flag_of : Bool → ℕ
flag_of true = 1
flag_of false = 0

-- Each count of this summary is told, and whether no two transactions overlapped although there are two threads.
pub record IsCounted (summary : Summary) (told : CCounts) : Type 0 where
  pub aborted_are : told.aborted ≡ summary.counts.aborted
  pub committed_are : told.committed ≡ summary.counts.committed
  pub cuts_are : told.cuts ≡ summary.counts.cuts
  pub live_are : told.live ≡ summary.counts.live
  pub overlapping_are : told.overlapping ≡ summary.counts.overlapping
  pub transactions_are : told.transactions ≡ summary.counts.transactions
  pub unasked_are : told.unasked ≡ summary.counts.unasked
  pub widest_is : told.widest ≡ summary.counts.widest
  pub none_is : told.none_overlapped ≡ flag_of summary.none_overlapped

-- What is told is the summary of what an open watch has judged, of the part that its verdict covers.
pub record WasSummed (held : HeldWatch) (told : CCounts) : Type 0 where
  pub watch : Watch
  pub opened : held ≡ Open watch
  pub summary : Summary
  pub is_told : IsCounted summary told
  pub shown : IsSummary (front_part (watch_front watch)) summary

-- each status of a call to tell what was shown
abbrev pub IsSumming : (old new : Option HeldWatch) → (old_told new_told : CCounts) → CallStatus → Type 0
IsSumming old new old_told new_told status = IsShowing WasSummed old new old_told new_told status
