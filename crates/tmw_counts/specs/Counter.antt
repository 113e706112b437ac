-- Which history a counter stands for, and how one event more changes it.
use Rattle.std.specs.Prelude.{◌≡◌, ◌==◌, ◌&&◌, ◌+◌, ◌-◌, ◌^◌, ℕ, Bool, true, false, not, List, Option, Some, length, take, count_by, min, max, if◌then◌else◌}
use Rattle.tmw_events.specs.declared.event.Event.{Event}
use Rattle.tmw_counts.specs.Threads.{HasThreads}
use Rattle.tmw_counts.specs.declared.counter.Counter.{Counter}
use Rattle.tmw_defs.specs.Counts.{HasCounts, overlaps_any}
use Rattle.tmw_defs.specs.declared.counts.Counts.{Counts}
use Rattle.tmw_defs.specs.History.{is_ended, transactions}
use Rattle.tmw_defs.specs.LastCut.{IsLastCut}
use Rattle.tmw_wellformed.specs.declared.note.End.{End}
use Rattle.tmw_wellformed.specs.declared.note.End.TheVariants.{Commit, Abort}
use Rattle.tmw_wellformed.specs.declared.note.Note.{Note}
use Rattle.tmw_wellformed.specs.Tracker.{Tracks}

abbrev pub one_if : Bool → ℕ
one_if b = if b then 1 else 0

-- The counter has the counts of this history, of a run with so many registers, and the number of transactions at its last cut. It
-- knows whether a live transaction overlaps none, and whether the history is of two threads.
pub record CountsSo (registers : ℕ) (history : List Event) (counter : Counter) : Type 0 where
  pub tracks : Tracks registers history counter.tracker
  pub counts : HasCounts history counter.counts
  pub cut : ℕ
  pub last : IsLastCut history cut
  pub before : counter.before ≡ length (transactions (take cut history))
  pub apart : one_if counter.apart
      ≡ count_by (λ t. not (is_ended t.text) && not (overlaps_any (transactions history) t)) (transactions history)
  pub threads : HasThreads history counter.threads

abbrev pub commits : Option End → Bool
commits (Some Commit) = true
commits _ = false

abbrev pub aborts : Option End → Bool
aborts (Some Abort) = true
aborts _ = false

-- what a number of 64 bits holds of this one
abbrev pub held : ℕ → ℕ
held n = min n (2 ^ 64 - 1)

-- how many transactions overlap another from this event on
abbrev pub meets : Bool → Bool → Bool → ℕ
meets begins others apart = if begins && others then 1 + one_if apart else 0

-- The counts with an event more: one that is such to its transaction, where others were live or not, and an abort was asked for or
-- not, and after which so many are live.
pub record AreCounted (note : Note) (others asked : Bool) (live : ℕ) (old : Counter) (counts : Counts) : Type 0 where
  pub aborted : counts.aborted ≡ held (old.counts.aborted + one_if (aborts note.ends))
  pub committed : counts.committed ≡ held (old.counts.committed + one_if (commits note.ends))
  pub cuts : counts.cuts ≡ (if live == 0 then held (old.counts.cuts + 1) else old.counts.cuts)
  pub live_now : counts.live ≡ live
  pub overlapping : counts.overlapping ≡ held (old.counts.overlapping + meets note.begins others old.apart)
  pub all : counts.transactions ≡ held (old.counts.transactions + one_if note.begins)
  pub unasked : counts.unasked ≡ held (old.counts.unasked + one_if (aborts note.ends && not asked))
  pub widest : counts.widest ≡ (if note.begins then max old.counts.widest (counts.transactions - old.before) else old.counts.widest)

-- What that event makes of the counter.
pub record IsStep (note : Note) (others asked : Bool) (live : ℕ) (old new : Counter) : Type 0 where
  pub tracker : new.tracker ≡ old.tracker
  pub threads : new.threads ≡ old.threads
  pub counts : AreCounted note others asked live old new.counts
  pub before : new.before ≡ (if live == 0 then new.counts.transactions else old.before)
  pub apart : new.apart ≡ (if note.begins then not others else (old.apart && not (live == 0)))
