-- The headline of a bench: threads carry scripts out on a memory, round after round, all of it is recorded in one ring, and judged.
use Rattle.tmw_bench.specs.Shared.{Answer, AreInOrder, Call, IsVerdict, Kind, Malformed, OpaqueSoFar, Refused, Registers, RingIs, Rules, Settings, WriterIs, WriterOf, rules_of, script_at, zeros}
use Rattle.tmw_runs.specs.AnswersStand.{AllStand}
use Rattle.tmw_ring_defs.specs.declared.ring_step.Answered.{Answered}
use Rattle.tmw_workers.specs.declared.ending.Ending.TheVariants.{Done, Left, Stopped}
use Rattle.tmw_workers.specs.declared.ending.Ending.{Ending}
use Rattle.tmw_events.specs.declared.event.Event.{Event}
use Rattle.tmw_runs.specs.Runs.{IsWholeRun}
use Rattle.std.specs.Prelude.{◌≡◌, ◌≢◌, ◌<◌, ◌≤◌, ◌+◌, ◌++◌, ◌⊎◌, ℕ, zero, suc, true, List, [], length, get_or, All}
use Rattle.tmw_bench.specs.declared.bench_result.BenchResult.{BenchResult}
use Rattle.tmw_workers.specs.declared.fault.BenchFault.{BenchFault}
use Rattle.tmw_bench.specs.declared.hunt_result.HuntResult.{HuntResult}
use Rattle.tmw_counts.specs.CountedPart.{part_by}
use Rattle.tmw_counts.specs.Summary.{IsSummary}
use Rattle.tmw_defs.specs.ThreadTransactions.{kinds_of}
use Rattle.tmw_defs.specs.declared.verdict.Verdict.{Verdict}
use Rattle.tmw_pump.specs.Headline.{Headline}
use Rattle.tmw_ring_defs.specs.Runs.{Gone, IsRunTo, writer_actor}
use Rattle.tmw_ring_defs.specs.RingSize.{HasNumbers, HasRoom, HasLimit, IsWrongSize}
use Rattle.tmw_window.specs.ShownWindow.{IsShowing}
use Rattle.tmw_workers.specs.Work.{tail_of, StopsBefore}
use Rattle.tmw_workers.specs.declared.fault.BenchFault.TheVariants.{Registers as TooManyRegisters, Ring, Memory, Spawn}

-- A round to its end: each thread has recorded a whole run of its script, and each answer there is one that the memory gives.
pub record IsWholeRound (gives : Call → Answer → Type 0) (scripts : List (List (List Kind))) (round : List Event) : Type 0 where
  pub runs : (thread : ℕ) → thread < length scripts → IsWholeRun (script_at scripts thread) (kinds_of thread round)
  pub stands : (thread : ℕ) → AllStand gives true (kinds_of thread round)

-- So many rounds to their ends, one after another. After each of them the verdict was opaque so far.
abbrev pub AreWholeRounds : Rules → (Call → Answer → Type 0) → List (List (List Kind)) → ℕ → List Event → Type 0
AreWholeRounds rules gives scripts zero log = log ≡ []
AreWholeRounds rules gives scripts (suc count) log =
    (before : List Event) × (round : List Event) × (log ≡ before ++ round) × AreWholeRounds rules gives scripts count before
    × IsWholeRound gives scripts round × IsVerdict rules log OpaqueSoFar

-- A thread is done when its run of the script is whole. Else it was stopped before the run's next event, and the refusal has found
-- no fewer places claimed than the round began at, and no more than the log has events. No thread is left.
abbrev pub EndsRound : List (List Kind) → List Kind → (start places : ℕ) → Ending → WriterIs → Type 0
EndsRound script kinds start places Done writer = IsWholeRun script kinds
EndsRound script kinds start places Left writer = ⊥
EndsRound script kinds start places (Stopped refused) writer =
    StopsBefore script kinds refused writer × (start ≤ tail_of refused) × (tail_of refused ≤ places)

-- The log is so many rounds to their ends, and a last one, to its end or up to where threads were stopped.
pub record IsInRounds (rules : Rules) (gives : Call → Answer → Type 0) (scripts : List (List (List Kind))) (earlier : ℕ) (log : List Event) (ends : List Ending) (writers : List WriterIs) : Type 0 where
  pub before : List Event
  pub round : List Event
  pub parts : log ≡ before ++ round
  pub whole : AreWholeRounds rules gives scripts earlier before
  pub stands : (thread : ℕ) → AllStand gives true (kinds_of thread round)
  pub ended : (thread : ℕ) (fallback : Ending) (writer : WriterIs) → thread < length scripts
      → EndsRound (script_at scripts thread) (kinds_of thread round) (length before) (length log) (get_or ends thread fallback)
      (get_or writers thread writer)

-- Some thread was stopped.
pub record SomeStopped (ends : List Ending) : Type 0 where
  pub thread : ℕ
  pub low : thread < length ends
  pub refused : Refused
  pub stopped : (fallback : Ending) → get_or ends thread fallback ≡ Stopped refused

-- The log is the one log of a ring with a writer for each script, to which one run of the ring's machine leads, and the verdict is
-- the one on all of it, of which the headline tells, and never malformed. The log is one round after another, the last of them to its end or up to
-- where threads were stopped. No round is left out but behind one after which the verdict is not opaque so far, or in which a
-- thread was stopped.
pub record HasBenched (gives : Call → Answer → Type 0) (registers : Registers) (scripts : List (List (List Kind))) (settings : Settings) (log : List Event) (verdict : Verdict) (ends : List Ending) (begun : ℕ) : Type 0 where
  pub ring : RingIs
  pub sized : HasNumbers settings.cells (length scripts) settings.limit ring.size
  pub writers : List WriterIs
  pub of_ring : All (WriterOf ring) writers
  pub order : AreInOrder writers
  pub count : length writers ≡ length scripts
  pub end_count : length ends ≡ length scripts
  pub judged : IsVerdict (rules_of registers zeros settings.bounds) log verdict
  pub headline : Headline (rules_of registers zeros settings.bounds) log writers log verdict
  pub formed : (events : ℕ) → verdict ≢ Malformed events
  pub run : List Answered
  pub run_to : IsRunTo ring.size run log
  pub gone : All (λ writer. Gone (writer_actor writer.number) writer.run [] run) writers
  pub own : All (λ event. event.thread.number < length scripts) log
  pub earlier : ℕ
  pub rounds : begun ≡ earlier + 1
  pub within : begun ≤ settings.rounds
  pub in_rounds : IsInRounds (rules_of registers zeros settings.bounds) gives scripts earlier log
      ends writers
  pub over : begun < settings.rounds → (verdict ≢ OpaqueSoFar) ⊎ SomeStopped ends

-- The log is kept whole, and the summary is that of the part of it that its verdict covers.
pub record IsBenched (gives : Call → Answer → Type 0) (registers : Registers) (scripts : List (List (List Kind))) (settings : Settings) (benched : BenchResult) : Type 0 where
  pub carried : HasBenched gives registers scripts settings benched.outcome.log.items benched.outcome.verdict benched.outcome.ends.items
      benched.rounds
  pub summary : IsSummary (part_by benched.outcome.verdict benched.outcome.log.items) benched.summary

-- There is a log of which that holds. Its length, its verdict, its summary and its last window are told.
pub record IsHunted (gives : Call → Answer → Type 0) (registers : Registers) (scripts : List (List (List Kind))) (settings : Settings) (hunted : HuntResult) : Type 0 where
  pub log : List Event
  pub benched : HasBenched gives registers scripts settings log hunted.showing.verdict hunted.ends.items hunted.rounds
  pub shown : IsShowing (rules_of registers zeros settings.bounds) log hunted.showing
  pub summary : IsSummary (part_by hunted.showing.verdict log) hunted.summary

-- The memory has no fewer registers than the workload, and a ring may have the settings' numbers of cells and of places, and a
-- writer for each of so many threads.
pub record CanBench (has registers threads : ℕ) (settings : Settings) : Type 0 where
  pub enough : registers ≤ has
  pub room : HasRoom settings.cells threads
  pub limit : HasLimit threads settings.limit

-- Nothing was judged to its end: the workload has more registers than the memory; or it has no more, but there is no ring of this
-- size; or there can be one, and it may be that memory or a thread was refused.
abbrev pub IsNoBench : (has registers threads : ℕ) → Settings → BenchFault → Type 0
IsNoBench has registers threads settings TooManyRegisters = has < registers
IsNoBench has registers threads settings (Ring fault) =
    (registers ≤ has) × IsWrongSize settings.cells threads settings.limit fault
IsNoBench has registers threads settings Memory = CanBench has registers threads settings
IsNoBench has registers threads settings Spawn = CanBench has registers threads settings
