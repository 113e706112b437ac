-- How a bench stands after so many rounds were begun.
use Rattle.tmw_bench.specs.Shared.{AllOpaque, Answer, AreInOrder, Call, Fits, Front, HaveAllPlayedLast, Kind, OpaqueSoFar, ReaderIs, ReaderOf, Refused, RingIs, Rules, SomeStop, WriterIs, WriterOf, judged_of, monitor_of, verdict_on}
use Rattle.std.specs.Prelude.{◌≡◌, ◌≢◌, ◌+◌, ◌⊎◌, ℕ, List, Option, length, All}

-- After a round: the reader and the writers of one ring are back, and what was recorded are whole rounds, which ended at these
-- bounds, and one more, to its end or up to where threads were stopped. At each bound the verdict was opaque so far.
pub record IsAfter (rules : Rules) (gives : Call → Answer → Type 0) (ring : RingIs) (scripts : List (List (List Kind))) (bounds : List ℕ) (reader : ReaderIs) (front : Front) (writers : List WriterIs) (stops : List (Option Refused)) : Type 0 where
  pub reader_of : ReaderOf ring reader
  pub of_ring : All (WriterOf ring) writers
  pub order : AreInOrder writers
  pub stop_count : length stops ≡ length scripts
  pub played : HaveAllPlayedLast gives scripts bounds stops writers
  pub fits : Fits rules (judged_of front) (monitor_of front)
  pub opaque : AllOpaque rules bounds (judged_of front)

-- So many rounds were begun, all but the last of which are whole.
pub record HaveBegun (rules : Rules) (gives : Call → Answer → Type 0) (ring : RingIs) (scripts : List (List (List Kind))) (rounds : ℕ) (reader : ReaderIs) (front : Front) (writers : List WriterIs) (stops : List (Option Refused)) : Type 0 where
  pub bounds : List ℕ
  pub counted : rounds ≡ length bounds + 1
  pub after : IsAfter rules gives ring scripts bounds reader front writers stops

-- No further round may begin: a thread was stopped, or the verdict is not opaque so far.
abbrev pub IsOver : List (Option Refused) → Front → Type 0
IsOver stops front = SomeStop stops ⊎ (verdict_on front ≢ OpaqueSoFar)
