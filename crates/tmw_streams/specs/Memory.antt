-- What sources and sinks over memory hold.
use Rattle.std.specs.Prelude.{◌≡◌, ℕ, ◌+◌, ◌-◌, ◌<◌, vec_capacity, Bool, IsTrue, Option, List, Some, length, take, drop, min, max}
use Rattle.tmw_streams.specs.Streams.{FromSource, ToSink}
use Rattle.tmw_streams.specs.declared.memory_sink.MemorySink.{MemorySink}
use Rattle.tmw_streams.specs.declared.memory_source.MemorySource.{MemorySource}
use Rattle.tmw_streams.specs.Transfers.{one_more}

-- all the bytes that the source has to tell
abbrev pub source_bytes : MemorySource → List ℕ
source_bytes source = source.content.now

-- the bytes that the source has told
abbrev pub told_bytes : MemorySource → List ℕ
told_bytes source = take source.at source.content.now

-- of a source over memory the bytes that it has told are known, and so are those that it has still to tell
abbrev pub from_memory : FromSource MemorySource
from_memory = record {
  told = λ source bytes. bytes ≡ told_bytes source;
  remaining = λ source. Some (drop source.at (source_bytes source));
  ended = λ source. IsTrue source.over;
  left = λ source. length (source_bytes source) - source.at;
  failures = λ source. source.failures;
}

-- the bytes that the sink has taken
abbrev pub held_bytes : MemorySink → List ℕ
held_bytes sink = sink.bytes.items

-- just the bytes that a sink over memory holds are those that it has taken
abbrev pub to_memory : ToSink MemorySink
to_memory = record {
  took = λ sink bytes. bytes ≡ held_bytes sink;
  holds = λ sink. Some (held_bytes sink);
  failures = λ sink. sink.failures;
}

-- how many bytes a call of the source tells at the most, where 0 counts as 1
abbrev pub source_most : MemorySource → ℕ
source_most source = source.most

-- the call at which the source was to fail
abbrev pub source_fails_at : MemorySource → Option ℕ
source_fails_at source = source.fails_at

-- how many calls of the source were counted
abbrev pub source_calls : MemorySource → ℕ
source_calls source = source.calls

-- whether the source has answered its end
abbrev pub source_over : MemorySource → Bool
source_over source = source.over

-- how many bytes a call of the sink takes at the most, where 0 counts as 1
abbrev pub sink_most : MemorySink → ℕ
sink_most sink = sink.most

-- the call at which the sink was to fail
abbrev pub sink_fails_at : MemorySink → Option ℕ
sink_fails_at sink = sink.fails_at

-- how many calls of the sink were counted
abbrev pub sink_calls : MemorySink → ℕ
sink_calls sink = sink.calls

-- for how many bytes the sink has room
abbrev pub sink_room : MemorySink → ℕ
sink_room sink = vec_capacity sink.bytes

-- The source's next call, counted from 1, is the one at which it was to fail.
abbrev pub SourceFails : MemorySource → Type 0
SourceFails source = source_fails_at source ≡ Some (one_more (source_calls source))

-- The sink's next call, counted from 1, is the one at which it was to fail.
abbrev pub SinkFails : MemorySink → Type 0
SinkFails sink = sink_fails_at sink ≡ Some (one_more (sink_calls sink))

-- So many bytes more are over the room that the sink has.
abbrev pub SinkLacksRoom : MemorySink → ℕ → Type 0
SinkLacksRoom sink count = sink_room sink < length (held_bytes sink) + count

-- One call more of the source was counted, and its limits are as they were.
pub record SourceCalled (old new : MemorySource) : Type 0 where
  pub counted : source_calls new ≡ one_more (source_calls old)
  pub most : source_most new ≡ source_most old
  pub fails_at : source_fails_at new ≡ source_fails_at old

-- A call of the source, with room for `room` bytes, has told `count`.
pub record SourceGives (old new : MemorySource) (room count : ℕ) : Type 0 where
  -- It was not to fail.
  pub goes_on : SourceFails old → ⊥
  -- As many as there are, as fit, and as one call may tell.
  pub is : count ≡ min (min (from_memory.left old) room) (max (source_most old) 1)
  -- It has answered the end only if there was room and none came.
  pub over : IsTrue (source_over new) → (0 < room) × (count ≡ 0)

-- One call more of the sink was counted, and its limits are as they were.
pub record SinkCalled (old new : MemorySink) : Type 0 where
  pub counted : sink_calls new ≡ one_more (sink_calls old)
  pub most : sink_most new ≡ sink_most old
  pub fails_at : sink_fails_at new ≡ sink_fails_at old
