-- What a sink that takes no memory holds.
use Rattle.std.specs.Prelude.{◌≡◌, ℕ, List, Some}
use Rattle.tmw_streams.specs.Streams.{ToSink}
use Rattle.tmw_streams.specs.declared.bounded_sink.BoundedSink.{BoundedSink}

-- the bytes that the sink holds
abbrev pub bounded_bytes : BoundedSink → List ℕ
bounded_bytes sink = sink.bytes.items

-- just the bytes that the sink holds are those that it has taken, as if it had taken no others
abbrev pub to_bounded : ToSink BoundedSink
to_bounded = record {
  took = λ sink bytes. bytes ≡ bounded_bytes sink;
  holds = λ sink. Some (bounded_bytes sink);
  failures = λ sink. sink.failures;
}
