-- What clauses see of a watch and of a recorder.
use Rattle.tmw_watch.specs.Shared.{PumpIs, RingIs, WriterIs, pump_front, pump_in}
use Rattle.std.specs.Prelude.{ℕ}
use Rattle.std.specs.Global.{Global}
use Rattle.std.specs.declared.sync.Arc.{Arc}
use Rattle.tmw_pump.specs.declared.front.Front.{Front}
use Rattle.tmw_watch.specs.declared.recorder.Recorder.{Recorder}
use Rattle.tmw_watch.specs.declared.watch.Watch.{Watch}

-- the ring that a watch owns together with its recorders
abbrev pub watch_ring : Watch → Arc RingIs Global
watch_ring watch = watch.ring

-- the pump by which a watch judges
abbrev pub watch_pump : Watch → PumpIs
watch_pump watch = pump_in watch.pump

-- the judged front of a watch
abbrev pub watch_front : Watch → Front
watch_front watch = pump_front (watch_pump watch)

-- how many recorders a watch has
abbrev pub recorder_count : Watch → ℕ
recorder_count watch = watch.recorders

-- the ring that a recorder owns together with its watch
abbrev pub recorder_ring : Recorder → Arc RingIs Global
recorder_ring recorder = recorder.ring

-- the writer by which a recorder records
abbrev pub writer_of : Recorder → WriterIs
writer_of recorder = recorder.writer
