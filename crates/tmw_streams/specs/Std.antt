-- What a source over a std reader and a sink over a std writer hold.
use Rattle.std.specs.Prelude.{ℕ, Bool}
use Rattle.std.specs.declared.io.traits.Read.{Ghosts}
use Rattle.tmw_streams.specs.declared.std_sink.StdSink.{StdSink}
use Rattle.tmw_streams.specs.declared.std_source.StdSource.{StdSource}

-- what the source reads
abbrev pub reader_of : {R : Type 0} {G : Ghosts R} → StdSource R G → R
reader_of source = source.reader

-- how many bytes the source has told
abbrev pub told_count : {R : Type 0} {G : Ghosts R} → StdSource R G → ℕ
told_count source = source.told

-- how many of the source's reads failed, counted up to 2^64 - 1
abbrev pub failed_reads : {R : Type 0} {G : Ghosts R} → StdSource R G → ℕ
failed_reads source = source.failures

-- whether the source has answered its end
abbrev pub is_over : {R : Type 0} {G : Ghosts R} → StdSource R G → Bool
is_over source = source.over

-- what the sink writes to
abbrev pub writer_of : {W : Type 0} → StdSink W → W
writer_of sink = sink.writer

-- how many bytes the sink has taken, counted up to 2^64 - 1
abbrev pub taken_count : {W : Type 0} → StdSink W → ℕ
taken_count sink = sink.taken

-- how many of the sink's writes failed, counted up to 2^64 - 1
abbrev pub failed_writes : {W : Type 0} → StdSink W → ℕ
failed_writes sink = sink.failures
