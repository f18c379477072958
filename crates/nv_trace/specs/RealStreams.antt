-- Streams over a reader or a writer, which tell nothing of their bytes.
use Rattle.std.specs.Prelude.{ℕ, List, Option, None}
use Rattle.nv_trace.specs.declared.reader_source.ReaderSource.{ReaderSource}
use Rattle.nv_trace.specs.declared.writer_sink.WriterSink.{WriterSink}

-- what is not told
abbrev pub untold : {S : Type 0} → S → Option (List ℕ)
untold stream = None

abbrev pub reader_of : {R : Type 0} → ReaderSource R → R
reader_of source = source.reader

abbrev pub reader_faults : {R : Type 0} → ReaderSource R → ℕ
reader_faults source = source.faults

abbrev pub writer_of : {W : Type 0} → WriterSink W → W
writer_of sink = sink.writer

abbrev pub writer_faults : {W : Type 0} → WriterSink W → ℕ
writer_faults sink = sink.faults
