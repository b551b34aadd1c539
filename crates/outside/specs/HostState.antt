-- What the contracts of the real files and standard output speak of: their counts, and a sink's writer.
use Rattle.std.specs.Prelude.{ℕ}
use Rattle.outside.specs.declared.real_files.HostFiles.{HostFiles}
use Rattle.outside.specs.declared.real_sink.HostSink.{HostSink}

-- the writer after a sink
abbrev pub writer_of : {W : Type 0} → HostSink W → W
writer_of s = s.out

-- how many of its pieces failed
abbrev pub put_faults : {W : Type 0} → HostSink W → ℕ
put_faults s = s.faults

-- how many reads and writes of the real files failed, and how many writes did
abbrev pub host_faults : {R File Dir : Type 0} → HostFiles R File Dir → ℕ
host_faults h = h.faults

abbrev pub host_write_faults : {R File Dir : Type 0} → HostFiles R File Dir → ℕ
host_write_faults h = h.write_faults
