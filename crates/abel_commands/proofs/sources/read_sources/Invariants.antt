use Rattle.std.proofs.Common.{◌≡◌, ◌≤◌, All, length, map, take}
use Rattle.abel_commands.proofs.Common.{SameFiles, bytes_at, limit, sources_seen, texts}
use Rattle.abel_commands.proofs.sources.read_sources.Given as goal

-- the sources so far are the bytes under the names so far, and no call failed
abbrev pub invariant-loop-name : goal.invariant-loop-name
invariant-loop-name g l =
    (g.F.Files.Tells → SameFiles (g.F.Files.file l.initial.files) (g.F.Files.file l.files))
    × (g.F.Files.Tells → sources_seen l.sources.items ≡ map (bytes_at (g.F.Files.file l.initial.files)) (texts (take l.name-index l.names)))
    × All (λ source. length source ≤ limit) (sources_seen l.sources.items)
    × (g.F.Files.faults l.files ≡ g.F.Files.faults l.initial.files)
    × (g.F.Files.write_faults l.files ≡ g.F.Files.write_faults l.initial.files)
