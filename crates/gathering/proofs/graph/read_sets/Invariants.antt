use Rattle.std.proofs.Common.{◌≡◌, ℕ, ◌<◌, length}
use Rattle.gathering.proofs.Common.{reads_of, link_reads}
use Rattle.gathering.proofs.graph.read_sets.Given as goal

abbrev pub invariant-loop-link : goal.invariant-loop-link
invariant-loop-link l = record {
  count : length l.sets.items ≡ l.link-index;
  sets : (v w : ℕ) → v < l.link-index → w < length l.links → reads_of l.sets.items v w ≡ link_reads l.links v w;
}
