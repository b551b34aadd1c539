-- What is walked of the sections that are left completes a walk over all; there are no more blocks than sections so far.
use Rattle.std.proofs.Common.{◌≤◌, drop}
use Rattle.source_sections.proofs.Common.{WalksSections, view_sections}
use Rattle.source_sections.proofs.SectionsWalked.{AreLeft}
use Rattle.source_sections.proofs.walking.walk_sections.Given as goal

abbrev pub invariant-loop-section : goal.invariant-loop-section
invariant-loop-section g l = record {
  left : AreLeft g.D.Device.table l.scope l.dontcare l.block (view_sections (drop l.section-index l.sections)) l.out
      (λ new. WalksSections g.D.Device.table l.scope l.starts_dontcare (view_sections l.sections) l.fn.out new);
  few : l.block ≤ l.section-index;
}
