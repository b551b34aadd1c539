use Rattle.std.proofs.Common.{◌≡◌, false, All}
use Rattle.fuse_forms.specs.Repairs.{AreRepaired, IsHarmless}
use Rattle.fuse_forms.proofs.repairs.repaired.Given as goal

-- the text so far is what the findings so far make of the bytes
abbrev pub invariant-loop-turn : goal.invariant-loop-turn
invariant-loop-turn g l = record {
  are : AreRepaired l.findings.items l.bytes l.text.items;
  harmless : l.mends ≡ false → All IsHarmless l.findings.items;
}
