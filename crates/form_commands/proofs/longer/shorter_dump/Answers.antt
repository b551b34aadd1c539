-- Without its last fuse the file is one of the GAL22V10, which fixes no level.
use Rattle.std.proofs.Common.{refl, subst, arith}
use Rattle.form_commands.specs.DumpLines.{SpareFuse}
use Rattle.form_commands.specs.Dumps.{IsRepairedTo}
use Rattle.form_commands.specs.Prelude.{FuseFile, atf22v10c, contents, gal22v10}
use Rattle.form_commands.proofs.longer.shorter_dump.Goals as goal

pub returns-in_ok-spare_fuse_line-in-None : goal.returns-in_ok-spare_fuse_line-in-None
returns-in_ok-spare_fuse_line-in-None c mends bytes read =
    let opened = rw c.in-None.is at c.in_ok-shorter.ensures in (
      SpareFuse,
      record { of = refl; findings = c.args.found.findings.items; file = contents atf22v10c c.args.found.file; read = read; opened = opened },
      c.in_ok-spare_fuse_line-in-None.ensures,
    )

pub returns-in-Some : goal.returns-in-Some
returns-in-Some c mends bytes read =
    let findings = c.args.found.findings.items in
    let shorter = rw c.in-Some.is at c.in_ok-shorter.ensures in
    record {
      says = (refl, (c.args.found.file.listed, subst (λ (file : FuseFile). IsRepairedTo gal22v10 atf22v10c mends findings bytes file) shorter read));
      mode = λ k d low. absurd (omega (arith, low));
    }
