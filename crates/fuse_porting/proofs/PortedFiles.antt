-- A spliced file with fuses that are carried over is the port of the first file.
use Rattle.std.proofs.Common.{◌≡◌, ℕ, Bool, List, length, Ok, refl, ap, subst, arith}
use Rattle.std.proofs.lemmas.List.{drop_all}
use Rattle.std.specs.List.{list_any}
use Rattle.jedec_file.specs.ControlLines.{IsIntactPastLines, lines_end}
use Rattle.jedec_file.specs.Frame.{Framed}
use Rattle.jedec_file.specs.FuseFile.{FuseFile}
unfoldable use Rattle.jedec_file.specs.FuseFile.{file_of}
use Rattle.jedec_file.specs.Refusals.{Read, Refuses, ◌>>=◌}
use Rattle.jedec_file.specs.declared.jedec_fault.JedecFault.{JedecFault}
use Rattle.jedec_file.specs.declared.jedec_fault.JedecFault.TheVariants.{OutOfMemory}
use Rattle.pld_device.specs.Macrocells.{device_logic}
use Rattle.pld_device.specs.Table.{Table}
use Rattle.spliced_files.specs.Spliced.{spliced, spliced_text, with_fuses}
use Rattle.spliced_files.proofs.SplicedFile.{steps_of}
use Rattle.fuse_porting.specs.AllowSame.{AllowSame}
use Rattle.fuse_porting.specs.PortedFile.{IsPortedFile}
use Rattle.fuse_porting.specs.SameArray.{IsCarriedOver}
use Rattle.fuse_porting.proofs.Mismatches.{same_mismatches}

-- no fuse is past those that a file names
pub all_named : (t : Table) (fuses : List Bool) → lines_end t ≡ t.fuses → length fuses ≡ t.fuses → IsIntactPastLines t fuses
all_named t fuses named long = ap (list_any (λ fuse. fuse)) (drop_all (lines_end t) fuses (omega (arith, named, long)))

pub port_is : (f t : Table) (bytes : List ℕ) (file : FuseFile) (fuses : List Bool) (out : List ℕ) → IsCarriedOver f t file.fuses fuses
    → AllowSame (device_logic f file.fuses) (device_logic t fuses) → file_of t out ≡ Ok (with_fuses t fuses file) → spliced f t fuses bytes ≡ Ok out
    → IsPortedFile f t bytes file out
port_is f t bytes file fuses out carried same read written = record {
  other = with_fuses t fuses file;
  read = read;
  port = record {
    carried = carried;
    same = same;
    mismatches = same_mismatches (device_logic f file.fuses) (device_logic t fuses) same;
    listed = refl;
    vectors = refl;
    default_level = refl;
  };
  written = written;
}

-- what gives a value is refused for lack of memory alone
given : {A : Type 0} (e : JedecFault) (x : A) → Refuses e (Ok x) → e ≡ OutOfMemory
given OutOfMemory x is = refl
given _ x is = absurd cc

-- so are bytes that are a fuse file, if fuses are put in place of theirs
pub never_refused : (f t : Table) (fuses : List Bool) (bytes : List ℕ) (file : FuseFile) (e : JedecFault) → file_of f bytes ≡ Ok file → Refuses e (spliced f t fuses bytes) → e ≡ OutOfMemory
never_refused f t fuses bytes file e is refused =
    let steps = steps_of f bytes file is in
    given e (spliced_text f t fuses steps.framed.text) (subst (λ (read : Read Framed). Refuses e (read >>= λ framed. Ok (spliced_text f t fuses framed.text))) steps.frame refused)
