-- A file that says what another one says, with more vectors after its own.
use Rattle.std.proofs.Common.{◌≡◌, ℕ, ◌-◌, ◌≤◌, List, [], ◌++◌, length, ap, sym, ◌∙◌, subst, arith}
use Rattle.vector_report.proofs.Common.{append-nil, length-map, map-append, FuseFile, all_chars, chars_of, contents, Vector, Table, IsFileOf, SaysWith, IsWithMore, with_more}
use Rattle.jedec_reader.specs.declared.fuse_file.FuseFile as kept

module _ (t : Table) (most : ℕ) (input : List ℕ) where
  -- that of a file's own vectors is the file
  pub unchanged : (file : FuseFile) → IsFileOf t input file → IsWithMore t most input input
  unchanged file of = record {
    file = file;
    of = of;
    more = [];
    few = omega arith;
    says = subst (λ (vectors : List (List ℕ)). IsFileOf t input (record { fuses = file.fuses; listed = file.listed; vectors = vectors; default_level = file.default_level })) (sym (append-nil file.vectors)) of;
  }

  module _ (file out : kept.FuseFile) (more : List Vector) (says : SaysWith out file (file.vectors ++ more)) where
    says_more : contents t out ≡ with_more (contents t file) (all_chars t more)
    says_more = rw (says.fuses, says.listed, says.level, says.list)
        (ap (λ (vectors : List (List ℕ)). record { fuses = file.fuses; listed = file.listed; vectors = vectors; default_level = file.default_level }) (map-append (chars_of t) file.vectors more))

    pub with_more_vectors : (bytes : List ℕ) → length more ≤ most - length file.vectors → IsFileOf t input (contents t file) → IsFileOf t bytes (contents t out) → IsWithMore t most input bytes
    with_more_vectors bytes few of out_of = record {
      file = contents t file;
      of = of;
      more = all_chars t more;
      few = omega (arith, few, length-map more (chars_of t), length-map file.vectors (chars_of t));
      says = subst (IsFileOf t bytes) says_more out_of;
    }
