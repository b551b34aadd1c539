-- A read answers `Failed` exactly if its call is on the list or the name is absent.
use Rattle.std.proofs.Common.{◌≡◌, inl, inr, ap, subst, sym}
use Rattle.std.specs.Prelude.{None}
use Rattle.std.proofs.lemmas.Bool.{iff_false}
use Rattle.outside.specs.Memory.{bytes_in}
use Rattle.outside.proofs.memory_files.MemoryFilesFiles.read.Goals as goal

pub returns-clause-failed_exactly : goal.returns-clause-failed_exactly
returns-clause-failed_exactly c =
    let same : c.fails_now.new.self.files ≡ c.args.self.now.files = ap (λ m. m.files) c.fails_now.ensures.counted in (
      λ h. inr (subst (λ m. bytes_in m c.args.name.now ≡ None) same (c.read_now.ensures.absent.0 h)),
      λ e. elim e [
        | inl on_list ↦ absurd (iff_false c.fails_now.ensures.fails c.if-fails_now.false on_list)
        | inr absent ↦ c.read_now.ensures.absent.1 (subst (λ m. bytes_in m c.args.name.now ≡ None) (sym same) absent)
      ],
    )
