-- Bytes are a fuse file of a device, or are refused, and never both.
use Rattle.std.proofs.Common.{◌≡◌, ℕ, List, Ok, Err, sym, ◌∙◌, subst, arith}
use Rattle.abel_commands.proofs.Common.{none-some, FuseFile, file_of, Table, IsBadFile, IsGoodFile, TooLong, Unread, WrongMode}
use Rattle.pld_device.specs.FixedFuses.{HasFixedLevels}
use Rattle.pld_device.proofs.FixedLevels.{none_where_all}

module _ (t : Table) (bytes : List ℕ) where
  pub same_file : (f g : FuseFile) → file_of t bytes ≡ Ok f → file_of t bytes ≡ Ok g → f ≡ g
  same_file f g is also = let both : ◌≡◌ (Ok f) (Ok g) = sym is ∙ also in cc

  pub good_not_bad : IsGoodFile t bytes → IsBadFile t bytes → ⊥
  good_not_bad (file, good) (TooLong, long) = let within = good.within in omega (arith, within, long)
  good_not_bad (file, good) (Unread fault, unread) =
      let both : ◌≡◌ (Ok file) (Err fault) = sym good.read ∙ unread.read in absurd cc
  good_not_bad (file, good) (WrongMode fuse, wrong) =
      let same : file ≡ wrong.file = same_file file wrong.file good.read wrong.read in
      let mode : HasFixedLevels t wrong.file.fuses = subst (λ (f : FuseFile). HasFixedLevels t f.fuses) same good.mode in
      none-some fuse (sym (none_where_all wrong.file.fuses t.fixed mode) ∙ wrong.first)
