-- Two loaded devices can be searched, and what is found is what comparing answers.
use Rattle.std.proofs.Common.{◌≡◌, ℕ, Bool, List, length, Option, None, IfSome, refl, sym, subst}
use Rattle.fuse_compare.proofs.Common.{bits, IsOrdered, IsDetermined, IsDevice, device_logic, Table, own_pins, device_lookups, FindsDifference, RunsAlike, AreKnown, HoldsRegisters, IsPlainState, AreOnce, AreChosen, Suffices, Varies, Difference, Variable}
use Rattle.fuse_compare.specs.Searching.{CanSearch, IsCut}
use Rattle.fuse_compare.specs.declared.cut.Cut.{Cut}
use Rattle.fuse_compare.proofs.Answering.{if_some}
use Rattle.fuse_compare.proofs.DeviceSuffices.{sufficing}
use Rattle.fuse_compare.proofs.Plain.{plain_state}
use Rattle.fuse_compare.proofs.RunsAlike.{runs_too}

module _ (t : Table) (laws : IsDevice t) (a b : List Bool) where
  module _ (given vars : List Variable) (same : given ≡ vars) (fixed : List Bool) where
    module _ (first second : List ℕ) (first_ordered : IsOrdered (device_lookups t a first)) (second_ordered : IsOrdered (device_lookups t b second))
        (chosen : AreChosen t a b vars fixed) where
      pub enough : Suffices (device_lookups t a first) (device_lookups t b second) given fixed
      enough = sufficing t laws a b first second first_ordered second_ordered given fixed (subst (λ vs. AreChosen t a b vs fixed) (sym same) chosen)

      pub can_search : AreOnce vars → (cut : Cut) → IsCut (device_lookups t a first) (device_lookups t b second) cut
          → CanSearch (device_lookups t a first) (device_lookups t b second) given cut
      can_search once cut is_cut = record {
        shape = enough.shape;
        first = enough.first;
        second = enough.second;
        are = enough.are;
        once = subst AreOnce (sym same) once;
        is_cut = is_cut;
      }

    pub plain_found : AreKnown t a b vars → HoldsRegisters t a b (length t.cells) fixed → (found : Option Difference)
        → IfSome found (λ d. Varies given (bits 32 0) fixed (bits 32 d.outside) (bits 32 d.stored)) → IfSome found (IsPlainState t a b)
    plain_found known registers found varies =
        if_some found (λ d. Varies given (bits 32 0) fixed (bits 32 d.outside) (bits 32 d.stored)) (IsPlainState t a b)
        (λ d is. plain_state t laws a b vars fixed known registers d (subst (λ vs. Varies vs (bits 32 0) fixed (bits 32 d.outside) (bits 32 d.stored)) same is)) varies

  pub runs_found : (found : Option Difference) → FindsDifference (device_logic t a) (device_logic t b) found → IsDetermined (device_logic t b) → found ≡ None
      → RunsAlike (device_logic t a) (device_logic t b)
  runs_found found finds determined none =
      runs_too (device_logic t a) (device_logic t b) refl (own_pins t laws).clock (λ n low. refl) (λ n low. refl) determined.rests
      (subst (FindsDifference (device_logic t a) (device_logic t b)) none finds)
