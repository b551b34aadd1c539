-- Two devices are a pair in one pair of modes alone.
use Rattle.std.proofs.Common.{◌≡◌, Option, Some, None, refl, ap, ap₂, sym, ◌∙◌, subst, unwrap_or}
use Rattle.pld_base.specs.Models.{plain_model, registered_model}
use Rattle.pld_base.specs.declared.device_name.DeviceName.{DeviceName}
use Rattle.pld_base.specs.declared.device_name.DeviceName.TheVariants as name
use Rattle.pld_base.specs.declared.model.Model.{Model}
use Rattle.fuse_porting.specs.Pairs.{ArePair, Counterparts, Replaced, Replacing, counterpart_of, eight, four, replacing, six}
use Rattle.fuse_porting.specs.declared.pairs.Pair.{Pair}
use Rattle.fuse_porting.proofs.PairTables.{names_are_mutual}

-- neither has a counterpart nor replaces a PAL by being replaced
abbrev IsChip : DeviceName → Type 0
IsChip device = (counterpart_of device ≡ None) × (replacing device ≡ None)

chip_at : (model chip : Model) → Some model ≡ Some chip → IsChip model.name → IsChip chip.name
chip_at model chip is alone = subst (λ m. IsChip m.name) (ap (λ o. unwrap_or o model) is) alone

-- what replaces a PAL
is_chip : (pal : DeviceName) (chip : Model) → replacing pal ≡ Some chip → IsChip chip.name
is_chip name.P16L8 chip is = chip_at (plain_model name.GAL16V8) chip is (refl, refl)
is_chip name.P16R4 chip is = chip_at (registered_model name.GAL16V8 four) chip is (refl, refl)
is_chip name.P16R6 chip is = chip_at (registered_model name.GAL16V8 six) chip is (refl, refl)
is_chip name.P16R8 chip is = chip_at (registered_model name.GAL16V8 eight) chip is (refl, refl)
is_chip name.P20L8 chip is = chip_at (plain_model name.GAL20V8) chip is (refl, refl)
is_chip name.P20R4 chip is = chip_at (registered_model name.GAL20V8 four) chip is (refl, refl)
is_chip name.P20R6 chip is = chip_at (registered_model name.GAL20V8 six) chip is (refl, refl)
is_chip name.P20R8 chip is = chip_at (registered_model name.GAL20V8 eight) chip is (refl, refl)
is_chip pal chip is = absurd cc

not_both : {X : Type 0} (found : Option X) (x : X) → found ≡ None → found ≡ Some x → ⊥
not_both found x none some = absurd cc

-- a chip that replaces a PAL has no counterpart, and replaces nothing by being replaced itself
no_counterpart : (pal to : DeviceName) (chip : Model) → replacing pal ≡ Some chip → chip.name ≡ to → counterpart_of to ≡ Some pal → ⊥
no_counterpart pal to chip is named other =
    not_both (counterpart_of chip.name) pal (is_chip pal chip is).0 (subst (λ d. counterpart_of d ≡ Some pal) (sym named) other)

not_replaced : (pal to : DeviceName) (chip other : Model) → replacing pal ≡ Some chip → chip.name ≡ to → replacing to ≡ Some other → ⊥
not_replaced pal to chip other is named too =
    not_both (replacing chip.name) other (is_chip pal chip is).1 (subst (λ d. replacing d ≡ Some other) (sym named) too)

same_model : (x y : Model) (found : Option Model) → found ≡ Some x → found ≡ Some y → x ≡ y
same_model x y found is other = ap (λ o. unwrap_or o x) (sym is ∙ other)

same_pair : (pair other : Pair) → pair.from ≡ other.from → pair.to ≡ other.to → pair ≡ other
same_pair pair other first second = ap₂ (λ f t. pair_with f t) first second
  where
    pair_with : Model → Model → Pair
    pair_with f t = record { from = f; to = t }

pub only_pair : (from to : DeviceName) (pair other : Pair) → ArePair from to pair → ArePair from to other → pair ≡ other
only_pair from to pair other (Counterparts is first second) (Counterparts is2 first2 second2) =
    same_pair pair other (first ∙ sym first2) (second ∙ sym second2)
only_pair from to pair other (Counterparts is first second) (Replaced is2 named2 first2) =
    absurd (no_counterpart from to other.to is2 named2 (names_are_mutual from to is))
only_pair from to pair other (Counterparts is first second) (Replacing is2 named2 second2) =
    absurd (no_counterpart to from other.from is2 named2 is)
only_pair from to pair other (Replaced is named first) (Counterparts is2 first2 second2) =
    absurd (no_counterpart from to pair.to is named (names_are_mutual from to is2))
only_pair from to pair other (Replaced is named first) (Replaced is2 named2 first2) =
    same_pair pair other (first ∙ sym first2) (same_model pair.to other.to (replacing from) is is2)
only_pair from to pair other (Replaced is named first) (Replacing is2 named2 second2) =
    absurd (not_replaced from to pair.to other.from is named is2)
only_pair from to pair other (Replacing is named second) (Counterparts is2 first2 second2) =
    absurd (no_counterpart to from pair.from is named is2)
only_pair from to pair other (Replacing is named second) (Replaced is2 named2 first2) =
    absurd (not_replaced to from pair.from other.to is named is2)
only_pair from to pair other (Replacing is named second) (Replacing is2 named2 second2) =
    same_pair pair other (same_model pair.from other.from (replacing to) is is2) (second ∙ sym second2)
