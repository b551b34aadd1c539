-- Nothing is refused of sums over signals, and each is a number or one bit.
use Rattle.std.proofs.Common.{◌≡◌, false, Option, Some, List, [], ◌++◌, refl, ap, ◌∙◌}
use Rattle.decompiler.proofs.Common.{Place, Tree, Shape, Number, Single, Set, Value, meeting, binary_value, plain_value, unary_value, SectionFault, NameFound, found_of, found_value, name_found, one_position, Found, found_both, found_under, operands_refused, specials_refused, unequal, unless_refused, value_of_both, value_or_none, PinLiteral, name_text}
use Rattle.abel_tree.specs.declared.words.Unary.TheVariants as unary
use Rattle.abel_tree.specs.declared.words.Binary.{Binary}
use Rattle.abel_tree.specs.declared.words.Binary.TheVariants as binary
use Rattle.section_targets.specs.ValueWidths.{value_refused, value_width, wrong_width}
use Rattle.decompiler.proofs.EachTree.{HoldsBySteps}
use Rattle.decompiler.proofs.PlainNames.{IsSignalFound, use_found}

-- no set
abbrev pub IsNarrow : Shape → Type 0
IsNarrow Number = Unit {0}
IsNarrow Single = Unit {0}
IsNarrow (Set w) = ⊥

pub narrow_met : (s r : Shape) → IsNarrow s → IsNarrow r → IsNarrow (meeting s r)
narrow_met Number r ns nr = nr
narrow_met Single Number ns nr = tt
narrow_met Single Single ns nr = tt
narrow_met Single (Set w) ns nr = absurd nr
narrow_met (Set w) r ns nr = absurd ns

-- nothing is refused, and the value is no set
pub record IsFoundBit (f : Found) : Type 0 where
  pub refusals : f.refusals ≡ []
  pub specials : f.specials ≡ []
  pub value : Value
  pub is : f.value ≡ Some value
  pub narrow : IsNarrow value.shape

abbrev plain_found : Value → Found
plain_found v = record { refusals = []; specials = []; value = Some v }

plain_bit : (f : Found) (v : Value) → f ≡ plain_found v → IsNarrow v.shape → IsFoundBit f
plain_bit f v e narrow = record {
  refusals = ap (λ (g : Found). g.refusals) e;
  specials = ap (λ (g : Found). g.specials) e;
  value = v;
  is = ap (λ (g : Found). g.value) e;
  narrow = narrow;
}

under_bit : (f : Found) → IsFoundBit f → IsFoundBit (found_under unary.Not f)
under_bit f b =
    plain_bit (found_under unary.Not f) (unary_value unary.Not b.value)
    (
    ap (λ (rs : List SectionFault). unless_refused (rs ++ f.specials) [] (unary_value unary.Not (value_or_none f.value))) b.refusals
    ∙ ap (λ (rs : List SectionFault). unless_refused rs [] (unary_value unary.Not (value_or_none f.value))) b.specials
    ∙ ap (λ (v : Option Value). plain_found (unary_value unary.Not (value_or_none v))) b.is
    )
    b.narrow

narrow_equal : (p : Place) (s r : Shape) → IsNarrow s → IsNarrow r → unequal p s r ≡ []
narrow_equal p Number r ns nr = refl
narrow_equal p Single r ns nr = refl
narrow_equal p (Set w) r ns nr = absurd ns

-- an operator on bits, which refuses only sets of unequal width
module _ (sign : Binary) (p : Place) (f g : Found) (a : IsFoundBit f) (b : IsFoundBit g)
    (refuses : operands_refused sign p (Some a.value) (Some b.value) ≡ []) (plain : specials_refused false f.specials g.specials ≡ [])
    (narrow : IsNarrow (value_of_both sign (Some a.value) (Some b.value)).shape) where
  abbrev all : (specials : List SectionFault) → List SectionFault
  all specials = (f.refusals ++ g.refusals) ++ (specials ++ operands_refused sign p f.value g.value)

  both_is : unless_refused (all (specials_refused false f.specials g.specials)) [] (value_of_both sign f.value g.value)
      ≡ plain_found (value_of_both sign (Some a.value) (Some b.value))
  both_is =
      ap (λ (rs : List SectionFault). unless_refused (all rs) [] (value_of_both sign f.value g.value)) plain
      ∙ ap (λ (rs : List SectionFault). unless_refused ((rs ++ g.refusals) ++ operands_refused sign p f.value g.value) [] (value_of_both sign f.value g.value)) a.refusals
      ∙ ap (λ (rs : List SectionFault). unless_refused (rs ++ operands_refused sign p f.value g.value) [] (value_of_both sign f.value g.value)) b.refusals
      ∙ ap (λ (v : Option Value). unless_refused (operands_refused sign p v g.value) [] (value_of_both sign v g.value)) a.is
      ∙ ap (λ (v : Option Value). unless_refused (operands_refused sign p (Some a.value) v) [] (value_of_both sign (Some a.value) v)) b.is
      ∙ ap (λ (rs : List SectionFault). unless_refused rs [] (value_of_both sign (Some a.value) (Some b.value))) refuses

no_specials : (f g : Found) → IsFoundBit f → IsFoundBit g → specials_refused false f.specials g.specials ≡ []
no_specials f g a b = ap (λ (rs : List SectionFault). rs ++ g.specials) a.specials ∙ b.specials

and_bit : (p : Place) (f g : Found) → IsFoundBit f → IsFoundBit g → IsFoundBit (found_both binary.And p f g)
and_bit p f g a b =
    let narrow = narrow_met a.value.shape b.value.shape a.narrow b.narrow in
    plain_bit (found_both binary.And p f g) (binary_value binary.And a.value b.value)
    (both_is binary.And p f g a b (narrow_equal p a.value.shape b.value.shape a.narrow b.narrow) (no_specials f g a b) narrow) narrow

or_bit : (p : Place) (f g : Found) → IsFoundBit f → IsFoundBit g → IsFoundBit (found_both binary.Or p f g)
or_bit p f g a b =
    let narrow = narrow_met a.value.shape b.value.shape a.narrow b.narrow in
    plain_bit (found_both binary.Or p f g) (binary_value binary.Or a.value b.value)
    (both_is binary.Or p f g a b (narrow_equal p a.value.shape b.value.shape a.narrow b.narrow) (no_specials f g a b) narrow) narrow

module _ (ns : List NameFound) where
  abbrev pub IsFoundPin : PinLiteral → Type 0
  IsFoundPin l = IsSignalFound (name_found ns (name_text l.pin))

  abbrev pub IsFoundTree : Tree → Type 0
  IsFoundTree tree = IsFoundBit (found_of ns tree)

  pub found_steps : HoldsBySteps IsFoundPin IsFoundTree
  found_steps = record {
    number = λ n p low. plain_bit (found_value (plain_value n)) (plain_value n) refl tt;
    name = λ l p known. plain_bit _ (one_position false) (use_found p (name_found ns (name_text l.pin)) known) tt;
    complement = λ p tree here. under_bit (found_of ns tree) here;
    both = λ p left right here there. and_bit p (found_of ns left) (found_of ns right) here there;
    either = λ p left right here there. or_bit p (found_of ns left) (found_of ns right) here there;
  }

-- such a value meets one signal
pub value_passes : (p : Place) (f : Found) → IsFoundBit f → value_refused p 1 f ≡ []
value_passes p f b =
    ap (λ (rs : List SectionFault). rs ++ (f.specials ++ value_width p 1 f.value)) b.refusals
    ∙ ap (λ (rs : List SectionFault). rs ++ value_width p 1 f.value) b.specials
    ∙ ap (value_width p 1) b.is
    ∙ any_width b.value.shape b.narrow
  where
    any_width : (s : Shape) → IsNarrow s → wrong_width p 1 s ≡ []
    any_width Number narrow = refl
    any_width Single narrow = refl
    any_width (Set w) narrow = absurd narrow
