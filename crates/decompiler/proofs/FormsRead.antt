-- In the form that the fuses say, the rows of a cell have what its line assigns.
use Rattle.std.proofs.Common.{◌≡◌, Bool, true, false, not, ◌||◌, refl, ap, ◌∙◌}
use Rattle.decompiler.proofs.Common.{same_level, Flip, Always, AfterRegister, BeforeRegister, complement_if, pin_complements, CellWanted, may_be_inverted_as, names_or, or_is_complement, rows_are_positive}

-- the form of a cell whose fuse says inverted, or doesn't; a device that always complements has no such fuse
abbrev pub form_said : Flip → (inverted : Bool) → Bool
form_said Always inverted = true
form_said AfterRegister inverted = inverted
form_said BeforeRegister inverted = inverted

form_complements : (flip : Flip) (stored inverted : Bool) → or_is_complement flip stored (form_said flip inverted) ≡ or_is_complement flip stored inverted
form_complements Always true inverted = refl
form_complements Always false inverted = refl
form_complements AfterRegister stored inverted = refl
form_complements BeforeRegister stored inverted = refl

-- a cell that is asked to be what it is with this fuse; what is asked of it is of its rows' OR
pub record IsAskedAs (flip : Flip) (stored inverted : Bool) (w : CellWanted) : Type 0 where
  pub registered : w.registered ≡ stored
  pub buffer : stored ≡ true → w.buffer ≡ not (pin_complements flip true inverted)
  pub negated : w.negated ≡ false
  pub raw : w.raw ≡ stored
  pub complement : w.function.complement ≡ or_is_complement flip stored inverted

module _ (w : CellWanted) where
  names_or_is : (flip : Flip) (stored inverted : Bool) → w.raw ≡ stored → w.registered ≡ stored → w.negated ≡ false
      → names_or flip w inverted ≡ or_is_complement flip stored inverted
  names_or_is flip true inverted raw registered negated = rw (raw, registered) refl
  names_or_is flip false inverted raw registered negated = rw (raw, registered, negated) refl

  pub positive : (flip : Flip) (stored inverted : Bool) → IsAskedAs flip stored inverted w → rows_are_positive flip w (form_said flip inverted) ≡ true
  positive flip stored inverted asked =
      ap (λ (b : Bool). not (complement_if w.function.complement b)) (names_or_is flip stored (form_said flip inverted) asked.raw asked.registered asked.negated)
      ∙ ap (λ (b : Bool). not (complement_if w.function.complement b)) (form_complements flip stored inverted)
      ∙ ap (λ (b : Bool). not (complement_if b (or_is_complement flip stored inverted))) asked.complement
      ∙ itself (or_is_complement flip stored inverted)
    where
      itself : (b : Bool) → not (complement_if b b) ≡ true
      itself true = refl
      itself false = refl

  pub may_be : (flip : Flip) (stored inverted : Bool) → IsAskedAs flip stored inverted w → may_be_inverted_as flip w (form_said flip inverted) ≡ true
  may_be Always stored inverted asked = refl
  may_be BeforeRegister stored inverted asked = refl
  may_be AfterRegister stored inverted asked = by_kind stored refl
    where
      follows : (b free : Bool) → (free || same_level b (not (not b))) ≡ true
      follows true true = refl
      follows true false = refl
      follows false true = refl
      follows false false = refl

      by_kind : (b : Bool) → stored ≡ b → (not w.registered || (w.free || same_level inverted (not w.buffer))) ≡ true
      by_kind false e = ap (λ (r : Bool). not r || (w.free || same_level inverted (not w.buffer))) (asked.registered ∙ e)
      by_kind true e =
          ap (λ (r : Bool). not r || (w.free || same_level inverted (not w.buffer))) (asked.registered ∙ e)
          ∙ ap (λ (x : Bool). w.free || same_level inverted (not x)) (asked.buffer e)
          ∙ follows inverted w.free
