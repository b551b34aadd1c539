-- If a device always inverts, no register of a decompiled source is declared `buffer`.
use Rattle.std.proofs.Common.{◌≡◌, ℕ, suc, Bool, true, false, not, Option, None, Some, List, [], ◌∷◌, ◌++◌, slice_get, refl, sym, ap, ◌∙◌}
use Rattle.decompiler.proofs.Common.{and_parts, Flip, Always, AfterRegister, BeforeRegister, pin_complements, is_inverted, Table, Place, Entry, Declaration, GivenName, all_said, all_buffered, always_inverts, buffered, has_registers, names_behind, PinLine, attributes_in, IsPinLine, ArePins, follows_by, pin_line, register_on}

complements_always : (flip : Flip) (inverted : Bool) → pin_complements flip true false ≡ true → pin_complements flip true inverted ≡ true
complements_always Always inverted is = refl
complements_always AfterRegister inverted is = absurd cc
complements_always BeforeRegister inverted is = refl

-- no pin is said to equal Q
pub pins_inverted : (t : Table) (fuses : List Bool) → always_inverts t ≡ true → (pin : ℕ) → (pin_line t fuses pin).follows ≡ Some true → ⊥
pins_inverted t fuses always pin = by_register (register_on t fuses pin)
  where
    complements : pin_complements t.flip true false ≡ true
    complements = (and_parts (has_registers t) (pin_complements t.flip true false) always).1

    by_register : (o : Option ℕ) → follows_by t fuses o ≡ Some true → ⊥
    by_register None e = cc
    by_register (Some c) e = absurd (false_true (ap (λ (b : Bool). Some (not b)) (sym (complements_always t.flip (is_inverted t fuses c) complements)) ∙ e))
      where
        false_true : Some false ≡ Some true → ⊥
        false_true e = cc

none_said : (follows : Option Bool) (p : Place) → (follows ≡ Some true → ⊥) → (all_said (attributes_in follows p)).buffer ≡ false
none_said None p other = refl
none_said (Some true) p other = absurd (other refl)
none_said (Some false) p other = refl

one_buffered : (l : PinLine) (d : Declaration) (es : List Entry) → IsPinLine l d → (l.follows ≡ Some true → ⊥) → buffered es d ≡ []
one_buffered l d es is other = ap (buffered es) is.is ∙ (rw (none_said l.follows is.attributes other) refl)

pub none_buffered : (ls : List PinLine) (ds before : List Declaration) → ArePins ls ds
    → ((i : ℕ) (a : PinLine) → slice_get ls i ≡ Some a → a.follows ≡ Some true → ⊥) → all_buffered before ds ≡ []
none_buffered [] ds before are other = ap (all_buffered before) are
none_buffered (l ∷ ls) ds before are other =
    ap (all_buffered before) are.4
    ∙ ap (λ (xs : List GivenName). xs ++ all_buffered (before ++ are.0 ∷ []) are.1) (one_buffered l are.0 (names_behind before) are.2 (other 0 l refl))
    ∙ none_buffered ls are.1 (before ++ are.0 ∷ []) are.3 (λ i a there. other (suc i) a there)
