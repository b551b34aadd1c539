-- One member more, and the set of all.
use Rattle.std.proofs.Common.{◌≡◌, ℕ, ◌+◌, ◌≤◌, min, nat_lt, Bool, true, false, if◌then◌else◌, List, [], ◌∷◌, ◌++◌, Option, Some, None, refl, sym, ap, ap₂, ◌∙◌, arith, append_assoc, append-nil}
use Rattle.set_expr.proofs.Common.{Place, earlier, first_refusal, Value, SectionFault, HasShapeIf, AreValued, Found, members_refused, members_specials, members_width, members_value, large_member, width_with, too_wide, value_or_none, section_order}
use Rattle.std.specs.Bool.{then_some}
use Rattle.std.proofs.lemmas.Bool.{ltb-false}
use Rattle.std.proofs.lemmas.Bool.Decides.{nat_tests}
use Rattle.abel_meaning.specs.Numbers as number
use Rattle.set_expr.specs.declared.fault.SectionFault.TheVariants.{BadWidth}
use Rattle.set_expr.specs.declared.shaped.Shape.TheVariants as shape
use Rattle.set_expr.proofs.SummedUp.{first_both, left_empty, right_empty}

specials_more : (fs : List Found) (f : Found) → members_specials (fs ++ f ∷ []) ≡ members_specials fs ++ f.specials
specials_more [] f = append-nil f.specials
specials_more (x ∷ fs) f = ap (λ xs. x.specials ++ xs) (specials_more fs f) ∙ sym (append_assoc x.specials (members_specials fs) f.specials)

refused_more : (p : Place) (fs : List Found) (f : Found) → members_refused p (fs ++ f ∷ []) ≡ members_refused p fs ++ (f.refusals ++ large_member p f.value)
refused_more p [] f = append-nil (f.refusals ++ large_member p f.value)
refused_more p (x ∷ fs) f =
    ap (λ xs. (x.refusals ++ large_member p x.value) ++ xs) (refused_more p fs f)
    ∙ sym (append_assoc (x.refusals ++ large_member p x.value) (members_refused p fs) (f.refusals ++ large_member p f.value))

width_more : (fs : List Found) (f : Found) → members_width (fs ++ f ∷ []) ≡ members_width fs + width_with f.value
width_more [] f = omega arith
width_more (x ∷ fs) f = omega (arith, width_more fs f)

pub valued_more : (fs : List Found) (f : Found) → AreValued fs → (f.refusals ≡ [] → f.value ≡ None → ⊥) → AreValued (fs ++ f ∷ [])
valued_more [] f v h = (h, tt)
valued_more (x ∷ fs) f v h = (v.0, valued_more fs f v.1 h)

pub special_step : (a b : Option SectionFault) (fs : List Found) (f : Found) → a ≡ first_refusal section_order (members_specials fs) → b ≡ first_refusal section_order f.specials → earlier section_order a b ≡ first_refusal section_order (members_specials (fs ++ f ∷ []))
special_step a b fs f e g = first_both a b (members_specials fs) f.specials e g ∙ sym (ap (first_refusal section_order) (specials_more fs f))

pub fault_step : (p : Place) (a b d : Option SectionFault) (fs : List Found) (f : Found) → a ≡ first_refusal section_order (members_refused p fs) → b ≡ first_refusal section_order f.refusals → d ≡ first_refusal section_order (large_member p f.value) → earlier section_order a (earlier section_order b d) ≡ first_refusal section_order (members_refused p (fs ++ f ∷ []))
fault_step p a b d fs f e g h =
    first_both a _ (members_refused p fs) _ e (first_both b d f.refusals (large_member p f.value) g h)
    ∙ sym (ap (first_refusal section_order) (refused_more p fs f))

pub width_step : (v w : ℕ) (fs : List Found) (f : Found) → v ≡ min (members_width fs) 255 → w ≡ width_with f.value → min (v + w) 255 ≡ min (members_width (fs ++ f ∷ [])) 255
width_step v w fs f e g = omega (arith, width_more fs f)

-- ---- the whole set

wide_test : (n : ℕ) → nat_lt 32 (min n 255) ≡ nat_lt 32 n
wide_test n = grind (arith, nat_tests)

one_refused : (b : Bool) (r : SectionFault) → then_some b r ≡ first_refusal section_order (if b then r ∷ [] else [])
one_refused true r = refl
one_refused false r = refl

-- a width that stops at 255 is too wide just as the whole one
pub all_refused : (p : Place) (a b : Option SectionFault) (w : ℕ) (fs : List Found) → a ≡ first_refusal section_order (members_refused p fs) → b ≡ then_some (nat_lt 32 w) (BadWidth p) → w ≡ min (members_width fs) 255 → earlier section_order a b ≡ first_refusal section_order (members_refused p fs ++ too_wide p (members_width fs))
all_refused p a b w fs e f g =
    first_both a b (members_refused p fs) (too_wide p (members_width fs)) e
    (f ∙ (ap (λ k. then_some k (BadWidth p)) (ap (nat_lt 32) g ∙ wide_test (members_width fs)) ∙ one_refused (nat_lt 32 (members_width fs)) (BadWidth p)))

not_wide : (p : Place) (b : Bool) → (if b then BadWidth p ∷ [] else []) ≡ [] → b ≡ false
not_wide p true e = absurd cc
not_wide p false e = refl

member_width_of : (v : Option Value) → (v ≡ None → ⊥) → width_with v ≡ number.member_width (value_or_none v).shape
member_width_of None h = absurd (h refl)
member_width_of (Some v) h = refl

-- the value of a set has the width of its members
value_shape : (p : Place) (fs : List Found) → AreValued fs → members_refused p fs ≡ [] → (members_value fs).shape ≡ number.Set (members_width fs)
value_shape p [] v e = refl
value_shape p (f ∷ fs) v e =
    let here = left_empty (f.refusals ++ large_member p f.value) (members_refused p fs) e in
    let rest = value_shape p fs v.1 (right_empty (f.refusals ++ large_member p f.value) (members_refused p fs) e) in
    ap₂ (λ m s. number.Set (m + number.width_of s)) (sym (member_width_of f.value (v.0 (left_empty f.refusals (large_member p f.value) here)))) rest

-- a set that isn't refused has at most 32 positions, and its shape
pub set_shape : (p : Place) (w : ℕ) (fs : List Found) → AreValued fs → w ≡ min (members_width fs) 255 → members_refused p fs ++ too_wide p (members_width fs) ≡ [] → HasShapeIf (Some (shape.Set w)) (Some (members_value fs))
set_shape p w fs v g e =
    let small : members_width fs ≤ 32 = ltb-false 32 (members_width fs) (not_wide p (nat_lt 32 (members_width fs)) (right_empty (members_refused p fs) (too_wide p (members_width fs)) e)) in
    value_shape p fs v (left_empty (members_refused p fs) (too_wide p (members_width fs)) e) ∙ ap number.Set (omega (arith, g, small))
