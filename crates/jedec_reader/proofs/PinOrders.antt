-- The places of pins, step by step.
use Rattle.std.proofs.Common.{◌≡◌, ℕ, zero, suc, ◌+◌, ◌<◌, ◌≤◌, List, [], ◌∷◌, Option, Some, None, length, take, get_or, refl, ap, ◌∙◌, sym, arith, Bool, true, false, unwrap_or, All, ◌&&◌, ◌==◌}
use Rattle.jedec_reader.proofs.Common.{list_all, eqb-true, length-range_with_len, range_with_len, option_or, Field, is_among, is_each_pin, last_of, pin_order, order_of, Table, FieldFits}
use Rattle.jedec_file.specs.declared.field.Field.TheVariants as field
use Rattle.jedec_reader.proofs.LastOf.{last_of_more}

first_true : (a b : Bool) → (a && b) ≡ true → a ≡ true
first_true true b is = refl
first_true false b is = absurd cc

-- the first numbers of a run
pub take-range_with_len : (a n k : ℕ) → k ≤ n → take k (range_with_len a n) ≡ range_with_len a k
take-range_with_len a n zero high = refl
take-range_with_len a zero (suc k) high = absurd (omega arith)
take-range_with_len a (suc n) (suc k) high = ap (λ ks. a ∷ ks) (take-range_with_len (a + 1) n k (omega arith))

-- an order has as many entries as there are pins
pub order_length : (pins : ℕ) (order : List ℕ) → is_each_pin pins order ≡ true → length order ≡ pins
order_length pins order is = eqb-true (length order) pins (first_true (length order == pins) (list_all (is_among order) (range_with_len 1 pins)) is)

-- an order after all others is the order
pub order_put : (t : Table) (fs : List Field) (i : ℕ) (f : Field) (order : List ℕ) → i < length fs → f ≡ get_or fs i f → f ≡ field.PinOrder order
    → order_of t (take (i + 1) fs) ≡ order
order_put t fs i f order low here is =
    ap (λ o. unwrap_or o (range_with_len 1 t.pins)) (last_of_more pin_order fs i f low ∙ ap (λ g. option_or (pin_order g) (last_of pin_order (take i fs))) (sym here ∙ is))

-- another field leaves it
other_order : (f : Field) → ((order : List ℕ) → f ≡ field.PinOrder order → ⊥) → pin_order f ≡ None
other_order (field.FuseCount c) other = refl
other_order (field.PinCount c) other = refl
other_order (field.DefaultFuse b) other = refl
other_order (field.Levels first levels) other = refl
other_order (field.FuseSum s) other = refl
other_order (field.DefaultTest b) other = refl
other_order (field.PinOrder order) other = absurd (other order refl)
other_order (field.Vector number chars) other = refl
other_order field.Passed other = refl

pub order_other : (t : Table) (fs : List Field) (i : ℕ) (f : Field) → i < length fs → f ≡ get_or fs i f → ((order : List ℕ) → f ≡ field.PinOrder order → ⊥)
    → order_of t (take (i + 1) fs) ≡ order_of t (take i fs)
order_other t fs i f low here other =
    ap (λ o. unwrap_or o (range_with_len 1 t.pins)) (last_of_more pin_order fs i f low ∙ (ap (λ g. option_or (pin_order g) (last_of pin_order (take i fs))) (sym here) ∙ ap (λ o. option_or o (last_of pin_order (take i fs))) (other_order f other)))

-- so the order of fields that fit has as many
order_or : (t : Table) (f : Field) (before : Option (List ℕ)) → FieldFits t f → length (unwrap_or before (range_with_len 1 t.pins)) ≡ t.pins
    → length (unwrap_or (option_or before (pin_order f)) (range_with_len 1 t.pins)) ≡ t.pins
order_or t f (Some order) fits is = is
order_or t (field.FuseCount c) None fits is = is
order_or t (field.PinCount c) None fits is = is
order_or t (field.DefaultFuse b) None fits is = is
order_or t (field.Levels first levels) None fits is = is
order_or t (field.FuseSum s) None fits is = is
order_or t (field.DefaultTest b) None fits is = is
order_or t (field.PinOrder order) None fits is = order_length t.pins order fits
order_or t (field.Vector number chars) None fits is = is
order_or t field.Passed None fits is = is

pub order_of-length : (t : Table) (fs : List Field) → All (FieldFits t) fs → length (order_of t fs) ≡ t.pins
order_of-length t [] all = length-range_with_len 1 t.pins
order_of-length t (f ∷ fs) all =
    order_or t f (last_of pin_order fs) (all 0 f (omega arith)) (order_of-length t fs (λ k d low. all (suc k) d (omega arith)))
