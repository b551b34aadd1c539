-- An operand, by what it begins with.
use Rattle.std.proofs.Common.{◌≡◌, ℕ, zero, suc, ◌-◌, ◌<◌, Bool, true, false, List, Option, None, Some, refl, sym, ap, ◌∙◌, arith, codes, option_map}
use Rattle.abel_macros.proofs.Common.{bytes_eq, Prefix, given, sign, gap, behind_sign, past_sign, prefix_of, past_prefix, begun, closed, primary, operand, prefixed}
use Rattle.abel_macros.specs.declared.operator.Prefix.TheVariants as prefix

pub sign_taken : (p : Prefix) (text at : List ℕ) → (p ≡ prefix.Plain → ⊥) → at ≡ behind_sign text → at ≡ past_prefix p text
sign_taken prefix.Plain text at f e = absurd (f refl)
sign_taken prefix.Not text at f e = e
sign_taken prefix.Minus text at f e = e
sign_taken prefix.Open text at f e = e

pub operand_plain : (most radix : ℕ) (values : List ℕ → Option ℕ) (text at : List ℕ) → prefix.Plain ≡ prefix_of (sign (gap text)) → at ≡ past_prefix prefix.Plain text
    → operand most radix values text ≡ primary radix values at
operand_plain zero radix values text at e f =
    sym (ap (primary radix values) f ∙ ap (λ (p : Prefix). begun p None (primary radix values) (past_prefix p text)) e)
operand_plain (suc most) radix values text at e f =
    sym (ap (primary radix values) f ∙ ap (λ (p : Prefix). begun p (Some (operand most radix values)) (primary radix values) (past_prefix p text)) e)

nested : (p : Prefix) (more radix : ℕ) (values : List ℕ → Option ℕ) (at : List ℕ) → (p ≡ prefix.Plain → ⊥) → begun p (Some (operand more radix values)) (primary radix values) at ≡ prefixed p more radix values at
nested prefix.Plain more radix values at f = absurd (f refl)
nested prefix.Not more radix values at f = refl
nested prefix.Minus more radix values at f = refl
nested prefix.Open more radix values at f = refl

pub operand_nested : (p : Prefix) (most radix : ℕ) (values : List ℕ → Option ℕ) (text at : List ℕ) → 0 < most → p ≡ prefix_of (sign (gap text)) → at ≡ past_prefix p text → (p ≡ prefix.Plain → ⊥)
    → operand most radix values text ≡ prefixed p (most - 1) radix values at
operand_nested p most radix values text at some e f ne =
    let m : most ≡ suc (most - 1) = omega arith in
    ap (λ (k : ℕ). operand k radix values text) m ∙ sym (ap (λ (q : Prefix). begun q (Some (operand (most - 1) radix values)) (primary radix values) (past_prefix q text)) e)
    ∙ sym (ap (begun p (Some (operand (most - 1) radix values)) (primary radix values)) f) ∙ nested p (most - 1) radix values at ne

-- ---- parentheses

paired : (b : Bool) (value : ℕ) (behind : List ℕ) (r : ℕ × List ℕ) → r ≡ (value, behind) → given b r ≡ option_map (λ w. (value, w)) (given b behind)
paired true value behind r e = ap (λ (x : ℕ × List ℕ). Some x) e
paired false value behind r e = refl

pub closed_by : (value : ℕ) (text : List ℕ) (o : Option (List ℕ)) → past_sign (codes ")") text ≡ o → closed value text ≡ option_map (λ w. (value, w)) o
closed_by value text o e = paired (bytes_eq (sign (gap text)) (codes ")")) value (behind_sign text) (value, behind_sign text) refl ∙ ap (option_map (λ (w : List ℕ). (value, w))) e
