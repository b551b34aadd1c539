-- Operators of one priority, one after another.
use Rattle.std.proofs.Common.{◌≡◌, ℕ, suc, ◌-◌, ◌<◌, List, Option, None, Some, refl, sym, ap, ◌∙◌, arith}
use Rattle.abel_macros.proofs.Common.{Operator, Priority, ◌>>=◌, sign, gap, behind_sign, Read, applied, operator_of, chain_on}

module _ (p : Priority) (item : List ℕ → Read) (more value : ℕ) (text : List ℕ) (r : Read) (read : chain_on p item more value text ≡ r) where
  pub chain_out : more ≡ 0 → r ≡ Some (value, text)
  chain_out z = sym read ∙ ap (λ (k : ℕ). chain_on p item k value text) z

  abbrev behind : Option Operator → Read
  behind None = Some (value, text)
  behind (Some o) = item (behind_sign text) >>= λ x. applied o value x.0 >>= λ v. chain_on p item (more - 1) v x.1

  opened : 0 < more → behind (operator_of p (sign (gap text))) ≡ r
  opened some = let m : more ≡ suc (more - 1) = omega arith in same (operator_of p (sign (gap text))) ∙ sym (ap (λ (k : ℕ). chain_on p item k value text) m) ∙ read
    where
      same : (o : Option Operator) → behind o ≡ elim o [ None ↦ Some (value, text) | Some o ↦ item (behind_sign text) >>= λ x. applied o value x.0 >>= λ v. chain_on p item (more - 1) v x.1 ]
      same None = refl
      same (Some o) = refl

  pub chain_ends : 0 < more → operator_of p (sign (gap text)) ≡ None → r ≡ Some (value, text)
  chain_ends some e = sym (opened some) ∙ ap behind e

  module _ (some : 0 < more) (o : Operator) (e : operator_of p (sign (gap text)) ≡ Some o) where
    taken : (item (behind_sign text) >>= λ x. applied o value x.0 >>= λ v. chain_on p item (more - 1) v x.1) ≡ r
    taken = sym (ap behind e) ∙ opened some

    pub chain_broken : item (behind_sign text) ≡ None → r ≡ None
    chain_broken f = sym taken ∙ ap (λ (i : Read). i >>= λ x. applied o value x.0 >>= λ v. chain_on p item (more - 1) v x.1) f

    module _ (x : ℕ) (rest : List ℕ) (f : item (behind_sign text) ≡ Some (x, rest)) where
      applied_to : (applied o value x >>= λ v. chain_on p item (more - 1) v rest) ≡ r
      applied_to = sym (ap (λ (i : Read). i >>= λ x. applied o value x.0 >>= λ v. chain_on p item (more - 1) v x.1) f) ∙ taken

      pub chain_undefined : applied o value x ≡ None → r ≡ None
      chain_undefined g = sym applied_to ∙ ap (λ (v : Option ℕ). v >>= λ v. chain_on p item (more - 1) v rest) g

      pub chain_goes_on : (v : ℕ) → applied o value x ≡ Some v → chain_on p item (more - 1) v rest ≡ r
      chain_goes_on v g = sym (ap (λ (v : Option ℕ). v >>= λ v. chain_on p item (more - 1) v rest) g) ∙ applied_to
