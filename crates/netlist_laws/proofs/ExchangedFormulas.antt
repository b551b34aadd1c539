-- Formulas with exchanged Qs: their values and the leaves that they name.
use Rattle.std.proofs.Common.{◌≡◌, ℕ, ◌<◌, Bool, true, not, ◌&&◌, ◌||◌, Option, None, Some, refl, sym, ap, ap₂, ◌∙◌, subst, inl, inr, arith}
use Rattle.netlist_laws.proofs.Common.{option_map, cases_Bool, is_on, IsPoint, Levels, Leaf, Formula, Const, Read, Not, And, Or, Xor, differ, formula_value, leaf_value, names, same_leaf, Function, PlainNetlist, function_at, no_function, node_at, function_names, names_if_any, exchanged_at, in_sense, formula_exchanged, function_exchanged, leaf_exchanged, netlist_exchanged}
use Rattle.std.proofs.Math.ListN.{get_or-map}
use Rattle.bit_expr.specs.declared.node.Leaf.TheVariants as leaf
use Rattle.pld_machine.proofs.ExchangedPoints.{q_any}

-- ---- names

leaf_named : (x : ℕ → Bool) (m l : Leaf) → names (leaf_exchanged x m) l ≡ same_leaf m l
leaf_named x (leaf.Pin p) l = refl
leaf_named x (leaf.Q c) l = elim (cases_Bool (x c)) [ inl on ↦ rw on refl | inr off ↦ rw off refl ]
leaf_named x (leaf.Node n) l = refl

pub names_exchanged : (x : ℕ → Bool) (f : Formula) (l : Leaf) → names (formula_exchanged x f) l ≡ names f l
names_exchanged x (Const level) l = refl
names_exchanged x (Read m) l = leaf_named x m l
names_exchanged x (Not f) l = names_exchanged x f l
names_exchanged x (And f g) l = ap₂ (λ a b. a || b) (names_exchanged x f l) (names_exchanged x g l)
names_exchanged x (Or f g) l = ap₂ (λ a b. a || b) (names_exchanged x f l) (names_exchanged x g l)
names_exchanged x (Xor f g) l = ap₂ (λ a b. a || b) (names_exchanged x f l) (names_exchanged x g l)

pub function_named : (x : ℕ → Bool) (f : Function Formula) (l : Leaf) → function_names (function_exchanged x f) l ≡ function_names f l
function_named x f l = ap₂ (λ a b. a || b) (names_exchanged x f.one l) (names_exchanged x f.any l)

pub control_named : (x : ℕ → Bool) (f : Option Formula) (l : Leaf) → names_if_any (option_map (formula_exchanged x) f) l ≡ names_if_any f l
control_named x None l = refl
control_named x (Some f) l = names_exchanged x f l

-- ---- values

module _ (x : ℕ → Bool) (low : (c : ℕ) → x c ≡ true → c < 32) (at : Levels) (is : IsPoint at) where
  -- a Q in the other sense if the cell is exchanged; past the end it isn't
  pub q_at : (c : ℕ) → is_on (exchanged_at x at).q c ≡ in_sense (x c) (is_on at.q c)
  q_at c = q_any x 0 c c at.q (omega arith) (λ on. subst (λ k. c < k) (sym is.q) (low c on))

  leaf_value_exchanged : (l : Leaf) → formula_value at (leaf_exchanged x l) ≡ leaf_value (exchanged_at x at) l
  leaf_value_exchanged (leaf.Pin p) = refl
  leaf_value_exchanged (leaf.Q c) =
      elim (cases_Bool (x c)) [
        | inl on ↦ rw on (sym (q_at c ∙ ap (λ b. in_sense b (is_on at.q c)) on))
        | inr off ↦ rw off (sym (q_at c ∙ ap (λ b. in_sense b (is_on at.q c)) off))
      ]
  leaf_value_exchanged (leaf.Node n) = refl

  pub value_exchanged : (f : Formula) → formula_value at (formula_exchanged x f) ≡ formula_value (exchanged_at x at) f
  value_exchanged (Const level) = refl
  value_exchanged (Read l) = leaf_value_exchanged l
  value_exchanged (Not f) = ap not (value_exchanged f)
  value_exchanged (And f g) = ap₂ (λ a b. a && b) (value_exchanged f) (value_exchanged g)
  value_exchanged (Or f g) = ap₂ (λ a b. a || b) (value_exchanged f) (value_exchanged g)
  value_exchanged (Xor f g) = ap₂ differ (value_exchanged f) (value_exchanged g)

  pub function_value_exchanged : (f : Function Formula) → function_at at (function_exchanged x f) ≡ function_at (exchanged_at x at) f
  function_value_exchanged f =
      ap₂ (λ a b. let y : Function Bool = record { one = a; any = b; complement = f.complement } in y) (value_exchanged f.one) (value_exchanged f.any)

-- the function of a node
pub node_exchanged : (x : ℕ → Bool) (net : PlainNetlist) (n : ℕ) → node_at (netlist_exchanged x net) n ≡ function_exchanged x (node_at net n)
node_exchanged x net n = get_or-map (function_exchanged x) net.nodes n no_function
