-- Choices that are the same at every cell.
use Rattle.std.proofs.Common.{◌≡◌, ℕ, suc, Bool, false, if◌then◌else◌, Option, None, Some, List, [], ◌∷◌, map, refl, sym, ap, ap₂, ◌∙◌}
use Rattle.netlist_laws.proofs.Common.{option_map, Levels, exchanged_at, exchanged_from, in_sense, Leaf, Formula, Const, Read, Not, And, Or, Xor, Function, PlainNetlist, Wanted, formula_exchanged, function_exchanged, leaf_exchanged, netlist_exchanged, wanted_exchanged, SameChoiceValues, SameChoices}
use Rattle.bit_expr.specs.declared.node.Leaf.TheVariants as leaf

module _ (x y : ℕ → Bool) (same : (c : ℕ) → x c ≡ y c) where
  same_from : (c : ℕ) (qs : List Bool) → exchanged_from x c qs ≡ exchanged_from y c qs
  same_from c [] = refl
  same_from c (q ∷ qs) = ap₂ (λ p ps. p ∷ ps) (ap (λ b. in_sense b q) (same c)) (same_from (suc c) qs)

  pub same_at : (at : Levels) → exchanged_at x at ≡ exchanged_at y at
  same_at at = ap (λ qs. let z : Levels = record { pins = at.pins; q = qs; nodes = at.nodes } in z) (same_from 0 at.q)

pub same_choices : SameChoices
same_choices x y m same = record {
  same_cells = record { cells = refl; pin = λ c within. refl; stores = λ c within. refl; clock = refl };
  is_node = λ n low. refl;
  allows = λ at is. record {
    enabled = λ c within. ap (λ a. m.enabled a c) (same_at x y same at);
    level = λ c within on v allowed. sym (ap (λ a. m.allows_level a c v) (same_at x y same at)) ∙ allowed;
    reset = λ c within kept. ap (λ a. m.reset a c) (same_at x y same at);
    preset = λ c within kept. ap (λ a. m.preset a c) (same_at x y same at);
    next = λ c within kept v allowed. sym (ap₂ (λ a b. m.allows_next a c (in_sense b v)) (same_at x y same at) (same c)) ∙ allowed;
  };
  node = λ at is n low v allowed. sym (ap (λ a. m.allows_node a n v) (same_at x y same at)) ∙ allowed;
}

pub same_choice_values : SameChoiceValues
same_choice_values x y m values same at is n low node = ap (λ a. values a n) (same_at x y same at)

-- ---- netlists

module _ (x y : ℕ → Bool) (same : (c : ℕ) → x c ≡ y c) where
  leaf_same : (l : Leaf) → leaf_exchanged x l ≡ leaf_exchanged y l
  leaf_same (leaf.Pin p) = refl
  leaf_same (leaf.Q c) = ap (λ b. if b then Not (Read (leaf.Q c)) else Read (leaf.Q c)) (same c)
  leaf_same (leaf.Node n) = refl

  formula_same : (f : Formula) → formula_exchanged x f ≡ formula_exchanged y f
  formula_same (Const level) = refl
  formula_same (Read l) = leaf_same l
  formula_same (Not f) = ap Not (formula_same f)
  formula_same (And f g) = ap₂ And (formula_same f) (formula_same g)
  formula_same (Or f g) = ap₂ Or (formula_same f) (formula_same g)
  formula_same (Xor f g) = ap₂ Xor (formula_same f) (formula_same g)

  function_same : (f : Function Formula) → function_exchanged x f ≡ function_exchanged y f
  function_same f =
      ap₂ (λ one any. let g : Function Formula = record { one = one; any = any; complement = f.complement } in g) (formula_same f.one) (formula_same f.any)

  control_same : (o : Option Formula) → option_map (formula_exchanged x) o ≡ option_map (formula_exchanged y) o
  control_same None = refl
  control_same (Some f) = ap Some (formula_same f)

  -- a cell with another polarity and other formulas
  abbrev made : Wanted → Bool → Function Formula → (enable reset preset : Option Formula) → Wanted
  made w buffer function enable reset preset =
      record {
        cell = w.cell;
        name = w.name;
        registered = w.registered;
        buffer = buffer;
        negated = w.negated;
        raw = w.raw;
        free = false;
        function = function;
        enable = enable;
        reset = reset;
        preset = preset;
      }

  wanted_same : (w : Wanted) → wanted_exchanged x w ≡ wanted_exchanged y w
  wanted_same w =
      let old = option_map (formula_exchanged x) in
      let new = option_map (formula_exchanged y) in
      let follows = in_sense (y w.cell) w.buffer in
      let f = function_exchanged y w.function in
      ap (λ b. made w (in_sense b w.buffer) (function_exchanged x w.function) (old w.enable) (old w.reset) (old w.preset)) (same w.cell)
      ∙ (ap₂ (λ g e. made w follows g e (old w.reset) (old w.preset)) (function_same w.function) (control_same w.enable)
      ∙ ap₂ (λ r p. made w follows f (new w.enable) r p) (control_same w.reset) (control_same w.preset))

  functions_same : (fs : List (Function Formula)) → map (function_exchanged x) fs ≡ map (function_exchanged y) fs
  functions_same [] = refl
  functions_same (f ∷ fs) = ap₂ (λ g gs. g ∷ gs) (function_same f) (functions_same fs)

  cells_same : (ws : List Wanted) → map (wanted_exchanged x) ws ≡ map (wanted_exchanged y) ws
  cells_same [] = refl
  cells_same (w ∷ ws) = ap₂ (λ v vs. v ∷ vs) (wanted_same w) (cells_same ws)

  -- the same choice makes the same netlist
  pub same_netlist : (net : PlainNetlist) → netlist_exchanged x net ≡ netlist_exchanged y net
  same_netlist net =
      ap₂ (λ nodes cells. let n : PlainNetlist = record { nodes = nodes; cells = cells } in n) (functions_same net.nodes) (cells_same net.cells)
