-- One more value, node or wire.
use Rattle.std.proofs.Common.{◌≡◌, ℕ, ◌+◌, ◌<◌, ◌≤◌, Bool, false, List, [], ◌∷◌, ◌++◌, length, get_or, set, refl, sym, ap, ◌∙◌, subst, arith, inl, inr, get_or-set_same, get_or-set_other}
use Rattle.fitter.proofs.Common.{cases_lt, get_or_append_left, length-append, get_or-append_seam, bits, is_on, Levels, is_on-zero, length-bits, complement_if, Function, Netlist, arena, Const, formula_value, arena_count, function_of_node, node_formula, HasValues}
use Rattle.bit_expr.specs.declared.node.Node.{Node}

-- what represents a function past the last one
abbrev pub no_function : Function
no_function = record { one = record { 0 = 0 }; any = record { 0 = 0 }; complement = false }

pub values_more : (nodes : List Node) (at : Levels) (values more : List Bool) (value : Bool) → HasValues nodes at values → value ≡ formula_value at (get_or (arena nodes) (length values) (Const false))
    → more ≡ values ++ value ∷ [] → HasValues nodes at more
values_more nodes at values more value before here is k low =
    rw is (elim (cases_lt k (length values)) [
      | inl less ↦ get_or_append_left values (value ∷ []) false k less ∙ before k less
      | inr past ↦
          let same : k ≡ length values = omega (arith, past, low, ap length is, length-append values (value ∷ [])) in
          rw same (get_or-append_seam values value [] false ∙ here)
    ])

-- the levels at the places so far, and zeros past them
pub record LevelsBelow (f : ℕ → Bool) (width n : ℕ) (levels : List Bool) : Type 0 where
  pub each : (k : ℕ) → k < n → is_on levels k ≡ f k
  pub past : (k : ℕ) → n ≤ k → k < width → is_on levels k ≡ false

pub levels_more : (f : ℕ → Bool) (width n : ℕ) (levels next : List Bool) (on : Bool) → length levels ≡ width → n < width → LevelsBelow f width n levels → next ≡ set levels n on → on ≡ f n
    → LevelsBelow f width (n + 1) next
levels_more f width n levels next on long low before is here = record {
  each = λ k below. ap (λ xs. is_on xs k) is ∙ elim (cases_lt k n) [
    | inl less ↦ get_or-set_other levels n k on false (λ same. absurd (omega (arith, same, less))) ∙ before.each k less
    | inr past ↦
        let same : k ≡ n = omega (arith, below, past) in
        rw same (get_or-set_same levels n on false (omega (arith, low, long)) ∙ here)
  ];
  past = λ k out small. ap (λ xs. is_on xs k) is ∙ (get_or-set_other levels n k on false (λ same. absurd (omega (arith, same, out))) ∙ before.past k (omega (arith, out)) small);
}

pub no_levels : (f : ℕ → Bool) (width : ℕ) → LevelsBelow f width 0 (bits width 0)
no_levels f width = record { each = λ k low. absurd (omega (arith, low)); past = λ k out small. is_on-zero width k small }

-- one more place that has the level of its pair
pub wires_more : (pairs : List ℕ) (levels wires next place pair : ℕ) (on : Bool) → place < 32 → bits 32 next ≡ set (bits 32 wires) place on → get_or pairs place 0 ≡ pair
    → (pair < 32 → on ≡ is_on (bits 32 levels) pair)
    → ((k : ℕ) → k < place → get_or pairs k 0 < 32 → is_on (bits 32 wires) k ≡ is_on (bits 32 levels) (get_or pairs k 0))
    → (k : ℕ) → k < place + 1 → get_or pairs k 0 < 32 → is_on (bits 32 next) k ≡ is_on (bits 32 levels) (get_or pairs k 0)
wires_more pairs levels wires next place pair on low is there level before k below small =
    ap (λ xs. is_on xs k) is ∙ elim (cases_lt k place) [
      | inl less ↦ get_or-set_other (bits 32 wires) place k on false (λ same. absurd (omega (arith, same, less))) ∙ before k less small
      | inr past ↦
          let same : k ≡ place = omega (arith, below, past) in
          rw (same, there) (get_or-set_same (bits 32 wires) place on false (omega (arith, low, length-bits 32 wires)) ∙ level (subst (λ n. n < 32) (ap (λ j. get_or pairs j 0) same ∙ there) small))
    ]

-- the value of a node's function, by those of the arena's formulas
pub next_value : (net : Netlist) (at : Levels) (functions : List Function) (values held : List Bool) (n : ℕ) (v : Bool) → functions ≡ net.nodes → held ≡ values → HasValues net.exprs at values
    → (function_of_node net n).one.0 < length values
    → v ≡ complement_if (get_or functions n no_function).complement (get_or held (get_or functions n no_function).one.0 false)
    → v ≡ complement_if (function_of_node net n).complement (formula_value at (node_formula net n))
next_value net at functions values held n v same_functions same_values has within is =
    is ∙ (ap (λ (fs : List Function). complement_if (get_or fs n no_function).complement (get_or held (get_or fs n no_function).one.0 false)) same_functions
    ∙ (ap (λ (xs : List Bool). complement_if (function_of_node net n).complement (get_or xs (function_of_node net n).one.0 false)) same_values
    ∙ ap (complement_if (function_of_node net n).complement) (has (function_of_node net n).one.0 within)))
