-- The example's netlist is sound.
use Rattle.std.proofs.Common.{◌≡◌, ◌≢◌, ℕ, zero, suc, ◌+◌, ◌<◌, true, false, ◌||◌, [], get_or, Option, Some, None, refl, ap, sym, ◌∙◌, subst, arith}
use Rattle.netlist_laws.proofs.Common.{eqb-true, true≢false, All-nil, All-cons, sample, cell_at, no_loop_by_rank, Leaf, Formula, Read, names, Wanted, netlist_waits, netlist_reset_reads, names_if_any, IsReadable, IsSoundFormula, IsSoundFunction, IsSoundShared, IsSoundCell, IsSoundFree, IsSound, example_cell, example}
use Rattle.bit_expr.specs.declared.node.Leaf.TheVariants as leaf
use Rattle.netlist_laws.proofs.Valuing.{node_leaf}

not_on : (pin c : ℕ) → pin ≢ 9 → pin ≢ 8 → c < 2 → (cell_at sample c).pin ≡ pin → ⊥
not_on pin zero nine eight low is = nine (sym is)
not_on pin (suc zero) nine eight low is = eight (sym is)
not_on pin (suc (suc c)) nine eight low is = absurd (omega (arith, low))

named_pin : (a : ℕ) (l : Leaf) → names (Read (leaf.Pin a)) l ≡ true → l ≡ leaf.Pin a
named_pin a (leaf.Pin pin) named = ap (λ p. leaf.Pin p) (sym (eqb-true a pin named))
named_pin a (leaf.Q c) named = absurd (true≢false (sym named))
named_pin a (leaf.Node n) named = absurd (true≢false (sym named))

pin_one : IsSoundFormula sample example (Read (leaf.Pin 1))
pin_one l named = subst (IsReadable sample example) (sym (named_pin 1 l named)) ((0, refl), λ c low is. absurd (not_on 1 c (λ e. absurd (omega (arith, e))) (λ e. absurd (omega (arith, e))) low is))

pin_two : IsSoundFormula sample example (Read (leaf.Pin 2))
pin_two l named = subst (IsReadable sample example) (sym (named_pin 2 l named)) ((2, refl), λ c low is. absurd (not_on 2 c (λ e. absurd (omega (arith, e))) (λ e. absurd (omega (arith, e))) low is))

pub some_formula : (f g : Formula) → Some f ≡ Some g → f ≡ g
some_formula f g e = cc

pub none_formula : (f : Formula) → ◌≡◌ {A = Option Formula} None (Some f) → ⊥
none_formula f e = absurd cc

sound_reset : (f : Formula) → example_cell.reset ≡ Some f → IsSoundShared sample example example_cell (Some 0) f
sound_reset f is = record {
  register = refl;
  has_one = refl;
  formula = subst (IsSoundFormula sample example) (some_formula (Read (leaf.Pin 2)) f is) pin_two;
}

sound_cell : IsSoundCell sample example example_cell
sound_cell = record {
  within = omega arith;
  kind = tt;
  buffer = λ reg buffer. absurd (true≢false (sym buffer));
  by_pin = λ pin is. refl;
  function = record { one = pin_one; any = λ l named. absurd (true≢false (sym named)) };
  enable = λ f is. absurd (none_formula f is);
  reset = sound_reset;
  preset = λ f is. absurd (none_formula f is);
}

none_waits : (v w : ℕ) → w < 2 → netlist_waits sample example v w ≡ true → ⊥
none_waits v zero w_in reads = true≢false (sym reads)
none_waits v (suc zero) w_in reads = true≢false (sym reads)
none_waits v (suc (suc w)) w_in reads = absurd (omega (arith, w_in))

none_reset : (v : ℕ) → netlist_reset_reads sample example v ≡ false
none_reset zero = refl
none_reset (suc zero) = refl
none_reset (suc (suc v)) =
    let past : 2 + v ≡ suc (suc v) = omega arith in
    subst (λ w. netlist_reset_reads sample example w ≡ false) past (ap (λ l. names_if_any example_cell.reset l || false) (node_leaf sample example v))

pub example_sound : IsSound sample example
example_sound = record {
  few_nodes = omega arith;
  nodes = All-nil (IsSoundFunction sample example);
  cells = All-cons (IsSoundCell sample example) example_cell [] sound_cell (All-nil (IsSoundCell sample example));
  free = All-cons (λ (w : Wanted). w.free ≡ true → IsSoundFree sample example w) example_cell [] (λ chosen. absurd (true≢false (sym chosen))) (All-nil (λ (w : Wanted). w.free ≡ true → IsSoundFree sample example w));
  once = λ i j d less within. absurd (omega (arith, less, within));
  no_loop = no_loop_by_rank 2 (netlist_waits sample example) (λ v. v) (λ v w v_in w_in reads. absurd (none_waits v w w_in reads));
  no_path = λ path is. true≢false (sym is.begins ∙ none_reset (get_or path 0 0));
}
