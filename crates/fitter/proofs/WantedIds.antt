-- What is asked of a cell over the arena, and over formulas.
use Rattle.std.proofs.Common.{◌≡◌, ℕ, ◌<◌, Bool, true, false, ◌==◌, List, [], ◌∷◌, length, map, get_or, Option, Some, None, refl, sym, ap, ◌∙◌, subst, arith, inl, inr, All, find, unwrap_or}
use Rattle.fitter.proofs.Common.{option_map, cases_Bool, eqb-true, true≢false, All-head, All-tail, same_Some, Table, CellWanted, Control, Netlist, ExprId, arena, constants, formula_at, Const, Formula, arena_count, first_formula, Wanted, plain_control, plain_netlist, plain_wanted, shared_function, wanted_at, enable_of, IsCellIn, IsControlIn, IsSoundNetlist, IsSoundCell, IsSoundFormula, IsSoundShared, IsSoundAt, sound_at, IsSoundId, bit_or, cell_wanted, enable_bit}
use Rattle.netlist_laws.proofs.SharedFunctions.{shared_has}

-- the search over formulas finds what that over the arena finds
found_map : (fs : List Formula) (ws : List CellWanted) (c : ℕ)
    → find (λ (w : Wanted). w.cell == c) (map (plain_wanted fs) ws) ≡ option_map (plain_wanted fs) (find (λ (w : CellWanted). w.cell == c) ws)
found_map fs [] c = refl
found_map fs (w ∷ ws) c =
    elim (cases_Bool (w.cell == c)) [
      | inl hit ↦ rw hit refl
      | inr miss ↦ rw miss (found_map fs ws c)
    ]

pub wanted_is : (net : Netlist) (c : ℕ) → wanted_at (plain_netlist net) c ≡ option_map (plain_wanted (arena net.exprs)) (cell_wanted net c)
wanted_is net c = found_map (arena net.exprs) net.cells c

-- what is found has what all have, and is of the cell
pub record IsFoundId (P : CellWanted → Type 0) (c : ℕ) (w : CellWanted) : Type 0 where
  pub has : P w
  pub cell : w.cell ≡ c

pub found_id : (P : CellWanted → Type 0) (ws : List CellWanted) (c : ℕ) (w : CellWanted) → All P ws → find (λ (x : CellWanted). x.cell == c) ws ≡ Some w → IsFoundId P c w
found_id P [] c w all is = absurd cc
found_id P (x ∷ ws) c w all is =
    elim (cases_Bool (x.cell == c)) [
      | inl hit ↦ subst (IsFoundId P c) (same_Some x w (rw hit at is)) (record { has = All-head P x ws all; cell = eqb-true x.cell c hit })
      | inr miss ↦ found_id P ws c w (All-tail P x ws all) (rw miss at is)
    ]

-- ---- the two constants of every arena

pub zero_is : (net : Netlist) → formula_at (arena net.exprs) (record { 0 = 0 }) ≡ Const false
zero_is net = first_formula net.exprs 0 (omega arith)

pub one_is : (net : Netlist) → formula_at (arena net.exprs) (record { 0 = 1 }) ≡ Const true
one_is net = first_formula net.exprs 1 (omega arith)

const_sound : (t : Table) (net : Netlist) (level : Bool) (f : Formula) → f ≡ Const level → IsSoundFormula t (plain_netlist net) f
const_sound t net level f is = subst (λ g. IsSoundFormula t (plain_netlist net) g) (sym is) (λ l named. absurd (true≢false (sym named)))

pub zero_sound : (t : Table) (net : Netlist) → IsSoundId t net (record { 0 = 0 })
zero_sound t net = record { within = omega (arith, arena_count net.exprs); formula = const_sound t net false _ (zero_is net) }

pub one_sound : (t : Table) (net : Netlist) → IsSoundId t net (record { 0 = 1 })
one_sound t net = record { within = omega (arith, arena_count net.exprs); formula = const_sound t net true _ (one_is net) }

module _ (t : Table) (net : Netlist) (sound : IsSoundNetlist t net) where
  -- what is known of an assigned cell over the arena
  pub record IsSoundIdCell (c : ℕ) (w : CellWanted) : Type 0 where
    pub cell : w.cell ≡ c
    pub ids : IsCellIn (length (arena net.exprs)) w
    pub at : IsSoundAt t (plain_netlist net) c (plain_wanted (arena net.exprs) w)

  pub sound_id_at : (c : ℕ) (w : CellWanted) → cell_wanted net c ≡ Some w → IsSoundIdCell c w
  sound_id_at c w is =
      let f = found_id (IsCellIn (length (arena net.exprs))) net.cells c w sound.cells is in
      record {
        cell = f.cell;
        ids = f.has;
        at = sound_at t (plain_netlist net) sound.sound c (plain_wanted (arena net.exprs) w) (wanted_is net c ∙ ap (option_map (plain_wanted (arena net.exprs))) is);
      }

  pub function_ids : (c : ℕ) (w : CellWanted) → IsSoundIdCell c w → IsSoundId t net w.function.one × IsSoundId t net w.function.any
  function_ids c w is = (
    record { within = is.ids.function.0; formula = is.at.law.function.one },
    record { within = is.ids.function.1; formula = is.at.law.function.any },
  )

  control_id : (none : ExprId) (control : Option Control) → IsSoundId t net none → IsControlIn (length (arena net.exprs)) control
      → ((f : Formula) → plain_control (arena net.exprs) control ≡ Some f → IsSoundFormula t (plain_netlist net) f) → IsSoundId t net (bit_or none control)
  control_id none None default ids law = default
  control_id none (Some control) default ids law = record { within = ids; formula = law (formula_at (arena net.exprs) control.bit) refl }

  pub enable_id : (c : ℕ) (w : CellWanted) → IsSoundIdCell c w → IsSoundId t net (enable_bit w)
  enable_id c w is = control_id (record { 0 = 1 }) w.enable (one_sound t net) is.ids.enable is.at.law.enable

  pub reset_id : (c : ℕ) (w : CellWanted) (control : Control) → IsSoundIdCell c w → w.reset ≡ Some control → IsSoundId t net control.bit
  reset_id c w control is own = record {
    within = subst (IsControlIn (length (arena net.exprs))) own is.ids.reset;
    formula = (is.at.law.reset (formula_at (arena net.exprs) control.bit) (ap (plain_control (arena net.exprs)) own)).formula;
  }

  pub preset_id : (c : ℕ) (w : CellWanted) (control : Control) → IsSoundIdCell c w → w.preset ≡ Some control → IsSoundId t net control.bit
  preset_id c w control is own = record {
    within = subst (IsControlIn (length (arena net.exprs))) own is.ids.preset;
    formula = (is.at.law.preset (formula_at (arena net.exprs) control.bit) (ap (plain_control (arena net.exprs)) own)).formula;
  }

  -- the function that all registers share
  pub shared_sound : (own : Wanted → Option Formula) (device : Option ℕ)
      → ((w : Wanted) → IsSoundCell t (plain_netlist net) w → (f : Formula) → own w ≡ Some f → IsSoundShared t (plain_netlist net) w device f)
      → IsSoundFormula t (plain_netlist net) (shared_function own (plain_netlist net))
  shared_sound own device law =
      shared_has own (IsSoundFormula t (plain_netlist net)) (plain_netlist net)
      (λ k d within f is. (law _ (sound.sound.cells k d within) f is).formula) (const_sound t net false (Const false) refl)

-- the formula of an enable, which is always 1 if there isn't one
pub enable_is : (net : Netlist) (w : CellWanted) → formula_at (arena net.exprs) (enable_bit w) ≡ enable_of (plain_wanted (arena net.exprs) w)
enable_is net w = by_control w.enable
  where
    by_control : (control : Option Control) → formula_at (arena net.exprs) (bit_or (record { 0 = 1 }) control) ≡ unwrap_or (plain_control (arena net.exprs) control) (Const true)
    by_control None = one_is net
    by_control (Some control) = refl
