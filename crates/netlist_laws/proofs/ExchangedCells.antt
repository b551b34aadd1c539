-- The cells of an exchanged netlist by their numbers, and the controls that they share.
use Rattle.std.proofs.Common.{◌≡◌, ℕ, Bool, false, ◌==◌, List, [], ◌∷◌, map, Option, None, Some, refl, ap, ◌∙◌, inl, inr, find, is_some, nat_lt, unwrap_or}
use Rattle.netlist_laws.proofs.Common.{option_map, cases_Bool, Kinds, Table, cell_at, Const, Formula, PlainNetlist, Wanted, earlier_name, first_with, own_of, own_or_shared, shared_function, wanted_at, netlist_stores, registers_as, formula_exchanged, netlist_exchanged, wanted_exchanged}

found_exchanged : (x : ℕ → Bool) (c : ℕ) (ws : List Wanted) → find (λ (w : Wanted). w.cell == c) (map (wanted_exchanged x) ws) ≡ option_map (wanted_exchanged x) (find (λ (w : Wanted). w.cell == c) ws)
found_exchanged x c [] = refl
found_exchanged x c (w ∷ ws) =
    elim (cases_Bool (w.cell == c)) [
      | inl hit ↦ rw hit refl
      | inr miss ↦ rw miss (found_exchanged x c ws)
    ]

-- what is asked of a cell
pub wanted_at_exchanged : (x : ℕ → Bool) (net : PlainNetlist) (c : ℕ) → wanted_at (netlist_exchanged x net) c ≡ option_map (wanted_exchanged x) (wanted_at net c)
wanted_at_exchanged x net c = found_exchanged x c net.cells

registers_same : (x : ℕ → Bool) (kinds : Kinds) (found : Option Wanted) → registers_as kinds (option_map (wanted_exchanged x) found) ≡ registers_as kinds found
registers_same x kinds None = refl
registers_same x kinds (Some w) = refl

-- the same cells are registers
pub stores_exchanged : (t : Table) (x : ℕ → Bool) (net : PlainNetlist) (c : ℕ) → netlist_stores t (netlist_exchanged x net) c ≡ netlist_stores t net c
stores_exchanged t x net c =
    ap (registers_as (cell_at t c).kinds) (wanted_at_exchanged x net c) ∙ registers_same x (cell_at t c).kinds (wanted_at net c)

-- ---- shared controls

module _ (x : ℕ → Bool) (own : Wanted → Option Formula) (own_is : (w : Wanted) → own (wanted_exchanged x w) ≡ option_map (formula_exchanged x) (own w)) where
  some_same : (o : Option Formula) → is_some (option_map (formula_exchanged x) o) ≡ is_some o
  some_same None = refl
  some_same (Some f) = refl

  earlier_same : (w : Wanted) (found : Option Wanted) → earlier_name (wanted_exchanged x w) (option_map (wanted_exchanged x) found) ≡ wanted_exchanged x (earlier_name w found)
  earlier_same w None = refl
  earlier_same w (Some v) = elim (cases_Bool (nat_lt v.name w.name)) [ inl less ↦ rw less refl | inr not_less ↦ rw not_less refl ]

  first_same : (ws : List Wanted) → first_with own (map (wanted_exchanged x) ws) ≡ option_map (wanted_exchanged x) (first_with own ws)
  first_same [] = refl
  first_same (w ∷ ws) =
      elim (cases_Bool (is_some (own w))) [
        | inl has ↦ rw (ap is_some (own_is w) ∙ (some_same (own w) ∙ has), has, first_same ws) (ap Some (earlier_same w (first_with own ws)))
        | inr lacks ↦ rw (ap is_some (own_is w) ∙ (some_same (own w) ∙ lacks), lacks) (first_same ws)
      ]

  own_same : (found : Option Wanted) → own_of own (option_map (wanted_exchanged x) found) ≡ option_map (formula_exchanged x) (own_of own found)
  own_same None = refl
  own_same (Some w) = own_is w

  unwrapped_same : (o : Option Formula) (f : Formula) → unwrap_or (option_map (formula_exchanged x) o) (formula_exchanged x f) ≡ formula_exchanged x (unwrap_or o f)
  unwrapped_same None f = refl
  unwrapped_same (Some g) f = refl

  pub shared_exchanged : (net : PlainNetlist) → shared_function own (netlist_exchanged x net) ≡ formula_exchanged x (shared_function own net)
  shared_exchanged net =
      ap (λ o. unwrap_or (own_of own o) (Const false)) (first_same net.cells)
      ∙ (ap (λ o. unwrap_or o (Const false)) (own_same (first_with own net.cells))
      ∙ unwrapped_same (own_of own (first_with own net.cells)) (Const false))

  -- the control of a cell: its own, or the shared one
  pub own_or_shared_exchanged : (net : PlainNetlist) (c : ℕ) → own_or_shared own (netlist_exchanged x net) c ≡ formula_exchanged x (own_or_shared own net c)
  own_or_shared_exchanged net c =
      ap (λ o. unwrap_or (own_of own o) (shared_function own (netlist_exchanged x net))) (wanted_at_exchanged x net c)
      ∙ (ap (λ f. unwrap_or (own_of own (option_map (wanted_exchanged x) (wanted_at net c))) f) (shared_exchanged net)
      ∙ (ap (λ o. unwrap_or o (formula_exchanged x (shared_function own net))) (own_same (wanted_at net c))
      ∙ unwrapped_same (own_of own (wanted_at net c)) (shared_function own net)))
