-- The signals of a gathered netlist, which are the cells and the nodes, read what the module's signals read.
use Rattle.std.proofs.Common.{◌≡◌, ℕ, ◌-◌, ◌<◌, Bool, true, false, not, ◌&&◌, ◌||◌, nat_lt, length, Option, Some, None, refl, sym, ap, ◌∙◌, subst, inl, inr, arith, unwrap_or, if◌then◌else◌}
use Rattle.netlist_laws.proofs.Common.{option_map, cases_Bool, cases_lt, and_parts, or_cases, or_left, or_right, eqb-true, eq-eqb, ltb-true, get_or_past, position-Some, Cell, Enable, Row, PinLow, Driven, Released, IsDevice, cell_at, no_cell, own_pins, Leaf, Formula, names, Extension, Kind, APin, ANode, AConstant, ADeviceName, Entry, is_stored, cell_on, is_on_pin, signal_on, control_of, Design, name_at, no_name, formulas, function_of, node_at, no_function, netlist_stores, cell_names, netlist_names, is_register_signal, cell_leaf, signal_leaf, netlist_reads, given_formulas, settles, leaf_by, leaf_of, names_if_any, function_names, signal_names, signal_reads, is_stored_signal, is_node_number, node_signal, by_row, wanted_for, cell_by, cell_of, gathered, PinsApart, is_row, is_enabled_by_row, is_kept}
use Rattle.bit_expr.specs.declared.node.Leaf.TheVariants as leaf
use Rattle.abel_tree.specs.declared.words.Extension.TheVariants as extension
use Rattle.netlist_laws.proofs.CellsFound.{has_pin, wanted_found}
use Rattle.netlist_laws.proofs.NodesFound.{AreNumbered, function_here, node_found, taken}
use Rattle.netlist_laws.proofs.KeptLeaves.{EachKept, each_kept, of_one, of_any, of_control, control_kept}
use Rattle.netlist_laws.proofs.SoundLeaves.{only_place, stores_alike, IsDeclared, read_declared}

-- an enable equation that is left out names nothing
by_row_names : (e : Enable) (f : Option Formula) (l : Leaf) → names_if_any (by_row e f) l ≡ true → names_if_any f l ≡ true
by_row_names (Row row) f l is = is
by_row_names (PinLow pin) f l is = absurd cc
by_row_names Driven f l is = absurd cc
by_row_names Released f l is = absurd cc

-- what names a leaf by an enable that is kept or by a function names it by either
enable_or_function : (kept enable plain function : Bool) → (kept ≡ true → enable ≡ true) → (kept || (plain && function)) ≡ true → (function || enable) ≡ true
enable_or_function kept enable plain function is named =
    elim (or_cases kept (plain && function) named) [
      | inl e ↦ or_right function enable (is e)
      | inr f ↦ or_left function enable (and_parts plain function f).1
    ]

pin_of : (pin : ℕ) (kind : Kind) → is_on_pin pin kind ≡ true → (negated : Bool) × (kind ≡ APin pin negated)
pin_of pin (APin other negated) is = (negated, ap (λ p. APin p negated) (eqb-true other pin is))
pin_of pin (ANode n) is = absurd cc
pin_of pin (AConstant value) is = absurd cc
pin_of pin ADeviceName is = absurd cc

node_of : (n : ℕ) (kind : Kind) → is_node_number n kind ≡ true → kind ≡ ANode n
node_of n (ANode other) is = ap (λ m. ANode m) (eqb-true other n is)
node_of n (APin pin negated) is = absurd cc
node_of n (AConstant value) is = absurd cc
node_of n ADeviceName is = absurd cc

not_stored : (registered assigned : Bool) → assigned ≡ true → (registered && assigned) ≡ false → (assigned && not registered) ≡ true
not_stored false true a e = refl
not_stored true true a e = absurd cc
not_stored r false a e = absurd cc

module _ (d : Design) (laws : IsDevice d.context.device) (numbered : AreNumbered 0 d.context.names) (apart : PinsApart d.context) where
  abbrev count : ℕ
  count = length d.context.device.cells

  -- the module's signal after a signal of the netlist
  abbrev pub signal_of : ℕ → Option ℕ
  signal_of v = if nat_lt v count then signal_on d.context v else node_signal d.context (v - count)

  -- ---- cells

  pub record IsOn (c s : ℕ) : Type 0 where
    pub assigned : (name_at d.context s).assigned ≡ true
    pub negated : Bool
    pub kind : (name_at d.context s).kind ≡ APin (cell_at d.context.device c).pin negated

  pub on_cell : (c s : ℕ) → signal_on d.context c ≡ Some s → IsOn c s
  on_cell c s is =
      let at = position-Some (λ (x : Entry). x.assigned && is_on_pin (cell_at d.context.device c).pin x.kind) d.context.names s no_name is in
      let parts = and_parts (name_at d.context s).assigned (is_on_pin (cell_at d.context.device c).pin (name_at d.context s).kind) at.1 in
      let pin = pin_of (cell_at d.context.device c).pin (name_at d.context s).kind parts.1 in
      record { assigned = parts.0; negated = pin.0; kind = pin.1 }

  stored_as : (c s : ℕ) → c < count → signal_on d.context c ≡ Some s → netlist_stores d.context.device (gathered d) c ≡ is_stored (name_at d.context s)
  stored_as c s within is = stores_alike d laws numbered apart c within ∙ rw is refl

  cell_on_pin : (c : ℕ) → c < count → cell_on d.context.device (cell_at d.context.device c).pin ≡ Some c
  cell_on_pin c within =
      only_place (has_pin (cell_at d.context.device c).pin) no_cell d.context.device.cells c within (eq-eqb (cell_at d.context.device c).pin (cell_at d.context.device c).pin refl) (λ j hit. same j hit)
    where
      same : (j : ℕ) → has_pin (cell_at d.context.device c).pin (cell_at d.context.device j) ≡ true → j ≡ c
      same j hit =
          elim (cases_lt j (length d.context.device.cells)) [
            | inl less ↦ (own_pins d.context.device laws).apart j c less within (eqb-true (cell_at d.context.device j).pin (cell_at d.context.device c).pin hit)
            | inr far ↦
                let none : (cell_at d.context.device j).pin ≡ 0 = ap (λ (x : Cell). x.pin) (get_or_past d.context.device.cells j no_cell far) in
                absurd (omega (arith, (own_pins d.context.device laws).first c within, none, eqb-true (cell_at d.context.device j).pin (cell_at d.context.device c).pin hit))
          ]

  settles_on : (c s : ℕ) → IsOn c s → is_stored (name_at d.context s) ≡ false → settles (name_at d.context s) ≡ true
  settles_on c s on other = rw on.kind (not_stored (name_at d.context s).words.registered (name_at d.context s).assigned on.assigned other)

  leaf_on : (c s : ℕ) → c < count → signal_on d.context c ≡ Some s → leaf_of d.context s ≡ Some (cell_leaf d.context.device (gathered d) c)
  leaf_on c s within is =
      let on = on_cell c s is in
      elim (cases_Bool (is_stored (name_at d.context s))) [
        | inl stored ↦
            let mine : leaf_by d.context (name_at d.context s) (APin (cell_at d.context.device c).pin on.negated) ≡ Some (leaf.Q c) = rw stored (ap (λ f. option_map leaf.Q f) (cell_on_pin c within)) in
            let theirs : cell_leaf d.context.device (gathered d) c ≡ leaf.Q c = rw (stored_as c s within is ∙ stored) refl in
            ap (λ k. leaf_by d.context (name_at d.context s) k) on.kind ∙ mine ∙ ap (λ l. Some l) (sym theirs)
        | inr other ↦
            let mine : leaf_by d.context (name_at d.context s) (APin (cell_at d.context.device c).pin on.negated) ≡ Some (leaf.Pin (cell_at d.context.device c).pin) = rw (other, settles_on c s on other) refl in
            let theirs : cell_leaf d.context.device (gathered d) c ≡ leaf.Pin (cell_at d.context.device c).pin = rw (stored_as c s within is ∙ other) refl in
            ap (λ k. leaf_by d.context (name_at d.context s) k) on.kind ∙ mine ∙ ap (λ l. Some l) (sym theirs)
      ]

  -- what the cell of a signal names
  cell_names_by : (c : ℕ) (l : Leaf) (found : Option ℕ)
      → cell_names (option_map (λ s. wanted_for d.context (given_formulas d) c s (name_at d.context s)) found) l ≡ true
      → (s : ℕ) × (found ≡ Some s) × (signal_names d.context (given_formulas d) s l ≡ true)
  cell_names_by c l None is = absurd cc
  cell_names_by c l (Some s) is =
      let enable = control_of (formulas d.context) (given_formulas d) s extension.Oe in
      (s, refl, enable_or_function (names_if_any (by_row (cell_at d.context.device c).enable enable) l) (names_if_any enable l) (not (is_stored (name_at d.context s))) (function_names (function_of (formulas d.context) (given_formulas d) s) l) (by_row_names (cell_at d.context.device c).enable enable l) is)

  -- ---- nodes

  node_is : (n : ℕ) → node_at (gathered d) n ≡ unwrap_or (option_map (function_here d.context (given_formulas d)) (node_signal d.context n)) no_function
  node_is n = taken (gathered d).nodes n no_function ∙ ap (λ f. unwrap_or f no_function) (node_found d.context (given_formulas d) n numbered)

  node_names_by : (l : Leaf) (found : Option ℕ) → function_names (unwrap_or (option_map (function_here d.context (given_formulas d)) found) no_function) l ≡ true
      → (s : ℕ) × (found ≡ Some s) × (signal_names d.context (given_formulas d) s l ≡ true)
  node_names_by l None is = absurd cc
  node_names_by l (Some s) is = (s, refl, or_left (function_names (function_of (formulas d.context) (given_formulas d) s) l) _ is)

  pub node_kind : (n s : ℕ) → node_signal d.context n ≡ Some s → (name_at d.context s).kind ≡ ANode n
  node_kind n s is =
      node_of n (name_at d.context s).kind (position-Some (λ (x : Entry). is_node_number n x.kind) d.context.names s no_name is).1

  -- ---- signals of both

  -- a signal that names something is one of the module's, which names it too
  pub named_by : (v : ℕ) (l : Leaf) → netlist_names d.context.device (gathered d) v l ≡ true → (s : ℕ) × (signal_of v ≡ Some s) × (signal_names d.context (given_formulas d) s l ≡ true)
  named_by v l is =
      elim (cases_Bool (nat_lt v count)) [
        | inl cell ↦
            rw cell (cell_names_by v l (signal_on d.context v) (subst (λ w. cell_names w l ≡ true) (wanted_found d.context (given_formulas d) laws v (ltb-true v count cell)) (rw cell at is)))
        | inr node ↦
            rw node (node_names_by l (node_signal d.context (v - count)) (subst (λ f. function_names f l ≡ true) (node_is (v - count)) (rw node at is)))
      ]

  -- it is read by the same leaf
  pub leaf_alike : (v s : ℕ) → signal_of v ≡ Some s → leaf_of d.context s ≡ Some (signal_leaf d.context.device (gathered d) v)
  leaf_alike v s is =
      elim (cases_Bool (nat_lt v count)) [
        | inl cell ↦ rw cell (leaf_on v s (ltb-true v count cell) (rw cell at is))
        | inr node ↦ rw node (ap (λ k. leaf_by d.context (name_at d.context s) k) (node_kind (v - count) s (rw node at is)))
      ]

  -- it is a register if that one is stored
  pub register_alike : (v s : ℕ) → signal_of v ≡ Some s → is_register_signal d.context.device (gathered d) v ≡ true → is_stored_signal d.context s ≡ true
  register_alike v s is register =
      let parts = and_parts (nat_lt v count) (netlist_stores d.context.device (gathered d) v) register in
      sym (stored_as v s (ltb-true v count parts.0) (rw parts.0 at is)) ∙ parts.1

  -- if it isn't one, it settles by what it reads
  pub settles_alike : (v s : ℕ) → signal_of v ≡ Some s → is_register_signal d.context.device (gathered d) v ≡ false → settles (name_at d.context s) ≡ true
  settles_alike v s is other =
      elim (cases_Bool (nat_lt v count)) [
        | inl cell ↦
            let here : signal_on d.context v ≡ Some s = rw cell at is in
            let plain : netlist_stores d.context.device (gathered d) v ≡ false = rw cell at other in
            settles_on v s (on_cell v s here) (sym (stored_as v s (ltb-true v count cell) here) ∙ plain)
        | inr node ↦ rw (node_kind (v - count) s (rw node at is)) refl
      ]

  -- a signal of the netlist that is no register reads as the module's does
  pub reads_alike : (v w r : ℕ) → signal_of w ≡ Some r → is_register_signal d.context.device (gathered d) v ≡ false → netlist_reads d.context.device (gathered d) v w ≡ true
      → (s : ℕ) × (signal_of v ≡ Some s) × (signal_reads d s r ≡ true)
  reads_alike v w r is plain reads =
      let from = named_by v (signal_leaf d.context.device (gathered d) w) reads in
      (from.0, from.1, rw (settles_alike v from.0 from.1 plain, leaf_alike w r is) from.2)

  -- its number is one of the list's
  pub in_names : (v s : ℕ) → signal_of v ≡ Some s → s < length d.context.names
  in_names v s is =
      elim (cases_Bool (nat_lt v count)) [
        | inl cell ↦ (position-Some (λ (x : Entry). x.assigned && is_on_pin (cell_at d.context.device v).pin x.kind) d.context.names s no_name (rw cell at is)).0
        | inr node ↦ (position-Some (λ (x : Entry). is_node_number (v - count) x.kind) d.context.names s no_name (rw node at is)).0
      ]

  -- ---- what is named is declared

  declared_all : EachKept d (IsDeclared d.context) (given_formulas d)
  declared_all = each_kept d (IsDeclared d.context) (λ k c at kept l e. read_declared d.context c.holds l e)

  function_declared : (s : ℕ) (l : Leaf) → function_names (function_of (formulas d.context) (given_formulas d) s) l ≡ true → IsDeclared d.context l
  function_declared s l is =
      elim (or_cases (names (function_of (formulas d.context) (given_formulas d) s).one l) (names (function_of (formulas d.context) (given_formulas d) s).any l) is) [
        | inl one ↦ of_one d (IsDeclared d.context) (given_formulas d) declared_all s l one
        | inr any ↦ of_any d (IsDeclared d.context) (given_formulas d) declared_all s l any
      ]

  control_declared : (s : ℕ) (e : Extension) (l : Leaf) → is_kept d.context s (Some e) ≡ true → (f : Option Formula) → control_of (formulas d.context) (given_formulas d) s e ≡ f → names_if_any f l ≡ true → IsDeclared d.context l
  control_declared s e l kept None is named = absurd cc
  control_declared s e l kept (Some f) is named =
      of_control d (IsDeclared d.context) (given_formulas d) declared_all s e
      (λ x o same control. control_kept d (IsDeclared d.context) e x (subst (λ y. is_kept d.context y (Some e) ≡ true) (sym (eqb-true x s same)) kept) o control)
      f is l named

  pub reset_declared : (s : ℕ) (l : Leaf) → names_if_any (control_of (formulas d.context) (given_formulas d) s extension.Ar) l ≡ true → IsDeclared d.context l
  reset_declared s l named = control_declared s extension.Ar l refl (control_of (formulas d.context) (given_formulas d) s extension.Ar) refl named

  enable_declared : (c s : ℕ) (l : Leaf) (e : Enable) → c < count → signal_on d.context c ≡ Some s → (cell_at d.context.device c).enable ≡ e → names_if_any (by_row e (control_of (formulas d.context) (given_formulas d) s extension.Oe)) l ≡ true → IsDeclared d.context l
  enable_declared c s l (PinLow pin) within is enable named = absurd cc
  enable_declared c s l Driven within is enable named = absurd cc
  enable_declared c s l Released within is enable named = absurd cc
  enable_declared c s l (Row row) within is enable named =
      control_declared s extension.Oe l (ap (λ o. is_enabled_by_row d.context.device o) mine ∙ ap (λ a. is_row a) enable) (control_of (formulas d.context) (given_formulas d) s extension.Oe) refl named
    where
      mine : cell_of d.context.device (name_at d.context s) ≡ Some c
      mine = ap (λ k. cell_by d.context.device (name_at d.context s) k) (on_cell c s is).kind ∙ rw (on_cell c s is).assigned (cell_on_pin c within)

  cell_declared : (c : ℕ) (l : Leaf) (found : Option ℕ) → c < count → signal_on d.context c ≡ found
      → cell_names (option_map (λ s. wanted_for d.context (given_formulas d) c s (name_at d.context s)) found) l ≡ true → IsDeclared d.context l
  cell_declared c l None within is named = absurd cc
  cell_declared c l (Some s) within is named =
      elim (or_cases (names_if_any (by_row (cell_at d.context.device c).enable (control_of (formulas d.context) (given_formulas d) s extension.Oe)) l) (not (is_stored (name_at d.context s)) && function_names (function_of (formulas d.context) (given_formulas d) s) l) named) [
        | inl enable ↦ enable_declared c s l (cell_at d.context.device c).enable within is refl enable
        | inr function ↦ function_declared s l (and_parts (not (is_stored (name_at d.context s))) (function_names (function_of (formulas d.context) (given_formulas d) s) l) function).1
      ]

  node_declared : (l : Leaf) (found : Option ℕ) → function_names (unwrap_or (option_map (function_here d.context (given_formulas d)) found) no_function) l ≡ true → IsDeclared d.context l
  node_declared l None named = absurd cc
  node_declared l (Some s) named = function_declared s l named

  -- what a signal names is declared
  pub named_declared : (v : ℕ) (l : Leaf) → netlist_names d.context.device (gathered d) v l ≡ true → IsDeclared d.context l
  named_declared v l is =
      elim (cases_Bool (nat_lt v count)) [
        | inl cell ↦ cell_declared v l (signal_on d.context v) (ltb-true v count cell) refl (subst (λ w. cell_names w l ≡ true) (wanted_found d.context (given_formulas d) laws v (ltb-true v count cell)) (rw cell at is))
        | inr node ↦ node_declared l (node_signal d.context (v - count)) (subst (λ f. function_names f l ≡ true) (node_is (v - count)) (rw node at is))
      ]
