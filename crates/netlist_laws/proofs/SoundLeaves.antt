-- A leaf that some read of a module reads, and for which the device has columns, is one that the netlist may read.
use Rattle.std.proofs.Common.{◌≡◌, ℕ, ◌<◌, Bool, true, false, ◌&&◌, List, [], ◌∷◌, length, get_or, Option, Some, None, refl, sym, ap, ◌∙◌, inl, inr, position}
use Rattle.netlist_laws.proofs.Common.{option_map, cases_Bool, cases_lt, eqb-true, eq-eqb, and_parts, true≢false, get_or_past, slice_get_within, position-Some, Levels, IsDevice, cell_at, no_cell, Leaf, Extension, Kind, APin, ANode, AConstant, ADeviceName, Entry, is_stored, follows_q, cell_on, is_on_pin, signal_on, cell_stores, Context, Design, name_at, no_name, wanted_at, registers_as, netlist_stores, given_formulas, IsReadable, LeafRead, source_by, on_pin, pin_source, register_source, node_source, is_node_number, wanted_for, gathered, SignalUse, holds_leaf, use_reads, uses_read, PinsApart, HasColumns}
use Rattle.bit_expr.specs.declared.node.Leaf.TheVariants as leaf
use Rattle.abel_tree.specs.declared.words.Extension.TheVariants as extension
use Rattle.netlist_laws.proofs.CellsFound.{first_place, none_passes, has_pin, wanted_found}
use Rattle.netlist_laws.proofs.Meaning.{stores_as}
use Rattle.netlist_laws.proofs.NodesFound.{AreNumbered, function_here, node_found}

-- ---- first places

-- if the only one that passes is this one, it is the first
pub only_place : {X : Type 0} (p : X → Bool) (y : X) (xs : List X) (i : ℕ) → i < length xs → p (get_or xs i y) ≡ true → ((j : ℕ) → p (get_or xs j y) ≡ true → j ≡ i) → position p xs ≡ Some i
only_place p y xs i within hit only = by (position p xs) refl
  where
    by : (found : Option ℕ) → position p xs ≡ found → position p xs ≡ Some i
    by None e = absurd (true≢false (sym hit ∙ none_passes p y xs 0 i (sym (first_place p xs) ∙ e) within))
    by (Some j) e = e ∙ ap (λ k. Some k) (only j (position-Some p xs j y e).1)

-- if some passes, there is a first
pub some_place : {X : Type 0} (p : X → Bool) (y : X) (xs : List X) (i : ℕ) → i < length xs → p (get_or xs i y) ≡ true → (j : ℕ) × (position p xs ≡ Some j)
some_place p y xs i within hit = by (position p xs) refl
  where
    by : (found : Option ℕ) → position p xs ≡ found → (j : ℕ) × (position p xs ≡ Some j)
    by None e = absurd (true≢false (sym hit ∙ none_passes p y xs 0 i (sym (first_place p xs) ∙ e) within))
    by (Some j) e = (j, e)

-- ---- names

-- a name that is no device's name has a number of the list
pub inside : (d : Context) (s : ℕ) → ((name_at d s).kind ≡ ADeviceName → ⊥) → s < length d.names
inside d s other =
    elim (cases_lt s (length d.names)) [
      | inl less ↦ less
      | inr far ↦ absurd (other (ap (λ (x : Entry). x.kind) (get_or_past d.names s no_name far)))
    ]

-- ---- what is declared

module _ (d : Context) where
  -- a Q is that of an assigned register, a node is declared
  abbrev pub IsDeclared : Leaf → Type 0
  IsDeclared (leaf.Pin p) = Unit {0}
  IsDeclared (leaf.Q c) = (s : ℕ) × (pin : ℕ) × (negated : Bool) × ((name_at d s).kind ≡ APin pin negated) × (is_stored (name_at d s) ≡ true) × (cell_on d.device pin ≡ Some c)
  IsDeclared (leaf.Node n) = (s : ℕ) × ((name_at d s).kind ≡ ANode n)

  of_pin : (p : ℕ) (l : Leaf) → holds_leaf (LeafRead true (leaf.Pin p)) l ≡ true → IsDeclared l
  of_pin p (leaf.Pin q) e = tt
  of_pin p (leaf.Q c) e = absurd cc
  of_pin p (leaf.Node n) e = absurd cc

  of_q : (s pin c : ℕ) (negated : Bool) (l : Leaf) → (name_at d s).kind ≡ APin pin negated → is_stored (name_at d s) ≡ true → cell_on d.device pin ≡ Some c → holds_leaf (LeafRead true (leaf.Q c)) l ≡ true → IsDeclared l
  of_q s pin c negated (leaf.Pin q) kind stored on e = absurd cc
  of_q s pin c negated (leaf.Q b) kind stored on e = (s, pin, negated, kind, stored, on ∙ ap (λ i. Some i) (eqb-true c b e))
  of_q s pin c negated (leaf.Node n) kind stored on e = absurd cc

  of_node : (s n : ℕ) (l : Leaf) → (name_at d s).kind ≡ ANode n → holds_leaf (LeafRead true (leaf.Node n)) l ≡ true → IsDeclared l
  of_node s n (leaf.Pin q) kind e = absurd cc
  of_node s n (leaf.Q c) kind e = absurd cc
  of_node s n (leaf.Node m) kind e = (s, kind ∙ ap (λ i. ANode i) (eqb-true n m e))

  pin_declared : (pin : ℕ) (negated : Bool) (e : Option Extension) (l : Leaf) → holds_leaf (pin_source pin negated e) l ≡ true → IsDeclared l
  pin_declared pin negated None l is = of_pin pin l is
  pin_declared pin negated (Some extension.Pin) l is = of_pin pin l is
  pin_declared pin negated (Some extension.Clk) l is = absurd cc
  pin_declared pin negated (Some extension.Oe) l is = absurd cc
  pin_declared pin negated (Some extension.Ar) l is = absurd cc
  pin_declared pin negated (Some extension.Sp) l is = absurd cc
  pin_declared pin negated (Some extension.D) l is = absurd cc
  pin_declared pin negated (Some extension.Q) l is = absurd cc
  pin_declared pin negated (Some extension.Fb) l is = absurd cc

  register_declared : (s pin : ℕ) (negated buffer : Bool) (cell : Option ℕ) (e : Option Extension) (l : Leaf) → (name_at d s).kind ≡ APin pin negated → is_stored (name_at d s) ≡ true → cell_on d.device pin ≡ cell → holds_leaf (register_source negated buffer cell e) l ≡ true → IsDeclared l
  register_declared s pin negated buffer None e l kind stored on is = absurd cc
  register_declared s pin negated buffer (Some c) None l kind stored on is = of_q s pin c negated l kind stored on is
  register_declared s pin negated buffer (Some c) (Some extension.Fb) l kind stored on is = of_q s pin c negated l kind stored on is
  register_declared s pin negated buffer (Some c) (Some extension.Q) l kind stored on is = of_q s pin c negated l kind stored on is
  register_declared s pin negated buffer (Some c) (Some extension.Pin) l kind stored on is = absurd cc
  register_declared s pin negated buffer (Some c) (Some extension.Clk) l kind stored on is = absurd cc
  register_declared s pin negated buffer (Some c) (Some extension.Oe) l kind stored on is = absurd cc
  register_declared s pin negated buffer (Some c) (Some extension.Ar) l kind stored on is = absurd cc
  register_declared s pin negated buffer (Some c) (Some extension.Sp) l kind stored on is = absurd cc
  register_declared s pin negated buffer (Some c) (Some extension.D) l kind stored on is = absurd cc

  by_stored : (s pin : ℕ) (negated : Bool) (stored : Bool) (e : Option Extension) (l : Leaf) → (name_at d s).kind ≡ APin pin negated → is_stored (name_at d s) ≡ stored → holds_leaf (on_pin d.device (name_at d s) pin negated stored e) l ≡ true → IsDeclared l
  by_stored s pin negated true e l kind stored is = register_declared s pin negated (follows_q (name_at d s)) (cell_on d.device pin) e l kind stored refl is
  by_stored s pin negated false e l kind stored is = pin_declared pin negated e l is

  node_declared : (s n : ℕ) (e : Option Extension) (l : Leaf) → (name_at d s).kind ≡ ANode n → holds_leaf (node_source n e) l ≡ true → IsDeclared l
  node_declared s n None l kind is = of_node s n l kind is
  node_declared s n (Some e) l kind is = absurd cc

  by_kind : (s : ℕ) (kind : Kind) (e : Option Extension) (l : Leaf) → (name_at d s).kind ≡ kind → holds_leaf (source_by d.device (name_at d s) kind e) l ≡ true → IsDeclared l
  by_kind s (APin pin negated) e l kind is = by_stored s pin negated (is_stored (name_at d s)) e l kind refl is
  by_kind s (ANode n) e l kind is = node_declared s n e l kind is
  by_kind s (AConstant value) e l kind is = absurd cc
  by_kind s ADeviceName e l kind is = absurd cc

  -- what uses read is declared
  pub read_declared : (us : List SignalUse) (l : Leaf) → uses_read d us l ≡ true → IsDeclared l
  read_declared [] l is = absurd cc
  read_declared (u ∷ us) l is =
      elim (cases_Bool (use_reads d l u)) [
        | inl hit ↦ by_kind u.signal (name_at d u.signal).kind u.extension l refl hit
        | inr miss ↦ read_declared us l (rw miss at is)
      ]

-- ---- what the netlist may read

module _ (d : Design) (laws : IsDevice d.context.device) (numbered : AreNumbered 0 d.context.names) (apart : PinsApart d.context) where
  no_point : Levels
  no_point = record { pins = []; q = []; nodes = [] }

  pub stores_alike : (c : ℕ) → c < length d.context.device.cells → netlist_stores d.context.device (gathered d) c ≡ cell_stores d.context c
  stores_alike c within =
      ap (λ w. registers_as (cell_at d.context.device c).kinds w) (wanted_found d.context (given_formulas d) laws c within)
      ∙ stores_as d laws no_point c within (signal_on d.context c)

  -- the assigned signal of a cell is the one on it
  pub assigned_on : (s c : ℕ) → c < length d.context.device.cells → (name_at d.context s).assigned ≡ true → is_on_pin (cell_at d.context.device c).pin (name_at d.context s).kind ≡ true → signal_on d.context c ≡ Some s
  assigned_on s c within assigned on =
      only_place (λ (x : Entry). x.assigned && is_on_pin (cell_at d.context.device c).pin x.kind) no_name d.context.names s
      (inside d.context s (λ e. true≢false (sym on ∙ ap (λ k. is_on_pin (cell_at d.context.device c).pin k) e)))
      (rw assigned on)
      (λ j hit. apart (cell_at d.context.device c).pin j s (and_parts (name_at d.context j).assigned _ hit).1 on)

  pub wanted_of : (s c : ℕ) → c < length d.context.device.cells → (name_at d.context s).assigned ≡ true → is_on_pin (cell_at d.context.device c).pin (name_at d.context s).kind ≡ true → wanted_at (gathered d) c ≡ Some (wanted_for d.context (given_formulas d) c s (name_at d.context s))
  wanted_of s c within assigned on =
      wanted_found d.context (given_formulas d) laws c within
      ∙ ap (λ f. option_map (λ i. wanted_for d.context (given_formulas d) c i (name_at d.context i)) f) (assigned_on s c within assigned on)

  pub readable : (l : Leaf) → HasColumns d.context l → IsDeclared d.context l → IsReadable d.context.device (gathered d) l
  readable (leaf.Pin p) has declared = (has.0, λ c within on. stores_alike c within ∙ has.1 c within on)
  readable (leaf.Q c) has declared =
      let s = declared.0 in
      let at = position-Some (has_pin declared.1) d.context.device.cells c no_cell declared.5 in
      let on : is_on_pin (cell_at d.context.device c).pin (name_at d.context s).kind ≡ true = rw declared.3 (eq-eqb declared.1 (cell_at d.context.device c).pin (sym (eqb-true (cell_at d.context.device c).pin declared.1 at.1))) in
      (has, (at.0, wanted_for d.context (given_formulas d) c s (name_at d.context s), wanted_of s c at.0 (and_parts (name_at d.context s).words.registered (name_at d.context s).assigned declared.4).1 on, declared.4))
  readable (leaf.Node n) has declared =
      let s = declared.0 in
      let on : is_node_number n (name_at d.context s).kind ≡ true = rw declared.1 (eq-eqb n n refl) in
      let first = some_place (λ (x : Entry). is_node_number n x.kind) no_name d.context.names s (inside d.context s (λ e. true≢false (sym on ∙ ap (λ k. is_node_number n k) e))) on in
      slice_get_within (gathered d).nodes n (function_here d.context (given_formulas d) first.0)
      (node_found d.context (given_formulas d) n numbered ∙ ap (λ f. option_map (function_here d.context (given_formulas d)) f) first.1)
