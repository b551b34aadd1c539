-- One name more asks what it asks, over an arena that grows.
use Rattle.std.proofs.Common.{◌≡◌, ℕ, suc, Bool, true, false, List, [], ◌∷◌, ◌++◌, length, map, append_assoc, Option, Some, None, refl, sym, ap, ◌∙◌, subst, All, option_map, unwrap_or}
use Rattle.gathering.proofs.Common.{All-nil, All-push, map-append, append-nil, Table, cell_at, Control, Formula, Extension, Kind, ANode, Entry, is_stored, control_of, control_if_stored, Context, formulas, function_of, IsFunctionIn, IsControlIn, IsCellIn, Contribution, Totals, contributions_in, AreGiven, first_target, target_place, control_place, by_row, wanted_for, cell_of, cell_by, and_cell, cells_from, and_node, nodes_from, Link, is_node_kind, is_linked, IsLinkOf, AreLinksFrom, control_by_row, control_if, asked_cell, Asks, AsksBefore, IsControlPlaced, IsPlaced}
use Rattle.pld_device.specs.declared.enable.Enable.{Enable}
use Rattle.pld_device.specs.declared.enable.Enable.TheVariants.{Row, PinLow, Driven, Released}
use Rattle.abel_tree.specs.declared.words.Extension.TheVariants as extension
use Rattle.abel_meaning.specs.Contributions as meant
use Rattle.abel_meaning.specs.Functions as meant_function
use Rattle.abel_meaning.specs.Netlists.{plain_function, plain_control, plain_wanted}
use Rattle.gathering.specs.declared.asked.Asked.{Asked}

-- ---- a cell of a signal

row_seen : (fs : List Formula) (e : Enable) (control : Option Control) → plain_control fs (control_by_row e control) ≡ by_row e (plain_control fs control)
row_seen fs (Row row) control = refl
row_seen fs (PinLow pin) control = refl
row_seen fs Driven control = refl
row_seen fs Released control = refl

row_inside : (count : ℕ) (e : Enable) (control : Option Control) → IsControlIn count control → IsControlIn count (control_by_row e control)
row_inside count (Row row) control inside = inside
row_inside count (PinLow pin) control inside = tt
row_inside count Driven control inside = tt
row_inside count Released control inside = tt

if_inside : (count : ℕ) (stored : Bool) (control : Option Control) → IsControlIn count control → IsControlIn count (control_if stored control)
if_inside count true control inside = inside
if_inside count false control inside = tt

if_seen : (fs : List Formula) (d : Context) (cs : List (meant.Contribution Formula)) (e : Extension) (s : ℕ) (x : Entry) (stored : Bool) (control : Option Control) → is_stored x ≡ stored → plain_control fs control ≡ control_of (formulas d) cs s e
    → plain_control fs (control_if stored control) ≡ control_if_stored (formulas d) cs e s x
if_seen fs d cs e s x true control is same = rw is same
if_seen fs d cs e s x false control is same = rw is refl

placed : (cs : List Contribution) (s : ℕ) (e : Extension) (control : Option Control) → control_place control ≡ target_place (first_target s e cs) → IsControlPlaced cs s e control
placed cs s e control same c is = sym same ∙ ap (λ o. control_place o) is

row_placed : (cs : List Contribution) (s : ℕ) (e : Extension) (enable : Enable) (control : Option Control) → IsControlPlaced cs s e control → IsControlPlaced cs s e (control_by_row enable control)
row_placed cs s e (Row row) control is = is
row_placed cs s e (PinLow pin) control is = λ c none. absurd cc
row_placed cs s e Driven control is = λ c none. absurd cc
row_placed cs s e Released control is = λ c none. absurd cc

if_placed : (cs : List Contribution) (s : ℕ) (e : Extension) (stored : Bool) (control : Option Control) → IsControlPlaced cs s e control → IsControlPlaced cs s e (control_if stored control)
if_placed cs s e true control is = is
if_placed cs s e false control is = λ c none. absurd cc

module _ (t : Table) (old new : List Formula) (cs : List Contribution) (c s : ℕ) (x : Entry) (totals : Totals) (given : AreGiven old new cs s totals) where
  cell_seen : (d : Context) → d.device ≡ t → plain_wanted new (asked_cell t c s x totals) ≡ wanted_for d (contributions_in old cs) c s x
  cell_seen d e =
      rw (e, row_seen new (cell_at t c).enable totals.controls.enable, given.enable.is d, given.function.is d, given.raw, if_seen new d (contributions_in old cs) extension.Ar s x (is_stored x) totals.controls.reset refl (given.reset.is d), if_seen new d (contributions_in old cs) extension.Sp s x (is_stored x) totals.controls.preset refl (given.preset.is d)) refl

  cell_inside : IsCellIn (length new) (asked_cell t c s x totals)
  cell_inside = record {
    function = given.function.inside;
    enable = row_inside (length new) (cell_at t c).enable totals.controls.enable given.enable.inside;
    reset = if_inside (length new) (is_stored x) totals.controls.reset given.reset.inside;
    preset = if_inside (length new) (is_stored x) totals.controls.preset given.preset.inside;
  }

  cell_placed : IsPlaced cs (asked_cell t c s x totals)
  cell_placed = record {
    place = λ p is. ap (λ o. unwrap_or o x.place) (given.place ∙ is);
    enable = row_placed cs s extension.Oe (cell_at t c).enable totals.controls.enable (placed cs s extension.Oe totals.controls.enable given.enable.place);
    reset = if_placed cs s extension.Ar (is_stored x) totals.controls.reset (placed cs s extension.Ar totals.controls.reset given.reset.place);
    preset = if_placed cs s extension.Sp (is_stored x) totals.controls.preset (placed cs s extension.Sp totals.controls.preset given.preset.place);
  }

-- ---- one more

node_is : (kind : Kind) (f : meant_function.Function Formula) (fs : List (meant_function.Function Formula)) → is_node_kind kind ≡ true → f ∷ fs ≡ and_node kind f fs
node_is (ANode n) f fs is = refl
node_is _ f fs is = absurd cc

no_node : (kind : Kind) (f : meant_function.Function Formula) (fs : List (meant_function.Function Formula)) → is_node_kind kind ≡ false → fs ≡ and_node kind f fs
no_node (ANode n) f fs is = absurd cc
no_node _ f fs is = refl

no_cell_by : (t : Table) (x : Entry) (kind : Kind) → is_node_kind kind ≡ true → cell_by t x kind ≡ None
no_cell_by t x (ANode n) is = refl
no_cell_by t x _ is = absurd cc

no_node_by : (t : Table) (x : Entry) (kind : Kind) (c : ℕ) → cell_by t x kind ≡ Some c → is_node_kind kind ≡ false
no_node_by t x (ANode n) c is = absurd cc
no_node_by t x _ c is = refl

-- a list with one more, before what is left
pushed_before : {A B : Type 0} (f : A → B) (ws more : List A) (w : A) (v : B) (left : List B) → more ≡ ws ++ w ∷ [] → f w ≡ v → map f more ++ left ≡ map f ws ++ v ∷ left
pushed_before f ws more w v left pushed is =
    ap (λ xs. map f xs ++ left) pushed ∙ ap (λ xs. xs ++ left) (map-append f ws (w ∷ [])) ∙ append_assoc (map f ws) (f w ∷ []) left ∙ ap (λ x. map f ws ++ x ∷ left) is

module _ (t : Table) (first now : List Formula) (cs : List Contribution) (xs left : List Entry) (x : Entry) (asked : Asked) (s : ℕ) (asks : AsksBefore t first now cs xs s (x ∷ left) asked) where
  abbrev seen : List (meant.Contribution Formula)
  seen = contributions_in first cs

  -- by whether the name is a node, and by its cell
  nodes_by : (d : Context) (more : List (meant_function.Function Formula)) → more ≡ and_node x.kind (function_of (formulas d) seen s) (nodes_from d seen (suc s) left)
      → map (plain_function now) asked.nodes.items ++ more ≡ nodes_from d seen 0 xs
  nodes_by d more is = ap (λ fs. map (plain_function now) asked.nodes.items ++ fs) is ∙ asks.nodes d

  cells_by : (d : Context) (o : Option ℕ) → d.device ≡ t → cell_of t x ≡ o
      → map (plain_wanted now) asked.cells.items ++ and_cell (option_map (λ c. wanted_for d seen c s x) o) (cells_from d seen (suc s) left) ≡ cells_from d seen 0 xs
  cells_by d o e is =
      ap (λ k. map (plain_wanted now) asked.cells.items ++ and_cell (option_map (λ c. wanted_for d seen c s x) k) (cells_from d seen (suc s) left)) (sym (ap (λ y. cell_of y x) e ∙ is))
      ∙ asks.cells d e

  module _ (totals : Totals) (given : AreGiven first now cs s totals) (link : Link) (of : (d : Context) → d.device ≡ t → IsLinkOf d seen s x link)
      (more : Asked) (signals : more.signals.items ≡ asked.signals.items ++ s ∷ []) (links : more.links.items ≡ asked.links.items ++ link ∷ []) where
    linked_more : (d : Context) → d.device ≡ t → is_linked t x ≡ true
        → (ns : List ℕ) (ls : List Link) → AreLinksFrom d seen (suc s) left ns ls → AreLinksFrom d seen 0 xs (more.signals.items ++ ns) (more.links.items ++ ls)
    linked_more d e linked ns ls are =
        subst (λ ms. AreLinksFrom d seen 0 xs ms (more.links.items ++ ls)) (sym (ap (λ ms. ms ++ ns) signals ∙ append_assoc asked.signals.items (s ∷ []) ns))
        (subst (λ ks. AreLinksFrom d seen 0 xs (asked.signals.items ++ s ∷ ns) ks) (sym (ap (λ ks. ks ++ ls) links ∙ append_assoc asked.links.items (link ∷ []) ls))
        (asks.links d e (s ∷ ns) (link ∷ ls) (rw (ap (λ y. is_linked y x) e ∙ linked) (refl, of d e, are))))

    -- a node asks for its function
    pub asks_node : more.nodes.items ≡ asked.nodes.items ++ totals.function ∷ [] → more.cells.items ≡ asked.cells.items → is_node_kind x.kind ≡ true → AsksBefore t first now cs xs (suc s) left more
    asks_node pushed kept node = record {
      nodes = λ d.
          let function = function_of (formulas d) seen s in
          let later = nodes_from d seen (suc s) left in
          pushed_before (plain_function now) asked.nodes.items more.nodes.items totals.function function later pushed (given.function.is d)
          ∙ nodes_by d (function ∷ later) (node_is x.kind function later node);
      cells = λ d e. ap (λ ws. map (plain_wanted now) ws ++ cells_from d seen (suc s) left) kept ∙ cells_by d None e (no_cell_by t x x.kind node);
      nodes_in = subst (All (IsFunctionIn (length now))) (sym pushed) (All-push (IsFunctionIn (length now)) asked.nodes.items totals.function asks.nodes_in given.function.inside);
      cells_in = subst (All (IsCellIn (length now))) (sym kept) asks.cells_in;
      places = subst (All (IsPlaced cs)) (sym kept) asks.places;
      links = λ d e. linked_more d e (rw node refl);
    }

    -- an assigned signal asks its cell
    pub asks_cell : (c : ℕ) → more.nodes.items ≡ asked.nodes.items → more.cells.items ≡ asked.cells.items ++ asked_cell t c s x totals ∷ [] → cell_of t x ≡ Some c → AsksBefore t first now cs xs (suc s) left more
    asks_cell c kept pushed on = record {
      nodes = λ d.
          let later = nodes_from d seen (suc s) left in
          ap (λ ws. map (plain_function now) ws ++ later) kept ∙ nodes_by d later (no_node x.kind (function_of (formulas d) seen s) later other);
      cells = λ d e.
          pushed_before (plain_wanted now) asked.cells.items more.cells.items (asked_cell t c s x totals) (wanted_for d seen c s x) (cells_from d seen (suc s) left) pushed (cell_seen t first now cs c s x totals given d e)
          ∙ cells_by d (Some c) e on;
      nodes_in = subst (All (IsFunctionIn (length now))) (sym kept) asks.nodes_in;
      cells_in = subst (All (IsCellIn (length now))) (sym pushed) (All-push (IsCellIn (length now)) asked.cells.items (asked_cell t c s x totals) asks.cells_in (cell_inside t first now cs c s x totals given));
      places = subst (All (IsPlaced cs)) (sym pushed) (All-push (IsPlaced cs) asked.cells.items (asked_cell t c s x totals) asks.places (cell_placed t first now cs c s x totals given));
      links = λ d e. linked_more d e (rw (other, on) refl);
    }
      where
        other : is_node_kind x.kind ≡ false
        other = no_node_by t x x.kind c on

-- ---- none, and all

pub none_asked : (t : Table) (first now : List Formula) (cs : List Contribution) (xs : List Entry) (asked : Asked) → asked.nodes.items ≡ [] → asked.cells.items ≡ [] → asked.signals.items ≡ [] → asked.links.items ≡ [] → AsksBefore t first now cs xs 0 xs asked
none_asked t first now cs xs asked nodes cells signals links = record {
  nodes = λ d. ap (λ ws. map (plain_function now) ws ++ nodes_from d (contributions_in first cs) 0 xs) nodes;
  cells = λ d e. ap (λ ws. map (plain_wanted now) ws ++ cells_from d (contributions_in first cs) 0 xs) cells;
  nodes_in = subst (All (IsFunctionIn (length now))) (sym nodes) (All-nil (IsFunctionIn (length now)));
  cells_in = subst (All (IsCellIn (length now))) (sym cells) (All-nil (IsCellIn (length now)));
  places = subst (All (IsPlaced cs)) (sym cells) (All-nil (IsPlaced cs));
  links = λ d e ns ls are. rw (signals, links) are;
}

pub all_asked : (t : Table) (first now : List Formula) (cs : List Contribution) (xs : List Entry) (s : ℕ) (asked : Asked) → AsksBefore t first now cs xs s [] asked → Asks t first now cs xs asked
all_asked t first now cs xs s asked asks = record {
  nodes = λ d. sym (append-nil (map (plain_function now) asked.nodes.items)) ∙ asks.nodes d;
  cells = λ d e. sym (append-nil (map (plain_wanted now) asked.cells.items)) ∙ asks.cells d e;
  nodes_in = asks.nodes_in;
  cells_in = asks.cells_in;
  places = asks.places;
  links = λ d e.
      subst (λ ns. AreLinksFrom d (contributions_in first cs) 0 xs ns asked.links.items) (append-nil asked.signals.items)
      (subst (λ ls. AreLinksFrom d (contributions_in first cs) 0 xs (asked.signals.items ++ []) ls) (append-nil asked.links.items) (asks.links d e [] [] (refl, refl)));
}
