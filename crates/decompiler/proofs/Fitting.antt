-- A netlist of a decompiled source fits as it is written.
use Rattle.std.proofs.Common.{◌≡◌, Bool, true, false, List, Option, Some, None, refl, sym, subst, ◌∙◌, inl, inr, if◌then◌else◌, unwrap_or}
use Rattle.decompiler.proofs.Common.{IsDevice, Table, Control, Netlist, Leaf, ModuleTree, cell_on, plain_netlist, IsSoundNetlist, Preset, Reset, IsControlTooWide, NoneWide, bit_list, IsNetlistOf, IsNoNode, PinLiteral, IsSourceTree, source_of, IsFusesNetlist, leaf_of, netlists_of_fuses, ReadNoNode}
use Rattle.bit_expr.specs.declared.node.Leaf.TheVariants as leaf
use Rattle.decompiler.specs.Fit.{FusesNetlistsFit, NetlistFits, SourcesAreNarrow, SourcesFit}
use Rattle.decompiler.proofs.CellRooms.{enable_one, room, room_narrow, some_is_none}
use Rattle.decompiler.proofs.SharedRows.{is_shared, own_narrow}

module _ (t : Table) (fuses : List Bool) (leaf_of : PinLiteral → Leaf) (net : Netlist) (laws : IsDevice t) (none : ReadNoNode leaf_of)
    (sound : IsSoundNetlist t net) (is : IsFusesNetlist t fuses leaf_of (plain_netlist net)) where
  control_narrow : (control : Option Control) → ((x : Control) → control ≡ Some x → bit_list net x.bit true ≡ None → ⊥) → IsControlTooWide net control → ⊥
  control_narrow None each wide = wide
  control_narrow (Some x) each wide = each x refl wide

  narrow : NoneWide t net
  narrow c w at (inl wide) = room_narrow t net w (room t fuses leaf_of net laws none sound is c w at) wide
  narrow c w at (inr (inl nothing)) = some_is_none (sym (enable_one t fuses leaf_of net laws none sound is c w at).list_is ∙ nothing)
  narrow c w at (inr (inr (inl wide))) = control_narrow w.reset (λ x e. own_narrow t fuses leaf_of net laws none sound is Reset c w x at e) wide
  narrow c w at (inr (inr (inr wide))) = control_narrow w.preset (λ x e. own_narrow t fuses leaf_of net laws none sound is Preset c w x at e) wide

  fits : NetlistFits t net
  fits =
      record {
        controls = record {
          wide = narrow;
          reset = is_shared t fuses leaf_of net laws none sound is Reset;
          preset = is_shared t fuses leaf_of net laws none sound is Preset;
          enables = λ d w below at. enable_one t fuses leaf_of net laws none sound is d w at;
        };
        rooms = λ c w at. room t fuses leaf_of net laws none sound is c w at;
      }

pub fuses_netlists_fit : FusesNetlistsFit
fuses_netlists_fit t fuses leaf_of net laws none sound is = fits t fuses leaf_of net laws none sound is

-- ---- a decompiled source

reads_no_node : (t : Table) → ReadNoNode (leaf_of t)
reads_no_node t l = by_kind l.of_q
  where
    by_kind : (of_q : Bool) → IsNoNode (if of_q then leaf.Q (unwrap_or (cell_on t l.pin) 0) else leaf.Pin l.pin)
    by_kind true = tt
    by_kind false = tt

source_fits : (t : Table) (fuses : List Bool) (m : ModuleTree) (net : Netlist) → IsDevice t → IsSourceTree (source_of t fuses) m → IsNetlistOf t m net → NetlistFits t net
source_fits t fuses m net laws is of =
    fuses_netlists_fit t fuses (leaf_of t) net laws (reads_no_node t) of.sound
    (subst (IsFusesNetlist t fuses (leaf_of t)) (sym of.plain) (netlists_of_fuses t fuses m laws is))

pub sources_are_narrow : SourcesAreNarrow
sources_are_narrow t fuses m net laws is of = (source_fits t fuses m net laws is of).controls.wide

pub sources_fit : SourcesFit
sources_fit t fuses m net laws is of =
    let fit = source_fits t fuses m net laws is of in
    record { net = net; netlist = of; controls = fit.controls; rooms = fit.rooms }
