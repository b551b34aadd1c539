-- Fuses that are decompiled and compiled again run as before.
use Rattle.std.proofs.Common.{◌≡◌, ℕ, ◌≤◌, Bool, true, false, ◌&&◌, Option, None, Some, List, length, refl, sym, ap, subst, ◌∙◌, inl, inr, arith}
use Rattle.decompiler.proofs.Common.{cases_Bool, cases_lt, le-ltb, get_or_past, Model, DoesTheSame, HasNoNodes, IsDevice, device_logic, is_inverted, says, Table, ModuleTree, signal_on, design_of, netlist_of, IsRead, SpellsModule, model_sound, table_at, IsSourceTree, decompiled_text, has_lines, source_of, is_of_fuses, cell_name, say_what_they_do, SourcesAreRight, IsDecompiled, AreLoadable, AsksForItself}
use Rattle.abel_meaning.specs.Choices.{inverting, is_free_signal, source_values_under}
use Rattle.abel_meaning.specs.NetlistLogic.{netlist_logic}
use Rattle.abel_meaning.specs.SourceLogic.{source_logic, source_values}
use Rattle.netlist_laws.specs.FittedCorrect.{DoesWhatItSays, MeansTheSame}
use Rattle.netlist_laws.proofs.Meaning.{gathered_means_the_same}
use Rattle.abel_compile.specs.Statement.{IsRightFile}
use Rattle.abel_compile.proofs.NeverRefused.{spelled}
use Rattle.placer.specs.Placements.{IsPinned}
use Rattle.compile_phases.proofs.PlacedRefusals.{one_placed}
use Rattle.decompiled.proofs.SignalsOn.{lines_declare, on_it, on_none, registers_have_cells}
use Rattle.decompiler.proofs.ReadTexts.{is_decompiled, read_as_source}
use Rattle.decompiler.specs.Recompiled.{RecompiledFusesRunAlike, RunAsBefore}
use Rattle.decompiler.proofs.OneSource.{one_source}
use Rattle.decompiler.proofs.Unexchanged.{same_logic, same_values}

module _ (t : Table) (fuses : List Bool) (laws : IsDevice t) (m : ModuleTree) (is : IsSourceTree (source_of t fuses) m) where
  -- no register of the source is free, whatever fuses say of cells
  none_free : (other : List Bool) (c : ℕ) → inverting (is_inverted t other) (design_of t m).context c ≡ false
  none_free other c = elim (cases_lt c (length t.cells)) [
    | inl within ↦ elim (cases_Bool (has_lines t fuses c)) [
      | inl has ↦
          let x = cell_name t fuses laws m is c within (lines_declare t fuses laws c within has) in
          ap (λ (o : Option ℕ). is_free_signal (design_of t m).context o && is_inverted t other c) (on_it t fuses laws m is c within has)
          ∙ ap (λ (b : Bool). b && is_inverted t other c) x.free
      | inr lacks ↦ ap (λ (o : Option ℕ). is_free_signal (design_of t m).context o && is_inverted t other c) (on_none t fuses laws m is c within lacks)
    ]
    | inr past ↦ ap (λ (b : Bool). is_free_signal (design_of t m).context (signal_on (design_of t m).context c) && b) (plain past) ∙ and_false (is_free_signal (design_of t m).context (signal_on (design_of t m).context c))
  ]
    where
      plain : length t.cells ≤ c → is_inverted t other c ≡ false
      plain past = let end = laws.inverted_end in ap (says other) (get_or_past t.inverted c None (omega (arith, past, end)))

      and_false : (b : Bool) → (b && false) ≡ false
      and_false true = refl
      and_false false = refl

  -- so what does what it says does so without a choice
  unchosen : (other : List Bool) → DoesWhatItSays t m other → DoesTheSame (device_logic t other) (source_logic t m) (source_values t m)
  unchosen other does =
      let x = inverting (is_inverted t other) (design_of t m).context in
      subst (λ v. DoesTheSame (device_logic t other) (source_logic t m) v) (same_values x (none_free other) (source_values t m))
      (subst (λ s. DoesTheSame (device_logic t other) s (source_values_under t m (is_inverted t other))) (same_logic x (none_free other) (source_logic t m)) does)

  no_nodes : HasNoNodes (source_logic t m)
  no_nodes n low =
      let means : MeansTheSame t m (netlist_of t m) = gathered_means_the_same t m laws (registers_have_cells t fuses laws m is) in
      sym (means.to.is_node n low) ∙ ap (λ ns. (netlist_logic t (record (netlist_of t m) { nodes = ns })).is_node n) (is_of_fuses t fuses laws m is).nodes
      ∙ le-ltb n 0 (omega arith)

-- ---- the file's module is that of the text

same_some : (a b : Model) → Some a ≡ Some b → a ≡ b
same_some a b e = cc

module _ (device : Model) (fuses : List Bool) (can : AreLoadable (table_at device) fuses) (asks : AsksForItself device fuses) where
  abbrev t : Table
  t = table_at device

  abbrev text : List ℕ
  text = decompiled_text t fuses

  module _ (means : IsDecompiled t fuses text) (m : ModuleTree) (is : IsSourceTree (source_of t fuses) m) (read : IsRead text m) (name : Model) (file : List ℕ)
      (right : IsRightFile SpellsModule table_at text name file) where
    module_is : right.source ≡ m
    module_is = sym (right.only m (spelled text m read))

    source_is : right.source ≡ means.source
    source_is = sym (right.only means.source (spelled text means.source means.read))

    name_is : name ≡ device
    name_is = same_some name device (sym right.named ∙ asks right.source right.read)

    -- nothing of it is placed
    placed_is : right.placed ≡ m
    placed_is =
        let own : IsPinned t right.source right.source = subst (λ (s : ModuleTree). IsPinned t s s) (sym source_is) means.right.placed.pinned in
        let also : IsPinned t right.source right.placed = subst (λ (n : Model). IsPinned (table_at n) right.source right.placed) name_is right.is_placed in
        one_placed t right.source right.placed right.source also own ∙ module_is

    does_again : DoesWhatItSays t m right.fuses
    does_again =
        subst (λ s. DoesWhatItSays t s right.fuses) placed_is
        (subst (λ n. DoesWhatItSays (table_at n) right.placed right.fuses) name_is right.does)

    as_before : RunAsBefore device name fuses right.fuses
    as_before =
        let laws = model_sound device in
        let says = say_what_they_do t fuses m laws can.size is can.no_loop can.no_path in
        let old = unchosen t fuses laws m is fuses says.does in
        let again = unchosen t fuses laws m is right.fuses does_again in
        let plain = no_nodes t fuses laws m is in
        record {
          same_device = name_is;
          to = one_source (device_logic t right.fuses) (device_logic t fuses) (source_logic t m) (source_values t m) again old
              (λ n low. refl) (λ n low. refl) plain says.one_value;
          from = one_source (device_logic t fuses) (device_logic t right.fuses) (source_logic t m) (source_values t m) old again
              (λ n low. refl) (λ n low. refl) plain says.one_value;
        }

pub run_alike : SourcesAreRight → RecompiledFusesRunAlike
run_alike right device name fuses file can asks of =
    let t : Table = table_at device in
    let read = read_as_source t fuses (model_sound device) (decompiled_text t fuses) refl in
    let means = is_decompiled right t fuses (model_sound device) can.size can.no_loop can.no_path (decompiled_text t fuses) refl in
    as_before device fuses can asks means read.0 read.1 read.2 name file of
