-- The netlist of a module, once its signals are checked.
use Rattle.std.proofs.Common.{◌≡◌, ℕ, ◌<◌, List, [], ◌∷◌, map, length, get_or, refl, sym, ap, subst, ◌∙◌, All}
use Rattle.design.proofs.Common.{true≢false, All-cons, All-nil, IsDevice, Table, arena, Formula, entries_of, is_signal, ModuleTree, view_module, Context, Design, design_of, names_of, PlainNetlist, plain_netlist, plain_wanted, given_formulas, HasNoSignalLoop, HasNoSignalPath, IsSound, known_of, given, view_contribution, Link, cells_from, gathered_from, netlist_of, inside, AreLinks, AreIdsIn, IsPlaced, IsAccepted, IsSignalOf, AreToNames, UnrefusedIsTakeable, IsDesignFor, HasSoundSignals, IsSignalRefused, HasNoRefusal, IsDesignRefused, AllLeadNowhere, AreSignals, IsLinkedDesign, IsChainTold, IsGathered}
use Rattle.abel_meaning.specs.SoundIds.{no_pair, pair_of_pin, pair_of_cell}
use Rattle.bit_expr.specs.declared.netlist.Netlist.{Netlist}
use Rattle.abel_tree.specs.declared.names.Names.{Names}
use Rattle.abel_tree.specs.declared.sections.Module.{Module}
use Rattle.netlist_laws.specs.FittedCorrect.{MeansTheSame}
use Rattle.set_expr.specs.declared.contributions.Contribution.{Contribution}
use Rattle.set_expr.specs.declared.contributions.Contributions.{Contributions}
use Rattle.set_expr.specs.Answer.{IsContextOf}
use Rattle.netlist_laws.proofs.NodeNumbers.{names_numbered}
use Rattle.gathering.specs.declared.netlist.Gathered.{Gathered}
use Rattle.design.proofs.GivenSignals.{EachSignal, given_signals, reset_had}
use Rattle.design_checks.specs.declared.fault.DesignFault.{DesignFault}
use Rattle.design_checks.specs.declared.fault.DesignFault.TheVariants as fault
use Rattle.design.proofs.CellResets.{none_leads, first_leads}
use Rattle.design.proofs.LinkSizes.{are_signals}
use Rattle.design.proofs.Unlisted.{had, unrefused}
use Rattle.netlist_laws.specs.GatheredCorrect.{GatheredIsSound, GatheredMeansTheSame}

module _ (t : Table) (laws : IsDevice t) (source : Module) (n : Names) (found : Contributions) (names : entries_of n ≡ names_of t (view_module source))
    (accepted : IsAccepted (design_of t (view_module source))) (gives : given found ≡ given_formulas (design_of t (view_module source))) where
  abbrev d : Design
  d = design_of t (view_module source)

  -- it is that of the names, the sections and the contributions
  pub is_design : IsDesignFor t n source found d
  is_design = record { design = record { device = refl; names = sym names; known = ap known_of (sym names) }; sections = refl; gives = gives }

  -- ---- targets

  each_inside : (cs : List Contribution) → EachSignal (IsSignalOf d.context) (map (view_contribution (arena found.exprs)) cs) → AreToNames (length d.context.names) cs
  each_inside [] each = All-nil (λ (c : Contribution). c.target.signal < length d.context.names)
  each_inside (c ∷ cs) each =
      All-cons (λ (c : Contribution). c.target.signal < length d.context.names) c cs
      (inside d.context c.target.signal (λ device. true≢false (sym each.0 ∙ ap is_signal device))) (each_inside cs each.1)

  -- each contribution is to a name
  pub to_names : AreToNames (length (entries_of n)) found.list
  to_names =
      subst (λ xs. AreToNames (length xs) found.list) (sym names)
      (each_inside found.list (subst (EachSignal (IsSignalOf d.context)) (sym gives) (given_signals d accepted.names.known accepted.headers)))

  -- ---- refusals

  -- a refusal of signals is one of the design
  pub by_signals : (f : DesignFault) → IsSignalRefused d (arena found.exprs) found.list f → IsDesignRefused d (arena found.exprs) found.list f
  by_signals (fault.Loop p chain) is = absurd is
  by_signals (fault.ResetReadsRegister p path) is = absurd is
  by_signals fault.OutOfMemory is = tt
  by_signals _ is = is

  -- what is gathered, with its signals and links as slices have them
  module _ (r : Gathered) (ns : List ℕ) (ls : List Link) (plain : (e : Context) → IsContextOf t n e → plain_netlist r.net ≡ gathered_from e (given found))
      (links : (e : Context) → IsContextOf t n e → AreLinks e (given found) r.signals r.links) (signals_same : r.signals ≡ ns) (links_same : r.links ≡ ls) where
    abbrev net : Netlist
    net = r.net

    links_here : AreLinks d.context (given_formulas d) ns ls
    links_here =
        subst (λ cs. AreLinks d.context cs ns ls) gives
        (subst (λ ks. AreLinks d.context (given found) ns ks) links_same (subst (λ xs. AreLinks d.context (given found) xs r.links) signals_same (links d.context is_design.design)))

    pub is_linked : IsLinkedDesign (entries_of n) ns ls d
    is_linked = record { names = sym names; cells = accepted.names.cells; links = links_here }

    pub signals_are : AreSignals ns ls
    signals_are = are_signals d laws accepted.names.nodes (names_numbered t (view_module source)) accepted.names.pins ns ls links_here

    netlist_is : plain_netlist net ≡ netlist_of t (view_module source)
    netlist_is = plain d.context is_design.design ∙ ap (gathered_from d.context) gives

    asked : map (plain_wanted (arena net.exprs)) net.cells ≡ cells_from d.context (given_formulas d) 0 d.context.names
    asked = ap (λ (p : PlainNetlist). p.cells) netlist_is

    module _ (sound : HasSoundSignals d (arena found.exprs) found.list) (placed : All (IsPlaced found.list) net.cells) where
      no_paths : AllLeadNowhere (arena net.exprs) ns ls net.cells → (s : ℕ) → HasNoSignalPath d s
      no_paths = none_leads d (arena net.exprs) ns ls found.list net.cells accepted.names.cells links_here asked placed
          (reset_had d accepted.names.known accepted.headers (arena found.exprs) found.list gives (had d (arena found.exprs) found.list sound))

      pub by_chains : (f : DesignFault) → IsChainTold d (arena net.exprs) ns ls net.cells f → IsDesignRefused d (arena found.exprs) found.list f
      by_chains (fault.Loop p chain) is = (sound, is)
      by_chains (fault.ResetReadsRegister p path) is = (
        sound,
        is.0,
        first_leads d (arena net.exprs) ns ls found.list net.cells accepted.names.cells links_here asked placed
            (reset_had d accepted.names.known accepted.headers (arena found.exprs) found.list gives (had d (arena found.exprs) found.list sound)) p path is.1,
      )
      by_chains fault.OutOfMemory is = tt
      by_chains _ is = absurd is

      -- all that is said of the netlist, if there are no chains
      pub answered : HasNoSignalLoop d → AllLeadNowhere (arena net.exprs) ns ls net.cells → UnrefusedIsTakeable → GatheredIsSound → GatheredMeansTheSame → AreIdsIn net
          → ((p : ℕ) → p < 25 → get_or net.pair_of_pin p no_pair ≡ pair_of_pin t p) → ((c : ℕ) → c < 25 → get_or net.pair_of_cell c no_pair ≡ pair_of_cell t c)
          → IsGathered t (view_module source) (arena found.exprs) found.list net
      answered no_loop nowhere takeable is_sound means_the_same ids pins registers =
          let none : HasNoRefusal d (arena found.exprs) found.list = record { signals = sound; no_loop = no_loop; no_path = no_paths nowhere } in
          let take = takeable d (arena found.exprs) found.list laws accepted gives (unrefused d (arena found.exprs) found.list none) in
          record {
            unrefused = none;
            netlist = netlist_is;
            sound = record {
              nodes = ids.nodes;
              cells = ids.cells;
              pins = pins;
              registers = registers;
              sound = subst (IsSound t) (sym netlist_is) (is_sound t (view_module source) laws take);
            };
            same = subst (MeansTheSame t (view_module source)) (sym netlist_is) (means_the_same t (view_module source) laws take.registers);
            places = placed;
          }
