-- A decompiled source is accepted: nothing is refused of its names, its equations and its design, there is a netlist, and no
-- function is too wide.
use Rattle.std.proofs.Common.{◌≡◌, Bool, List, length}
use Rattle.decompiler.proofs.Common.{HasNoLoop, IsDevice, Table, Netlist, cell_reads, HasNoResetPath, SparesPowerDown, ModuleTree, IsSourceTree, HasDesign, IsNetlistOf, source_of, DesignsAreTakeable}
use Rattle.decompiler.proofs.BuiltNetlists.{netlists_there}
use Rattle.decompiler.proofs.UnrefusedNames.{names_unrefused}
use Rattle.decompiler.proofs.UnrefusedSections.{sections_unrefused}
use Rattle.decompiler.proofs.ContributionsThere.{contributions_there}
use Rattle.decompiler.proofs.UnrefusedDesigns.{designs_unrefused}
use Rattle.decompiler.proofs.Fitting.{sources_are_narrow, sources_fit}
use Rattle.decompiler.specs.Accepted.{SourcesAreAccepted, SourcesFitAsWritten}

module _ (t : Table) (fuses : List Bool) (m : ModuleTree) (laws : IsDevice t) (long : length fuses ≡ t.fuses) (is : IsSourceTree (source_of t fuses) m)
    (no_loop : HasNoLoop (length t.cells) (cell_reads t fuses)) (no_path : HasNoResetPath t fuses) (spares : SparesPowerDown t fuses) where
  pub design : HasDesign t m
  design =
      let there = contributions_there t fuses m laws is in
      record {
        before = record { names = names_unrefused t fuses m laws is; sections = sections_unrefused t fuses m laws is };
        found = there.0;
        contributed = there.1;
        unrefused = designs_unrefused t fuses m laws long is no_loop no_path spares there.0 there.1;
      }

  -- its netlist
  pub built : DesignsAreTakeable → (net : Netlist) × IsNetlistOf t m net
  built takeable =
      netlists_there t m design.found laws (takeable t fuses m laws long is no_loop no_path spares design.found design.contributed) design.contributed

pub sources_accepted : DesignsAreTakeable → SourcesAreAccepted
sources_accepted takeable t fuses m laws long is no_loop no_path spares =
    let net = built t fuses m laws long is no_loop no_path spares takeable in
    record {
      before = design t fuses m laws long is no_loop no_path spares;
      net = net.0;
      netlist = net.1;
      width = sources_are_narrow t fuses m net.0 laws is net.1;
    }

pub sources_fit_as_written : DesignsAreTakeable → SourcesFitAsWritten
sources_fit_as_written takeable t fuses m laws long is no_loop no_path spares =
    let net = built t fuses m laws long is no_loop no_path spares takeable in
    sources_fit t fuses m net.0 laws is net.1
