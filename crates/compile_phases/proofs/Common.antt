-- The words that the proofs of this crate are said in, passed on from one place. Declares nothing.
pub use Rattle.abel_meaning.specs.Designs.{Context, design_of, no_name}
pub use Rattle.abel_meaning.specs.Kinds.{names_of}
pub use Rattle.abel_meaning.specs.Netlists.{PlainNetlist, Wanted, node_at, plain_control, plain_function, plain_netlist, plain_wanted, shared_function}
pub use Rattle.abel_meaning.specs.Netlists.{wanted_at}
pub use Rattle.abel_meaning.specs.SoundIds.{IsSoundNetlist}
pub use Rattle.abel_tree.specs.Entries.{AConstant, ADeviceName, ANode, APin, Entry, Kind, entries_of, is_stored}
pub use Rattle.abel_tree.specs.FirstRefusal.{Ranks, first_refusal}
pub use Rattle.abel_tree.specs.Tree.{ADiagram, ATable, Declarations, DontCareSection, Equations, ModuleTree, RowTree, SectionTree, SomeVectors}
pub use Rattle.abel_tree.specs.View.{view_module}
pub use Rattle.bit_expr.specs.Arena.{formula_at}
unfoldable pub use Rattle.bit_expr.specs.Arena.{arena}
pub use Rattle.bit_expr.specs.Formulas.{And, Const, Formula, Not, Or, Read, Xor, names}
pub use Rattle.bit_expr.specs.declared.netlist.Netlist.{Netlist}
pub use Rattle.bit_expr.specs.declared.node.ExprId.{ExprId}
pub use Rattle.decls.specs.FaultOrder.{name_order}
pub use Rattle.decls.specs.NameRefusals.{first_name_refusal, name_refusals}
pub use Rattle.design_checks.specs.declared.fault.DesignFault.{DesignFault}
pub use Rattle.fitter.specs.Answers.{FitAnswers, HasControls}
pub use Rattle.fitter.specs.Coverable.{IsSoundId}
pub use Rattle.fitter.specs.Width.{IsControlTooWide, IsFirstWide, IsTooWide, NoneWide}
pub use Rattle.fitter.specs.declared.fault.FitFault.{FitFault}
pub use Rattle.placer.specs.Placements.{HasNoPlacement, IsPinned, IsPlacedModule, Pins, module_wishes, placed_with, with_pins}
pub use Rattle.pld_device.specs.Laws.{IsDevice}
pub use Rattle.pld_device.specs.Macrocells.{complement_if}
pub use Rattle.pld_device.specs.Table.{Table, cell_at}
pub use Rattle.reports.specs.Fits.{fit_text}
pub use Rattle.reports.specs.Placings.{first_place}
pub use Rattle.sop_lowering.specs.Products.{Products}
pub use Rattle.sop_lowering.specs.Written.{bit_list, function_of_node, leaf_list, list_of, node_formula, node_list, written}
pub use Rattle.compile_phases.specs.Fits.{FitsAsWritten, HasRoom, IsOfFit, IsUnfitFor}
pub use Rattle.compile_phases.specs.Phases.{IsFitRefused, IsNameFault, IsNetlistFor, IsOfPlacing, IsOfSource, IsRefusedBy, IsRefusedFor, IsWidthFault}
pub use Rattle.compile_phases.specs.SourceRefusals.{HasDesign, IsAcceptedFor, IsDesignRefusedFor, IsRefusedSo}
pub use Rattle.compile_phases.specs.declared.fault.CompileFault.{CompileFault}
pub use Rattle.compile_phases.specs.declared.fault.CompileFault.TheVariants.{Fit, OutOfMemory, Place, Source}
pub use Rattle.compile_phases.specs.declared.fault.SourceFault.{SourceFault}
pub use Rattle.compile_phases.specs.declared.fault.SourceFault.TheVariants.{Design, Expand, Names, Parse, Scan, Sections, Width}
