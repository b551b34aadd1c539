-- Those that pass the filter are counted.
use Rattle.std.proofs.Common.{rules, ◌&&◌, Bool, ap, ◌∙◌}
use Rattle.std.proofs.lemmas.Iterator.{YieldsList-from_slice}
use Rattle.std.specs.Slice.Iter.{iter_rest}
use Rattle.std.proofs.lemmas.Iterator.Consumers.{YieldsList-from_filter, count_from_yields_List}
use Rattle.std.proofs.lemmas.List.Sums.{length-filter}
use Rattle.abel_meaning.specs.Declarations.{is_unnumbered}
use Rattle.abel_tree.specs.Entries.{is_stored, view_declared}
use Rattle.abel_tree.specs.declared.names.Declared.{Declared}
use Rattle.model_choice.proofs.outputs.count_names.Goals as goal

pub returns : goal.returns
returns c =
    let test : Declared → Bool = λ d. is_stored (view_declared d) && is_unnumbered (view_declared d).kind in
    count_from_yields_List c.filter.result c.count.result c.count.ensures.ran
    (YieldsList-from_filter _ test (YieldsList-from_slice c.args.names.now (ap iter_rest c.filter.ensures.source ∙ c.iter.ensures.rest)) c.filter.ensures.closure (λ x b q k. search rules))
    ∙ length-filter test c.args.names.now
