-- A name is seen as its entry.
use Rattle.std.proofs.Common.{Bool, ◌&&◌, sym, ◌∙◌}
use Rattle.std.proofs.lemmas.List.Sums.{length-filter}
use Rattle.abel_meaning.specs.Declarations.{is_unnumbered}
use Rattle.abel_tree.specs.Entries.{Entry, is_stored, view_declared}
use Rattle.abel_tree.specs.declared.names.Declared.{Declared}
use Rattle.model_choice.proofs.Mapped.{count_mapped}
use Rattle.model_choice.proofs.outputs.count_registers.Goals as goal

pub returns : goal.returns
returns c =
    let test : Entry → Bool = λ x. is_stored x && is_unnumbered x.kind in
    c.count_names.ensures
    ∙ (sym (length-filter (λ (d : Declared). test (view_declared d)) c.args.names.now) ∙ sym (count_mapped test view_declared c.args.names.now))
